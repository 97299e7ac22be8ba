use Rattle.std.proofs.Common.{◌≡◌, List, ap, sym, subst, ◌∙◌}
use Rattle.std.specs.Prelude.{IfOk}
use Rattle.vs_event.specs.declared.event.Event.{Event}
use Rattle.vs_machine.specs.Runs.{IsReached}
use Rattle.vs_machine.specs.State.{State}
use Rattle.vs_state.specs.Plain.{plain}
use Rattle.vs_world.specs.Played.{state_of}
use Rattle.vs_generating.specs.Summary.{summary_text}
use Rattle.vs_generating.proofs.command.summary_of.Goals as goal

pub summary-requires-clause-buckets : goal.summary-requires-clause-buckets
summary-requires-clause-buckets c =
    let reached = subst IsReached (sym (ap plain c.state.ensures.value)) c.state.ensures.reached in
    (c.every_event.ensures.whole (plain c.state.result.now) reached).1.known

pub summary-requires-clause-few : goal.summary-requires-clause-few
summary-requires-clause-few c =
    let reached = subst IsReached (sym (ap plain c.state.ensures.value)) c.state.ensures.reached in
    c.given_inputs.ensures.few (plain c.state.result.now) reached

pub summary-requires-clause-within : goal.summary-requires-clause-within
summary-requires-clause-within c =
    let reached = subst IsReached (sym (ap plain c.state.ensures.value)) c.state.ensures.reached in
    c.due_answers.ensures.within (plain c.state.result.now) reached

pub returns : goal.returns
returns c =
    let is : plain c.state.result.now ≡ state_of c.args.world.now.played = ap plain c.state.ensures.value ∙ c.core.ensures.state in
    let events : c.as_slice.result.now ≡ c.args.world.now.played.events = c.as_slice.ensures ∙ c.trace.ensures.events in
    subst (λ (es : List Event). IfOk c.summary.result (λ text. text.items ≡ summary_text c.args.number (state_of c.args.world.now.played) es)) events
    (subst (λ (s : State). IfOk c.summary.result (λ text. text.items ≡ summary_text c.args.number s c.as_slice.result.now)) is c.summary.ensures)
