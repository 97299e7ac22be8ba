use Rattle.std.proofs.Common.{◌≡◌, ap, sym, subst, ◌∙◌}
use Rattle.std.specs.Prelude.{IfOk}
use Rattle.vs_legal.specs.Laws.{AreBasesNamed}
use Rattle.vs_machine.specs.Report as machine
use Rattle.vs_machine.specs.Runs.{IsReached}
use Rattle.vs_machine.specs.State.{State}
use Rattle.vs_state.specs.Plain.{plain}
use Rattle.vs_world.specs.Played.{state_of}
use Rattle.vs_run.proofs.telling.report_of.Goals as goal

pub report-requires-clause-within : goal.report-requires-clause-within
report-requires-clause-within g c =
    let reached = subst IsReached (sym (ap plain c.state-state.ensures.value)) c.state-state.ensures.reached in
    (c.every_event.ensures.whole (plain c.state-state.result.now) reached).1.known

pub returns-clause-text : goal.returns-clause-text
returns-clause-text g c =
    let is : plain c.state-state.result.now ≡ state_of c.args.world.now.played = ap plain c.state-state.ensures.value ∙ c.core.ensures.state in
    subst (λ (s : State). IfOk c.report.result (λ text. text.items ≡ machine.report s)) is c.report.ensures

pub returns-clause-named : goal.returns-clause-named
returns-clause-named g c =
    let is : plain c.state-state.result.now ≡ state_of c.args.world.now.played = ap plain c.state-state.ensures.value ∙ c.core.ensures.state in
    subst AreBasesNamed is c.bases_are_named.ensures
