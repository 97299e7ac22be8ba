use Rattle.std.proofs.Common.{◌≡◌, ◌<◌, ◌-◌, ◌^◌, ℕ, Some, None, sym, ap, subst, ◌∙◌}
use Rattle.std.proofs.lemmas.Result.{on_ok_weaker}
use Rattle.vs_script.specs.declared.command.Command.TheVariants.{Close}
use Rattle.vs_machine.specs.State as machine
use Rattle.vs_state.specs.declared.state.State.{State}
use Rattle.vs_state.specs.Tables.{numbered}
use Rattle.vs_core.proofs.reserving.reserve_kinds.Goals as goal

pub returns-in_err-reserve_outcomes-clause-same : goal.returns-in_err-reserve_outcomes-clause-same
returns-in_err-reserve_outcomes-clause-same c = c.reserve_outcomes.ensures.same ∙ c.reserve_references.ensures.same

pub returns-clause-same : goal.returns-clause-same
returns-clause-same c = c.reserve_answers.ensures.same ∙ c.reserve_outcomes.ensures.same ∙ c.reserve_references.ensures.same

pub returns-clause-ready : goal.returns-clause-ready
returns-clause-ready c =
    let clients = ap (λ (v : State). v.clients) c.reserve_answers.ensures.rest in
    let sets = ap (λ (v : State). v.sets) c.reserve_answers.ensures.rest ∙ ap (λ (v : State). v.sets) c.reserve_outcomes.ensures.rest in
    on_ok_weaker c.reserve_answers.result (λ answers. record {
      references = λ x t there. c.in_ok-reserve_references.ensures.room x t (sym (ap (λ ts. numbered Some None ts.items x) sets) ∙ there);
      outcomes = λ k t there. c.in_ok-reserve_outcomes.ensures.room k t (sym (ap (λ ts. numbered Some None ts.items k) clients) ∙ there);
      answers = answers;
      epochs = subst (λ (m : machine.State). (o x y : ℕ) → machine.next_command (m.operator o) ≡ Some (Close x y) → (m.link x y).epoch < 2 ^ 63 - 1) (sym (returns-clause-same c)) c.if-not-can_close_next.ensures;
    }) c.reserve_answers.ensures.room
