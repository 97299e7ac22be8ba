use Rattle.std.proofs.Common.{◌≡◌, ℕ, true, sym, subst}
use Rattle.std.specs.Prelude.{◌↔◌}
use Rattle.vs_machine.specs.Settling.{IsSettled}
use Rattle.vs_machine.specs.Whole.{Whole}
use Rattle.vs_state.specs.declared.state.State.{State}
use Rattle.vs_state.specs.Plain.{plain}
use Rattle.vs_survey.proofs.settling.settled.Goals as goal

pub is_settled-requires-clause-whole : goal.is_settled-requires-clause-whole
is_settled-requires-clause-whole c =
    subst (λ (s : State). (own : ℕ → ℕ) × Whole own (plain s)) (sym c.state.ensures.value) (c.every_event.ensures.whole (plain c.args.core.now.state) c.state.ensures.reached)

pub returns : goal.returns
returns c = subst (λ (s : State). (c.is_settled.result ≡ true) ↔ IsSettled (plain s)) c.state.ensures.value c.is_settled.ensures
