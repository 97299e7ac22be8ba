use Rattle.std.proofs.Common.{ℕ, ◌≤◌}
use Rattle.vs_state.specs.Plain.{plain}
use Rattle.vs_machine.specs.Settling.{HasNoMessage}
use Rattle.vs_survey.proofs.settling.is_silent_from.Given as goal

abbrev pub invariant-loop-index : goal.invariant-loop-index
invariant-loop-index l = (y : ℕ) → 1 ≤ y → y ≤ l.index → HasNoMessage (plain l.state) l.from y
