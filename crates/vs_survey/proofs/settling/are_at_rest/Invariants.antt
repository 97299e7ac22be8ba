use Rattle.std.proofs.Common.{ℕ, ◌≤◌}
use Rattle.vs_state.specs.Plain.{plain}
use Rattle.vs_survey.specs.Readers.{IsAtRest}
use Rattle.vs_survey.proofs.settling.are_at_rest.Given as goal

abbrev pub invariant-loop-index : goal.invariant-loop-index
invariant-loop-index l = (x : ℕ) → 1 ≤ x → x ≤ l.index → IsAtRest (plain l.state) x
