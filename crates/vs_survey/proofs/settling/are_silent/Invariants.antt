use Rattle.std.proofs.Common.{ℕ, ◌≤◌}
use Rattle.vs_state.specs.Plain.{plain}
use Rattle.vs_survey.specs.Readers.{IsSilentFrom}
use Rattle.vs_survey.proofs.settling.are_silent.Given as goal

abbrev pub invariant-loop-index : goal.invariant-loop-index
invariant-loop-index l = (x : ℕ) → 1 ≤ x → x ≤ l.index → IsSilentFrom (plain l.state) x
