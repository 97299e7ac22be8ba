use Rattle.std.proofs.Common.{◌≡◌, ℕ, ◌≤◌, true}
use Rattle.vs_state.specs.Plain.{plain}
use Rattle.vs_survey.proofs.settling.are_up.Given as goal

abbrev pub invariant-loop-index : goal.invariant-loop-index
invariant-loop-index l = (x : ℕ) → 1 ≤ x → x ≤ l.index → (plain l.state).up x ≡ true
