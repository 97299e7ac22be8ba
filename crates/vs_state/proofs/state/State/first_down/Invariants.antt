use Rattle.std.proofs.Common.{◌≡◌, ℕ, ◌≤◌, true}
use Rattle.vs_state.specs.Plain.{plain}
use Rattle.vs_state.proofs.state.State.first_down.Given as goal

abbrev pub invariant-loop-index : goal.invariant-loop-index
invariant-loop-index l = (k : ℕ) → 1 ≤ k → k ≤ l.index → (plain l.self).up k ≡ true
