use Rattle.std.proofs.Common.{◌≡◌, ℕ, ◌≤◌, false}
use Rattle.vs_machine.specs.Kinds.Rebalancing.{is_in_move}
use Rattle.vs_state.specs.Plain.{plain}
use Rattle.vs_state.proofs.state.State.first_in_move.Given as goal

abbrev pub invariant-loop-index : goal.invariant-loop-index
invariant-loop-index l = (k : ℕ) → 1 ≤ k → k ≤ l.index → is_in_move (plain l.self) k ≡ false
