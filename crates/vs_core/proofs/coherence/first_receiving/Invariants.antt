use Rattle.std.proofs.Common.{◌≡◌, ℕ, ◌≤◌, false}
use Rattle.vs_state.specs.Plain.{plain}
use Rattle.vs_machine.specs.Kinds.Connections.{is_receiving}
use Rattle.vs_core.proofs.coherence.first_receiving.Given as goal

abbrev pub invariant-loop-index : goal.invariant-loop-index
invariant-loop-index l = (k : ℕ) → 1 ≤ k → k ≤ l.index → is_receiving (((plain l.state).bucket l.bucket).entry k) ≡ false
