use Rattle.std.proofs.Common.{◌≡◌, ℕ, ◌≤◌, false}
use Rattle.vs_state.specs.Plain.{plain}
use Rattle.vs_core.specs.Opening.{has_it}
use Rattle.vs_core.proofs.coherence.first_having.Given as goal

abbrev pub invariant-loop-index : goal.invariant-loop-index
invariant-loop-index l = (k : ℕ) → 1 ≤ k → k ≤ l.index → has_it (((plain l.state).bucket l.bucket).entry k) ≡ false
