use Rattle.std.proofs.Common.{ℕ, ◌≤◌}
use Rattle.vs_core.specs.Core.{means}
use Rattle.vs_machine.specs.Actors.{HasEvent, Mover}
use Rattle.vs_cluster.proofs.still.no_mover_acts.Given as goal

abbrev pub invariant-loop-index : goal.invariant-loop-index
invariant-loop-index l = (x : ℕ) → 1 ≤ x → x ≤ l.index → HasEvent (means l.core) (Mover x) → ⊥
