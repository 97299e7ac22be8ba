use Rattle.std.proofs.Common.{ℕ, ◌≤◌}
use Rattle.vs_core.specs.Core.{means}
use Rattle.vs_machine.specs.Actors.{HasEvent, Operator}
use Rattle.vs_cluster.proofs.still.no_operator_acts.Given as goal

abbrev pub invariant-loop-index : goal.invariant-loop-index
invariant-loop-index l = (o : ℕ) → 1 ≤ o → o ≤ l.index → HasEvent (means l.core) (Operator o) → ⊥
