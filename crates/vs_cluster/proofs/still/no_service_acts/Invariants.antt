use Rattle.std.proofs.Common.{◌≡◌, ℕ, ◌≤◌, true}
use Rattle.vs_core.specs.Core.{means}
use Rattle.vs_machine.specs.Actors.{HasEvent, Service}
use Rattle.vs_cluster.proofs.still.no_service_acts.Given as goal

abbrev pub invariant-loop-index : goal.invariant-loop-index
invariant-loop-index l = (x : ℕ) → 1 ≤ x → x ≤ l.index → (means l.core).up x ≡ true → HasEvent (means l.core) (Service x) → ⊥
