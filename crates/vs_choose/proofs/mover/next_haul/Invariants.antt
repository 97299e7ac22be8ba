use Rattle.std.proofs.Common.{ℕ, ◌≤◌}
use Rattle.vs_event.specs.declared.event.Event.TheVariants.{Haul}
use Rattle.vs_core.specs.Core.{means}
use Rattle.vs_machine.specs.Actors.{IsPossible}
use Rattle.vs_choose.proofs.mover.next_haul.Given as goal

abbrev pub invariant-loop-index : goal.invariant-loop-index
invariant-loop-index l = (k : ℕ) → 1 ≤ k → k ≤ l.index → (d : ℕ) → IsPossible (means l.core) (Haul k l.set d) → ⊥
