use Rattle.std.proofs.Common.{◌≡◌, take}
use Rattle.std.specs.List.{All}
use Rattle.vs_event.specs.declared.event.Event.TheVariants.{Haul}
use Rattle.vs_machine.specs.Actors.{IsPossible}
use Rattle.vs_core.specs.Core.{means}
use Rattle.vs_choose.proofs.mover.next_haul_of.Given as goal

abbrev pub invariant-loop-route : goal.invariant-loop-route
invariant-loop-route l = All (λ r. r.giver ≡ l.set → IsPossible (means l.core) (Haul l.operator l.set r.taker) → ⊥) (take l.route-index l.route-items)
