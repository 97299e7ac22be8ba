use Rattle.std.proofs.Common.{◌≡◌, take, map}
use Rattle.vs_record.specs.States.{durable}
use Rattle.vs_world.proofs.opening.copy_states.Given as goal

abbrev pub invariant-loop-state : goal.invariant-loop-state
invariant-loop-state l = map durable l.copies.items ≡ map durable (take l.state-index l.states)
