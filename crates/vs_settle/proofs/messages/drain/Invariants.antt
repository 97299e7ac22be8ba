use Rattle.vs_world.specs.Played.{state_of}
use Rattle.vs_settle.specs.Weight.{load}
use Rattle.vs_settle.proofs.Lines.{Draining}
use Rattle.vs_settle.proofs.Stopping.{Along}
use Rattle.vs_settle.proofs.messages.drain.Given as goal

abbrev pub invariant-loop-event : goal.invariant-loop-event
invariant-loop-event g l = Along g.D.Disk.told l.initial.world l.world (Draining l.initial.world.played l.initial.steps l.world.played l.steps l.from l.to)

abbrev pub decreases-loop-event : goal.decreases-loop-event
decreases-loop-event g l = load ((state_of l.world.played).link l.from l.to)
