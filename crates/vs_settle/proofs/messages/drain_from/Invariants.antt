use Rattle.vs_settle.proofs.Drained.{Emptying}
use Rattle.vs_settle.proofs.Stopping.{Along}
use Rattle.vs_settle.proofs.messages.drain_from.Given as goal

abbrev pub invariant-loop-index : goal.invariant-loop-index
invariant-loop-index g l = Along g.D.Disk.told l.initial.world l.world (Emptying l.initial.world.played l.initial.steps l.world.played l.steps l.from l.index)
