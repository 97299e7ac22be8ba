use Rattle.vs_settle.proofs.Drained.{Quieting}
use Rattle.vs_settle.proofs.Stopping.{Along}
use Rattle.vs_settle.proofs.messages.settle_messages.Given as goal

abbrev pub invariant-loop-index : goal.invariant-loop-index
invariant-loop-index g l = Along g.D.Disk.told l.initial.world l.world (Quieting l.initial.world.played l.initial.steps l.world.played l.steps l.index)
