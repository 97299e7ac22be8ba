use Rattle.vs_settle.specs.Tasks.{level}
use Rattle.vs_settle.proofs.Sweeping.{Sweeping}
use Rattle.vs_settle.proofs.Stopping.{Along}
use Rattle.vs_settle.proofs.entries.settle_sets.Given as goal

abbrev pub invariant-loop-index : goal.invariant-loop-index
invariant-loop-index g l = Along g.D.Disk.told l.initial.world l.world (Sweeping l.initial.world.played l.initial.steps l.world.played l.steps l.bucket (level l.task) l.index)
