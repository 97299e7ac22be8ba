use Rattle.vs_settle.proofs.Sweeping.{Placing}
use Rattle.vs_settle.proofs.Stopping.{Along}
use Rattle.vs_settle.proofs.entries.settle_buckets.Given as goal

abbrev pub invariant-loop-index : goal.invariant-loop-index
invariant-loop-index g l = Along g.D.Disk.told l.initial.world l.world (Placing l.initial.world.played l.initial.steps l.world.played l.steps l.index)
