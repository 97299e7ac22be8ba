use Rattle.std.proofs.Common.{length}
use Rattle.vs_world.specs.Played.{state_of}
use Rattle.vs_settle.proofs.Settling.{Wiping}
use Rattle.vs_settle.proofs.Stopping.{Along}
use Rattle.vs_settle.proofs.entries.collect.Given as goal

abbrev pub invariant-loop-world : goal.invariant-loop-world
invariant-loop-world g l = Along g.D.Disk.told l.initial.world l.world (Wiping l.initial.world.played l.initial.steps l.world.played l.steps l.set l.bucket)

abbrev pub decreases-loop-world : goal.decreases-loop-world
decreases-loop-world g l = length (((state_of l.world.played).bucket l.bucket).rows l.set)
