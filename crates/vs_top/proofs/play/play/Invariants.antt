use Rattle.vs_top.proofs.play.play.Given as goal
use Rattle.vs_top.specs.Stops.{HasPlayed}

abbrev pub invariant-loop-i : goal.invariant-loop-i
invariant-loop-i g l = HasPlayed g.D.Disk.told l.fn.world l.world l.trace.items l.i
