use Rattle.vs_settle.proofs.Raises.{Raising}
use Rattle.vs_settle.proofs.raising.raise_sets.Given as goal

abbrev pub invariant-loop-index : goal.invariant-loop-index
invariant-loop-index g l = Raising g.D.Disk.told l.initial.world l.initial.steps l.world l.steps l.index
