use Rattle.vs_stores.proofs.Opening.{SoFar}
use Rattle.vs_stores.proofs.stores.Stores.open.Given as goal

abbrev pub invariant-heads : goal.invariant-heads
invariant-heads g l = SoFar l.heads l.fn.limit l.fn.disks.items l.all l.states.items l.head-index
