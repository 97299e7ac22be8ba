use Rattle.vs_stores.specs.OpenedStores.{AreReady, AreEmpty, AreUnwritten}
use Rattle.vs_stores.proofs.ready.make_ready.Given as goal

abbrev pub invariant-loop-i : goal.invariant-loop-i
invariant-loop-i g l = record {
  ready : AreReady g.D.Disk.told l.i l.disks.items;
  empty : AreEmpty g.D.Disk.told l.i l.disks.items l.are_empty;
  unwritten : AreUnwritten g.D.Disk.told l.i l.fn.disks.items l.disks.items;
}
