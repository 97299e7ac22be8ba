use Rattle.std.proofs.Common.{◌≡◌, ◌≤◌, ◌-◌, true, is_some, length}
use Rattle.vs_disk.proofs.file.FileDiskDisk.read.Given as goal

abbrev pub invariant-loop-done : goal.invariant-loop-done
invariant-loop-done g l = record {
  is_open : is_some l.self.file ≡ true;
  faults : l.self.faults ≡ l.fn.self.faults;
  room : l.self.room ≡ l.fn.self.room;
  within : l.done ≤ length l.into;
}

abbrev pub decreases-loop-done : goal.decreases-loop-done
decreases-loop-done g l = length l.into - l.done
