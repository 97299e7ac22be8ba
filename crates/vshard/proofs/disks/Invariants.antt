use Rattle.std.proofs.Common.{◌≡◌, length}
use Rattle.vshard.proofs.disks.Given as goal

abbrev pub invariant-loop-before : goal.invariant-loop-before
invariant-loop-before l = length l.disks.items ≡ l.before
