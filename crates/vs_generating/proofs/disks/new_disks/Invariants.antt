use Rattle.std.proofs.Common.{◌≡◌, [], length}
use Rattle.std.specs.Prelude.{All}
use Rattle.vs_generating.proofs.disks.new_disks.Given as goal

abbrev pub invariant-loop-disk : goal.invariant-loop-disk
invariant-loop-disk l = record {
  count : length l.disks.items ≡ l._disk;
  empty : All (λ it. it.bytes.items ≡ []) l.disks.items;
}
