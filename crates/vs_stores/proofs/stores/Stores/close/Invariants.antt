use Rattle.std.proofs.Common.{◌≡◌, ◌≤◌, ◌+◌, ◌++◌, map, vec_len}
use Rattle.std.specs.Vec.{vec_capacity}
use Rattle.vs_store.specs.Store.{disk_of}
use Rattle.vs_stores.specs.Stores.{disks_of}
use Rattle.vs_stores.proofs.stores.Stores.close.Given as goal

abbrev pub invariant-stores : goal.invariant-stores
invariant-stores g l = record {
  all : map disk_of l.stores.items ++ l.disks.items ≡ disks_of l.fn.self;
  room : vec_len l.stores + vec_len l.disks ≤ vec_capacity l.disks;
}

abbrev pub decreases-stores : goal.decreases-stores
decreases-stores g l = vec_len l.stores
