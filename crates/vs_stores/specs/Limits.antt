-- The limit of each of some stores.
use Rattle.std.specs.Prelude.{◌≡◌, ℕ, List, Some, slice_get}
use Rattle.vs_disk.specs.declared.disk.Disk.{Ghosts}
use Rattle.vs_store.specs.Store.{limit_of}
use Rattle.vs_store.specs.declared.store.Store.{Store}

abbrev pub HaveLimit : {D : Type 0} {disk : Ghosts D} → ℕ → List (Store D disk) → Type 0
HaveLimit {D} {disk} limit stores = (i : ℕ) (it : Store D disk) → slice_get stores i ≡ Some it → limit_of it ≡ limit
