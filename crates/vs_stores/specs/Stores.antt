-- What the stores of a cluster show.
use Rattle.std.specs.Prelude.{◌≡◌, ◌≢◌, ℕ, suc, ◌+◌, ◌≤◌, List, ◌++◌, length, map, Option, Some, slice_get}
use Rattle.std.specs.Option.{option_map_or}
use Rattle.vs_disk.specs.declared.disk.Disk.{Ghosts}
use Rattle.vs_disk.specs.Model.{Keeps}
use Rattle.vs_record.specs.Change.{Change}
use Rattle.vs_store.specs.Standing.{entry_len}
use Rattle.vs_store.specs.Store as store
use Rattle.vs_store.specs.declared.store.Store.{Store}
use Rattle.vs_stores.specs.Due.{Due, HoldsDue}
use Rattle.vs_stores.specs.Numbered.{at_number}
use Rattle.vs_stores.specs.declared.stores.Stores.{Stores}

-- that of each set, set 1 first
abbrev pub stores_of : {D : Type 0} {disk : Ghosts D} → Stores D disk → List (Store D disk)
stores_of all = all.stores.items

-- the disks that no set uses
abbrev pub spare_of : {D : Type 0} {disk : Ghosts D} → Stores D disk → List D
spare_of all = all.spare.items

-- all disks, those of the sets first
abbrev pub disks_of : {D : Type 0} {disk : Ghosts D} → Stores D disk → List D
disks_of all = map store.disk_of (stores_of all) ++ spare_of all

-- the greatest length that each journal may have
abbrev pub limit_of : {D : Type 0} {disk : Ghosts D} → Stores D disk → ℕ
limit_of all = all.limit

-- this is the number of a set
abbrev pub HasSet : {D : Type 0} {disk : Ghosts D} → Stores D disk → ℕ → Type 0
HasSet all x = (1 ≤ x) × (x ≤ length (stores_of all))

-- the store of a set
abbrev pub store_at : {D : Type 0} {disk : Ghosts D} → Stores D disk → ℕ → Option (Store D disk)
store_at all x = at_number (stores_of all) x

abbrev pub OfStore : {D : Type 0} {disk : Ghosts D} → Stores D disk → ℕ → (Store D disk → Type 0) → Type 0
OfStore {D} {disk} all x P = (it : Store D disk) → store_at all x ≡ Some it → P it

-- the same of the store before a call and after it
abbrev pub OfBoth : {D : Type 0} {disk : Ghosts D} → Stores D disk → Stores D disk → ℕ → (Store D disk → Store D disk → Type 0) → Type 0
OfBoth {D} {disk} old new x P = (was is : Store D disk) → store_at old x ≡ Some was → store_at new x ≡ Some is → P was is

-- each store holds what its set is due to have
abbrev pub AllHold : {D : Type 0} {disk : Ghosts D} → Stores D disk → (ℕ → Due) → Type 0
AllHold {D} {disk} all due = (i : ℕ) (it : Store D disk) → slice_get (stores_of all) i ≡ Some it → HoldsDue it (due (suc i))

-- that of this set needn't be reopened
abbrev pub IsReadyAt : {D : Type 0} {disk : Ghosts D} → Stores D disk → ℕ → Type 0
IsReadyAt all x = OfStore all x store.IsReady

-- no append to its journal failed since one that was made, but for one that was forgotten
abbrev pub IsCalmAt : {D : Type 0} {disk : Ghosts D} → Stores D disk → ℕ → Type 0
IsCalmAt all x = OfStore all x store.IsCalm

-- the length of its journal, up to the gate that ends it and with that; a change that is pending isn't counted
abbrev pub length_at : {D : Type 0} {disk : Ghosts D} → Stores D disk → ℕ → ℕ
length_at all x = option_map_or store.length_of (store_at all x) 0

-- that with one change more
abbrev pub length_with_at : {D : Type 0} {disk : Ghosts D} → Stores D disk → ℕ → Change → ℕ
length_with_at all x c = length_at all x + entry_len c

-- a length is within the reserved length of its disk
abbrev pub IsReservedAt : {D : Type 0} {disk : Ghosts D} → Stores D disk → ℕ → ℕ → Type 0
IsReservedAt all x len = OfStore all x (λ it. len ≤ (store.told_of it).reserved)

-- how often its disk failed
abbrev pub faults_at : {D : Type 0} {disk : Ghosts D} → Stores D disk → ℕ → ℕ
faults_at all x = option_map_or (λ it. (store.told_of it).faults) (store_at all x) 0

-- What a call of one set leaves as it was. The disk of that set is open and honest if it was, and its faults haven't become
-- fewer.
pub record KeepsOthers {D : Type 0} {disk : Ghosts D} (old new : Stores D disk) (x : ℕ) : Type 0 where
  pub count : length (stores_of new) ≡ length (stores_of old)
  pub others : (y : ℕ) → y ≢ x → store_at new y ≡ store_at old y
  pub spare : spare_of new ≡ spare_of old
  pub limit : limit_of new ≡ limit_of old
  pub keeps : OfBoth old new x (λ was is. Keeps (store.told_of was) (store.told_of is))
