-- What opening the journals of a cluster gives.
use Rattle.std.specs.Prelude.{◌≡◌, ◌≢◌, ℕ, ◌<◌, ◌≤◌, suc, Bool, true, false, List, [], ◌∷◌, ◌++◌, length, drop, Some, IsOkAnd, slice_get, None}
use Rattle.vs_disk.specs.declared.disk.Disk.{Ghosts}
use Rattle.vs_disk.specs.Told.{Told, IsOpen, Reads, Failed}
use Rattle.vs_frame.specs.Unwritten.{IsUnwritten}
use Rattle.vs_frame.specs.declared.head.Head.{Head}
use Rattle.vs_record.specs.Durable.{Durable}
use Rattle.vs_record.specs.States.{durable}
use Rattle.vs_record.specs.declared.set_state.SetState.{SetState}
use Rattle.vs_store.specs.Opening.{IsOpenedDisk, IsOpened, IsNotOpened, HasRoom}
use Rattle.vs_store.specs.Standing.{opened}
use Rattle.vs_store.specs.declared.fault.StoreFault.{StoreFault}
use Rattle.vs_store.specs.declared.fault.StoreFault.TheVariants.{DiskFault, NoMemory}
use Rattle.vs_store.specs.declared.store.Store.{Store}
use Rattle.vs_stores.specs.Due.{Due}
use Rattle.vs_stores.specs.Numbered.{at_number}
use Rattle.vs_stores.specs.Stores.{stores_of, spare_of, limit_of}
use Rattle.vs_stores.specs.declared.fault.OpenFault.{OpenFault}
use Rattle.vs_stores.specs.declared.fault.OpenFault.TheVariants.{OfSet}
use Rattle.vs_stores.specs.declared.stores.Stores.{Stores}

-- ---- disks that are made ready

-- those of so many sets are open
abbrev pub AreReady : {D : Type 0} → (D → Told) → ℕ → List D → Type 0
AreReady {D} told sets disks = (i : ℕ) (it : D) → i < sets → slice_get disks i ≡ Some it → IsOpen (told it)

-- one of those of so many sets has bytes, where it tells what a read gives
pub record HasBytes {D : Type 0} (told : D → Told) (sets : ℕ) (disks : List D) : Type 0 where
  pub place : ℕ
  pub it : D
  pub within : place < sets
  pub here : slice_get disks place ≡ Some it
  pub some : Reads (told it) (λ file. file ≢ [])

-- whether none of those of so many sets has bytes
abbrev pub AreEmpty : {D : Type 0} → (D → Told) → ℕ → List D → Bool → Type 0
AreEmpty {D} told sets disks true = (i : ℕ) (it : D) → i < sets → slice_get disks i ≡ Some it → Reads (told it) (λ file. file ≡ [])
AreEmpty {D} told sets disks false = HasBytes told sets disks

-- nothing was written, and those that no set uses are the same
pub record AreUnwritten {D : Type 0} (told : D → Told) (sets : ℕ) (before after : List D) : Type 0 where
  pub count : length after ≡ length before
  pub each : (i : ℕ) (was is : D) → slice_get before i ≡ Some was → slice_get after i ≡ Some is → IsUnwritten (told was) (told is)
  pub spare : drop sets after ≡ drop sets before

-- the disk of the set that is named failed
pub record HasFailed {D : Type 0} (told : D → Told) (sets : ℕ) (before after : List D) (fault : OpenFault) : Type 0 where
  pub named : (x : ℕ) (of_store : StoreFault) → fault ≡ OfSet x of_store → (of_store ≡ DiskFault) × (1 ≤ x) × (x ≤ sets)
  pub failed : (x : ℕ) (of_store : StoreFault) (was is : D) → fault ≡ OfSet x of_store → at_number before x ≡ Some was → at_number after x ≡ Some is → Failed (told was) (told is)

-- ---- journals that are opened

-- What opening did to the disks, whether it was refused or not. Those that no set uses are the same.
pub record AreOpenedDisks {D : Type 0} (told : D → Told) (heads : List Head) (before after : List D) : Type 0 where
  pub count : length after ≡ length before
  pub of_sets : (i : ℕ) (head : Head) (was is : D) → slice_get heads i ≡ Some head → slice_get before i ≡ Some was → slice_get after i ≡ Some is → IsOpenedDisk head (told was) (told is)
  pub spare : drop (length heads) after ≡ drop (length heads) before

-- each set has a store, and the state that its journal stands for
pub record AreOpened {D : Type 0} {disk : Ghosts D} (heads : List Head) (limit : ℕ) (before : List D) (all : Stores D disk) (states : List SetState) : Type 0 where
  pub count : length (stores_of all) ≡ length heads
  pub count_of_states : length states ≡ length heads
  pub each : (i : ℕ) (head : Head) (was : D) (it : Store D disk) (state : SetState) → slice_get heads i ≡ Some head → slice_get before i ≡ Some was → slice_get (stores_of all) i ≡ Some it → slice_get states i ≡ Some state
      → IsOpened head limit (disk.told was) it (durable state)
  pub spare : spare_of all ≡ drop (length heads) before
  pub limit_is : limit_of all ≡ limit

-- what is due of the sets after that: these states, with nothing pending
abbrev pub AreDue : List Head → List SetState → (ℕ → Due) → Type 0
AreDue heads states due = (i : ℕ) (head : Head) (state : SetState) → slice_get heads i ≡ Some head → slice_get states i ≡ Some state
    → due (suc i) ≡ record { head = head; state = durable state; pending = None }

-- This set is the first whose journal was refused. Where that wasn't for a fault of its disk, those in front of it open.
pub record IsRefusedAt {D : Type 0} (told : D → Told) (heads : List Head) (limit : ℕ) (before after : List D) (x : ℕ) (fault : StoreFault) : Type 0 where
  pub within : (1 ≤ x) × (x ≤ length heads)
  pub known : fault ≢ NoMemory
  pub refused : (head : Head) (was is : D) → at_number heads x ≡ Some head → at_number before x ≡ Some was → at_number after x ≡ Some is → IsNotOpened head limit (told was) fault (told is)
  pub first : fault ≢ DiskFault → (y : ℕ) (head : Head) (was : D) → y < x → at_number heads y ≡ Some head → at_number before y ≡ Some was
      → Reads (told was) (λ file. file ≢ [] → IsOkAnd (opened head file) (HasRoom limit))

-- The disks come back.
pub record AreNotOpened {D : Type 0} (told : D → Told) (heads : List Head) (limit : ℕ) (before : List D) (fault : OpenFault) (after : List D) : Type 0 where
  pub disks : AreOpenedDisks told heads before after
  pub refused : (x : ℕ) (of_store : StoreFault) → fault ≡ OfSet x of_store → IsRefusedAt told heads limit before after x of_store

-- ---- one set more

-- the first of the disks that no set used has its journal
pub record IsAdded {D : Type 0} {disk : Ghosts D} (old new : Stores D disk) (head : Head) (d : Durable) : Type 0 where
  pub was : D
  pub it : Store D disk
  pub stores : stores_of new ≡ stores_of old ++ it ∷ []
  pub spare : spare_of old ≡ was ∷ spare_of new
  pub limit : limit_of new ≡ limit_of old
  pub opened : IsOpened head (limit_of old) (disk.told was) it d

-- it was refused, and has its place again
pub record IsNotAdded {D : Type 0} {disk : Ghosts D} (old new : Stores D disk) (head : Head) (fault : StoreFault) : Type 0 where
  pub was : D
  pub is : D
  pub rest : List D
  pub stores : stores_of new ≡ stores_of old
  pub spare : spare_of old ≡ was ∷ rest
  pub spare_now : spare_of new ≡ is ∷ rest
  pub limit : limit_of new ≡ limit_of old
  pub refused : IsNotOpened head (limit_of old) (disk.told was) fault (disk.told is)
