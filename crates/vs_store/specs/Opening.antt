-- What opening a set's journal gives.
use Rattle.std.specs.Prelude.{◌≡◌, ◌≢◌, ◌⊎◌, ℕ, ◌+◌, ◌<◌, ◌≤◌, List, [], None, Ok, Err, IsOkAnd}
use Rattle.vs_disk.specs.declared.disk.Disk.{Ghosts}
use Rattle.vs_disk.specs.Told.{Told, Reads, Leaves, Failed}
use Rattle.vs_disk.specs.Model.{Torn, Keeps, LeavesThrough}
use Rattle.vs_frame.specs.Unwritten.{IsUnwritten, TornOf}
use Rattle.vs_frame.specs.declared.head.Head.{Head}
use Rattle.vs_record.specs.Durable.{Durable, booted}
use Rattle.vs_store.specs.declared.fault.StoreFault.{StoreFault}
use Rattle.vs_store.specs.declared.fault.StoreFault.TheVariants.{Full, DiskFault}
use Rattle.vs_store.specs.declared.store.Store.{Store}
use Rattle.vs_store.specs.Faults.{IsRefusal}
use Rattle.vs_store.specs.Files.{StandsFor}
use Rattle.vs_store.specs.Holding.{Holds}
use Rattle.vs_store.specs.Standing.{Standing, opened, fresh, in_version_2}
use Rattle.vs_store.specs.Store.{told_of, limit_of, IsReady, IsCalm}

-- ---- the disk

-- a journal of version 1 on its way to version 2
pub record IsOnItsWay (head : Head) (file c : List ℕ) : Type 0 where
  pub from : Standing
  pub opens : opened head file ≡ Ok from
  pub version : from.journal.version ≡ 1
  pub now : (opened head c ≡ Ok from) ⊎ (opened head c ≡ Ok (in_version_2 from))

-- the bytes as they were, or on their way to version 2
abbrev pub IsAsItWas : Head → List ℕ → List ℕ → Type 0
IsAsItWas head file c = (c ≡ file) ⊎ IsOnItsWay head file c

-- what a crash could leave before, or what opening makes of this file
abbrev pub IsBeforeOrAsItWas : Head → Told → List ℕ → Type 0
IsBeforeOrAsItWas head old c = old.may_leave c ⊎ IsAsItWas head old.reads_as c

-- What opening does to a disk, whether it is refused or not. One that has bytes opens as before, and so does what a crash
-- at any moment leaves. One that has none may hold a new journal or a part of one.
pub record IsOpenedDisk (head : Head) (old new : Told) : Type 0 where
  pub keeps : Keeps old new
  pub reads : Reads old (λ file. file ≢ [] → IsAsItWas head file new.reads_as)
  pub any_moment : Reads old (λ file. file ≢ [] → LeavesThrough old new (IsBeforeOrAsItWas head old))
  pub torn : Reads old (λ file. file ≡ [] → Torn 0 38 file new.reads_as)
  pub torn_any_moment : Reads old (λ file. file ≡ [] → LeavesThrough old new (TornOf 0 38 old))

-- where the file of the set stands for a state, and so does all that a crash could leave before, a crash at any moment leaves
-- a file that stands for the same
abbrev pub LeavesSame : Head → Told → Told → Type 0
LeavesSame head old new = (d : Durable) → Reads old (StandsFor head d) → Leaves old (StandsFor head d) → LeavesThrough old new (StandsFor head d)

-- ---- the answer

-- the length of the same journal in version 2 is within the limit
abbrev pub HasRoom : ℕ → Standing → Type 0
HasRoom limit s = s.journal.version ≡ 1 → s.journal.gate + 2 ≤ limit

-- what an old journal was opened as: this state, in version 2
pub record IsTakenOver (head : Head) (limit : ℕ) (d : Durable) (new : List ℕ) (s : Standing) : Type 0 where
  pub state : s.state ≡ d
  pub room : HasRoom limit s
  pub now : opened head new ≡ Ok (in_version_2 s)

-- what a new journal is opened as
pub record IsFresh (head : Head) (d : Durable) (new : List ℕ) : Type 0 where
  pub state : d ≡ booted head.boot_first head.boot_count
  pub now : opened head new ≡ Ok (fresh head)

-- The store holds the state that the journal of the set stands for, and that a new one begins with.
pub record IsOpened {D : Type 0} {ghosts : Ghosts D} (head : Head) (limit : ℕ) (old : Told) (store : Store D ghosts) (d : Durable) : Type 0 where
  pub holds : Holds store head d None
  pub ready : IsReady store
  pub calm : IsCalm store
  pub limit_is : limit_of store ≡ limit
  pub disk : IsOpenedDisk head old (told_of store)
  pub taken_over : Reads old (λ file. file ≢ [] → IsOkAnd (opened head file) (IsTakenOver head limit d (told_of store).reads_as))
  pub fresh : Reads old (λ file. file ≡ [] → IsFresh head d (told_of store).reads_as)

-- a journal of version 1 that would have this length in version 2
pub record IsTooLong (len : ℕ) (s : Standing) : Type 0 where
  pub version : s.journal.version ≡ 1
  pub len_is : len ≡ s.journal.gate + 2

-- It is refused exactly by the bytes: as no journal, then as that of another set, then as that of another number of buckets,
-- and then where its migration would carry it past the limit. In each of these cases nothing was written.
pub record IsNotOpened (head : Head) (limit : ℕ) (old : Told) (fault : StoreFault) (new : Told) : Type 0 where
  pub disk : IsOpenedDisk head old new
  pub refused : IsRefusal fault → Reads old (λ file. (file ≢ []) × (opened head file ≡ Err fault))
  pub full : (len : ℕ) → fault ≡ Full len → limit < len
  pub full_is : (len : ℕ) → fault ≡ Full len → Reads old (λ file. (file ≢ []) × IsOkAnd (opened head file) (IsTooLong len))
  pub unwritten : fault ≢ DiskFault → IsUnwritten old new
  pub failed : fault ≡ DiskFault → Failed old new
