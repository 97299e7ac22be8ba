-- What a store holds for a set.
use Rattle.std.specs.Prelude.{◌≡◌, ◌⊎◌, ℕ, ◌+◌, if◌then◌else◌, List, length, Option, Some, None, Ok}
use Rattle.vs_disk.specs.declared.disk.Disk.{Ghosts}
use Rattle.vs_disk.specs.Told.{Reads, Leaves}
use Rattle.vs_frame.specs.Frame.{gate_of, last_of, next_of}
use Rattle.vs_frame.specs.Journal.{HasBehind}
use Rattle.vs_frame.specs.declared.head.Head.{Head}
use Rattle.vs_record.specs.Body.{IsRecordable, body_of}
use Rattle.vs_record.specs.Change.{Change}
use Rattle.vs_record.specs.Durable.{Durable, FitsState}
use Rattle.vs_store.specs.Files.{StandsForSome, FitsFile}
use Rattle.vs_store.specs.Standing.{Standing, state_of, folded_in, of_set, after, next_number, entry_len}
use Rattle.vs_store.specs.Store.{told_of, IsReady, HasFound}
use Rattle.vs_store.specs.declared.store.Store.{Store}

-- how many bodies the second part has in front of its closed gate
abbrev pub counted : {D : Type 0} {disk : Ghosts D} → Store D disk → ℕ
counted store = if store.has_last then store.count + 1 else store.count

-- the file stands for this, and the store knows the place and the number of what is added next
pub record IsHere {D : Type 0} {disk : Ghosts D} (store : Store D disk) (file : List ℕ) (now : Standing) : Type 0 where
  pub stands : state_of file ≡ Ok now
  pub version : now.journal.version ≡ 2
  pub gate : IsReady store → now.journal.gate ≡ gate_of store.frame
  pub count : IsReady store → length now.journal.second ≡ counted store

-- no append failed since one that answered Ok, or none that may be there
pub record IsLevel {D : Type 0} {disk : Ghosts D} (store : Store D disk) (now : Standing) : Type 0 where
  pub next : next_of store.frame ≡ last_of store.frame
  pub gate : now.journal.gate ≡ last_of store.frame
  pub count : length now.journal.second ≡ store.count

-- the append of this change failed on a journal that stood for this, so the file has it or not
pub record IsTried {D : Type 0} {disk : Ghosts D} (store : Store D disk) (file : List ℕ) (now was : Standing) (c : Change) : Type 0 where
  pub made : folded_in was.journal ≡ Ok was.state
  pub recordable : IsRecordable (Some (next_number was.journal)) c
  pub fits : FitsState was.journal.head.bucket_count was.state c
  pub gate : was.journal.gate ≡ last_of store.frame
  pub next : next_of store.frame ≡ last_of store.frame + entry_len c
  pub count : length was.journal.second ≡ store.count
  pub either : (now ≡ was) ⊎ (now ≡ after was c)
  pub behind : HasFound store → HasBehind file was.journal (body_of (Some (next_number was.journal)) c)

-- which of both the set's state and its pending change speak of
abbrev pub Speaks : Standing → Change → Standing → Durable → Option Change → Type 0
Speaks was c now d None = now.state ≡ d
Speaks was c now d (Some pending) = (pending ≡ c) × (was.state ≡ d)

-- what the store knows of the file that its disk reads as
pub record Knows {D : Type 0} {disk : Ghosts D} (store : Store D disk) (head : Head) (d : Durable) (pending : Option Change) (file : List ℕ) : Type 0 where
  pub now : Standing
  pub here : IsHere store file now
  pub own : of_set head now.journal.head ≡ Ok tt
  pub tried : (IsLevel store now × (now.state ≡ d)) ⊎ ((was : Standing) × (c : Change) × IsTried store file now was c × Speaks was c now d pending)

-- The store of a set with this head holds this state, and a change that its journal may have beside, if any is pending.
-- Where its disk tells, its journal stands for that, and so does every image that a crash now may leave.
pub record Holds {D : Type 0} {disk : Ghosts D} (store : Store D disk) (head : Head) (d : Durable) (pending : Option Change) : Type 0 where
  pub stands : Reads (told_of store) (StandsForSome head d pending)
  pub leaves : Leaves (told_of store) (StandsForSome head d pending)
  pub knows : Reads (told_of store) (Knows store head d pending)

-- a change may be appended: it fits the state that the file stands for
abbrev pub Accepts : {D : Type 0} {disk : Ghosts D} → Store D disk → Change → Type 0
Accepts store c = Reads (told_of store) (FitsFile c)

-- what it held it still holds
abbrev pub StillHolds : {D : Type 0} {disk : Ghosts D} → Store D disk → Store D disk → Type 0
StillHolds old new = (head : Head) (d : Durable) (pending : Option Change) → Holds old head d pending → Holds new head d pending
