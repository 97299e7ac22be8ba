-- What a call makes of the store of a set, and of what is due of it.
use Rattle.std.specs.Prelude.{◌≡◌, ℕ, ◌<◌, ◌≤◌, Option, Some, None}
use Rattle.vs_disk.specs.declared.disk.Disk.{Ghosts}
use Rattle.vs_disk.specs.Told.{Failed}
use Rattle.vs_disk.specs.Model.{LeavesThrough}
use Rattle.vs_frame.specs.Unwritten.{IsUnwritten}
use Rattle.vs_frame.specs.declared.head.Head.{Head}
use Rattle.vs_record.specs.Change.{Change}
use Rattle.vs_record.specs.Durable.{Durable, FitsState, put}
use Rattle.vs_store.specs.Files.{StandsForSome}
use Rattle.vs_store.specs.Holding.{Accepts, Holds}
use Rattle.vs_store.specs.Store.{told_of}
use Rattle.vs_store.specs.declared.store.Store.{Store}
use Rattle.vs_stores.specs.Due.{Due, made, awaiting}
use Rattle.vs_stores.specs.Stores.{AllHold, OfStore, OfBoth, IsReadyAt, IsCalmAt, length_at, length_with_at, limit_of}
use Rattle.vs_stores.specs.declared.stores.Stores.{Stores}

-- a change may be appended to the journal of this set
abbrev pub AcceptsAt : {D : Type 0} {disk : Ghosts D} → Stores D disk → ℕ → Change → Type 0
AcceptsAt all x c = OfStore all x (λ it. Accepts it c)

-- the change is pending behind a state that it fits
pub record AwaitsChange {D : Type 0} {disk : Ghosts D} (it : Store D disk) (c : Change) : Type 0 where
  pub head : Head
  pub state : Durable
  pub holds : Holds it head state (Some c)
  pub fits : FitsState head.bucket_count state c

abbrev pub AwaitsAt : {D : Type 0} {disk : Ghosts D} → Stores D disk → ℕ → Change → Type 0
AwaitsAt all x c = OfStore all x (λ it. AwaitsChange it c)

-- what is due of one set becomes this, where this was pending, and that of the others stays
abbrev pub Turns : {D : Type 0} {disk : Ghosts D} → Stores D disk → Stores D disk → ℕ → Option Change → (Due → Due) → Type 0
Turns old new x pending next = (due : ℕ → Due) → (due x).pending ≡ pending → AllHold old due → AllHold new (put due x (next (due x)))

-- the stores hold what they held
abbrev pub StillHold : {D : Type 0} {disk : Ghosts D} → Stores D disk → Stores D disk → Type 0
StillHold old new = (due : ℕ → Due) → AllHold old due → AllHold new due

-- the same, where nothing is pending at this set
abbrev pub StillBare : {D : Type 0} {disk : Ghosts D} → Stores D disk → Stores D disk → ℕ → Type 0
StillBare old new x = (due : ℕ → Due) → (due x).pending ≡ None → AllHold old due → AllHold new due

-- the same, where this change is pending
abbrev pub StillAwait : {D : Type 0} {disk : Ghosts D} → Stores D disk → Stores D disk → ℕ → Change → Type 0
StillAwait old new x c = (due : ℕ → Due) → (due x).pending ≡ Some c → AllHold old due → AllHold new due

-- its disk failed
abbrev pub FailsAt : {D : Type 0} {disk : Ghosts D} → Stores D disk → Stores D disk → ℕ → Type 0
FailsAt old new x = OfBoth old new x (λ was is. Failed (told_of was) (told_of is))

-- At every moment from the one to the other a crash of this set's disk leaves the state that is due, without this change or
-- with it.
abbrev pub IsSafeThrough : {D : Type 0} {disk : Ghosts D} → Stores D disk → Stores D disk → ℕ → Option Change → Option Change → Type 0
IsSafeThrough old new x pending change = (due : ℕ → Due) → (due x).pending ≡ pending → AllHold old due
    → OfBoth old new x (λ was is. LeavesThrough (told_of was) (told_of is) (StandsForSome (due x).head (due x).state change))

-- ---- an append

-- it was made
pub record IsMade {D : Type 0} {disk : Ghosts D} (old new : Stores D disk) (x : ℕ) (c : Change) : Type 0 where
  pub ready : IsReadyAt new x
  pub calm : IsCalmAt new x
  pub holds : Turns old new x None (λ o. made o c)
  pub length_is : length_at new x ≡ length_with_at old x c
  pub room : length_with_at old x c ≤ limit_of old

-- the disk failed, and it is pending
pub record IsPending {D : Type 0} {disk : Ghosts D} (old new : Stores D disk) (x : ℕ) (c : Change) : Type 0 where
  pub failed : FailsAt old new x
  pub holds : Turns old new x None (λ o. awaiting o c)
  pub length_is : length_at new x ≡ length_at old x
  pub room : length_with_at old x c ≤ limit_of old

-- it was refused, and nothing was written
pub record IsRefused {D : Type 0} {disk : Ghosts D} (old new : Stores D disk) (x : ℕ) : Type 0 where
  pub ready : IsReadyAt new x
  pub calm : IsCalmAt old x → IsCalmAt new x
  pub holds : StillHold old new
  pub length_is : length_at new x ≡ length_at old x
  pub unwritten : OfBoth old new x (λ was is. IsUnwritten (told_of was) (told_of is))

-- the journal would have this length, which is above the limit
pub record IsTooLong {D : Type 0} {disk : Ghosts D} (all : Stores D disk) (x : ℕ) (c : Change) (len : ℕ) : Type 0 where
  pub len_is : len ≡ length_with_at all x c
  pub above : limit_of all < len
