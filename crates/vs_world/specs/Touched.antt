-- What calls of the journal of one set leave.
use Rattle.std.specs.Prelude.{◌≡◌, ℕ, ◌<◌, Bool, true, Some, None}
use Rattle.vs_disk.specs.declared.disk.Disk.{Ghosts}
use Rattle.vs_disk.specs.Model.{LeavesThrough}
use Rattle.vs_machine.specs.State.{State}
use Rattle.vs_machine.specs.Tables.{put}
use Rattle.vs_record.specs.Change.{Change}
use Rattle.vs_store.specs.Store.{told_of}
use Rattle.vs_stores.specs.Calls.{FailsAt}
use Rattle.vs_stores.specs.Due.{decided}
use Rattle.vs_stores.specs.Stores.{AllHold, IsCalmAt, IsReadyAt, KeepsOthers, OfBoth, length_with_at, limit_of}
use Rattle.vs_stores.specs.declared.stores.Stores.{Stores}
use Rattle.vs_world.specs.Journals.{FitsFile}
use Rattle.vs_world.specs.Whole.{due_of}
use Rattle.vs_world.specs.declared.fault.StepFault.{StepFault}
use Rattle.vs_world.specs.declared.fault.StepFault.TheVariants.{NotNow, Full, WentDown, OpenFault, NoMemory}

-- only the journal of set x was touched, and at every moment a crash leaves there what fits the set
pub record IsTouched {D : Type 0} {disk : Ghosts D} (s : State) (old new : Stores D disk) (x : ℕ) : Type 0 where
  pub others : KeepsOthers old new x
  pub any_moment : OfBoth old new x (λ was is. LeavesThrough (told_of was) (told_of is) (FitsFile s x))

-- the journals hold what they are due to hold, and none is left to forget at the set where nothing is pending
pub record IsStill {D : Type 0} {disk : Ghosts D} (s : State) (all : Stores D disk) (x : ℕ) : Type 0 where
  pub hold : AllHold all (due_of s)
  pub calm : s.pending x ≡ None → IsCalmAt all x

-- the journal of set x is what it is to be once the set is up again, with the pending change or without it
pub record IsFit {D : Type 0} {disk : Ghosts D} (s : State) (all : Stores D disk) (x : ℕ) (kept : Bool) : Type 0 where
  pub hold : AllHold all (put (due_of s) x (decided (due_of s x) kept))
  pub ready : IsReadyAt all x
  pub calm : IsCalmAt all x

-- the entry of the pending change would carry the journal past the limit
pub record IsPastLimit {D : Type 0} {disk : Ghosts D} (s : State) (all : Stores D disk) (x : ℕ) : Type 0 where
  pub change : Change
  pub pending_is : s.pending x ≡ Some change
  pub above : limit_of all < length_with_at all x change
  pub ready : IsReadyAt all x

-- why it wasn't made so
abbrev pub IsUnfit : {D : Type 0} {disk : Ghosts D} → State → Stores D disk → Stores D disk → ℕ → Bool → StepFault → Type 0
IsUnfit s old new x kept (NotNow reason) = ⊥
IsUnfit s old new x kept (Full y) = (y ≡ x) × (kept ≡ true) × IsPastLimit s new x
IsUnfit s old new x kept (WentDown y) = ⊥
IsUnfit s old new x kept (OpenFault y) = (y ≡ x) × FailsAt old new x
IsUnfit s old new x kept NoMemory = Unit {0}
