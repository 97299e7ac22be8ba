-- How the service ends.
use Rattle.std.specs.Prelude.{◌≡◌, ◌⊎◌, ℕ, ◌+◌, ◌^◌, ◌<◌, true, false, List, [], ◌∷◌, ◌++◌, length, All}
use Rattle.vs_disk.specs.Model.{Keeps}
use Rattle.vs_disk.specs.Told.{Told, Failed}
use Rattle.vs_event.specs.declared.event.Event.{Event}
use Rattle.vs_event.specs.declared.event.Event.TheVariants.{Fault}
use Rattle.vs_event.specs.declared.event.Recorded.{Recorded}
use Rattle.vs_machine.specs.Actors.{IsPossible}
use Rattle.vs_machine.specs.State.{has_set}
use Rattle.vs_world.specs.Counted.{IsCounted, KeepsCount}
use Rattle.vs_world.specs.Played.{IsSame, began, state_of}
use Rattle.vs_world.specs.Steps.{HasGoneDown, StaysDown, IsTooLong}
use Rattle.vs_world.specs.World.{World, OfDisk, OfDisks}
use Rattle.vs_settle.specs.Service.{IsService, Carries, Follows}
use Rattle.vs_settle.specs.declared.fault.SettleFault.{SettleFault}
use Rattle.vs_settle.specs.declared.fault.SettleFault.TheVariants.{DiskFault, Full, NoMemory}

-- what the calls leave of the disks: none is opened anew or fails less often, and fault numbers are those of failures
pub record KeepsFaults {D : Type 0} (told : D → Told) (old new : World D) : Type 0 where
  pub disks : length new.disks ≡ length old.disks
  pub keeps : (x : ℕ) → OfDisks old new x (λ was is. Keeps (told was) (told is))
  pub counted : KeepsCount told old new

-- the service went on, and the cluster is at rest
pub record Goes {D : Type 0} (told : D → Told) (old : World D) (m : ℕ) (new : World D) (n : ℕ) : Type 0 where
  pub follows : Follows old.played m new.played n
  pub faults : KeepsFaults told old new

-- ---- an event of the service that isn't carried out ends it

-- for want of memory, since the journal of its set would be too long, or since a disk failed: while the event was written, where the
-- fault stands in its place, or while a journal was opened again
abbrev pub EndsBy : {D : Type 0} → (D → Told) → World D → ℕ → World D → ℕ → Event → SettleFault → Type 0
EndsBy told old m new n e NoMemory = IsSame old.played new.played × (n ≡ m)
EndsBy told old m new n e (Full x) = IsTooLong new e x × IsSame old.played new.played × (n ≡ m)
EndsBy told old m new n e (DiskFault x) =
    (HasGoneDown told old new e x × (n ≡ m + 1))
    ⊎ (StaysDown told old new e x × IsSame old.played new.played × (n ≡ m))

-- up to the middle the service went on; the next event, which is possible there, isn't carried out
pub record IsStopped {D : Type 0} (told : D → Told) (old : World D) (m : ℕ) (new : World D) (n : ℕ) (fault : SettleFault) : Type 0 where
  pub middle : World D
  pub count : ℕ
  pub carries : Carries old.played m middle.played count
  pub before : KeepsFaults told old middle
  pub event : Event
  pub service : IsService event
  pub possible : IsPossible (state_of middle.played) event
  pub ends : EndsBy told middle count new n event fault
  pub last : KeepsFaults told middle new

-- ---- the end

-- the later list begins with the earlier one, and the rest is the service's, but that a fault may stand in the place of its last event
pub record AddsAndFails (earlier later : List Event) : Type 0 where
  pub added : List Event
  pub last : List Event
  pub events : later ≡ earlier ++ added ++ last
  pub services : All IsService added
  pub fails : (last ≡ []) ⊎ ((x : ℕ) × (n : ℕ) × (e : Recorded) × (last ≡ Fault x n e ∷ []))

-- the last event of the list is a fault of set x
abbrev pub EndsInFault : List Event → ℕ → Type 0
EndsInFault events x = (before : List Event) × (n : ℕ) × (e : Recorded) × (events ≡ before ++ Fault x n e ∷ [])

-- The disk of set x failed, and the set is down. Where its fault numbers were those of failures before, either its fault is the last
-- event, or its disk failed more often than its last fault's number says. A count that stands at its end says nothing.
pub record HasFailed {D : Type 0} (told : D → Told) (old new : World D) (x : ℕ) : Type 0 where
  pub set : has_set (state_of new.played) x ≡ true
  pub failed : OfDisks old new x (λ was is. Failed (told was) (told is))
  pub down : (state_of new.played).up x ≡ false
  pub fault : IsCounted told old x → EndsInFault new.played.events x
      ⊎ OfDisk new x (λ it. (told it).faults < 2 ^ 63 → (state_of new.played).last_fault x + (began new.played).faults x < (told it).faults)

-- an event that can happen now would carry the journal of set x past the limit
pub record IsFull {D : Type 0} (now : World D) (x : ℕ) : Type 0 where
  pub event : Event
  pub possible : IsPossible (state_of now.played) event
  pub long : IsTooLong now event x

abbrev pub IsSettleCause : {D : Type 0} → (D → Told) → World D → World D → SettleFault → Type 0
IsSettleCause told old new (DiskFault x) = HasFailed told old new x
IsSettleCause told old new (Full x) = IsFull new x
IsSettleCause told old new NoMemory = Unit {0}
