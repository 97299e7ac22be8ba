-- What becomes of an event that is given.
use Rattle.std.specs.Prelude.{◌≡◌, ℕ, ◌+◌, ◌-◌, ◌^◌, ◌<◌, ◌≤◌, min, max, Bool, false, Some}
use Rattle.vs_disk.specs.Told.{Told, Failed}
use Rattle.vs_event.specs.declared.event.Event.{Event}
use Rattle.vs_event.specs.declared.event.Event.TheVariants.{Fault, Restart}
use Rattle.vs_event.specs.declared.event.Recorded.{Recorded}
use Rattle.vs_event.specs.declared.event.RestartBy.{RestartBy}
use Rattle.vs_event.specs.Recorded.{event_of}
use Rattle.vs_machine.specs.Journals.{IsNoRestart, written}
use Rattle.vs_machine.specs.Kinds.Stops.{Recording}
use Rattle.vs_store.specs.Standing.{entry_len}
use Rattle.vs_world.specs.Played.{IsAdvanced, IsSame, state_of, began}
use Rattle.vs_world.specs.World.{World, OfDisk, OfDisks, length_of}
use Rattle.vs_world.specs.declared.fault.StepFault.{StepFault}
use Rattle.vs_world.specs.declared.fault.StepFault.TheVariants.{NotNow, Full, WentDown, OpenFault, NoMemory}

-- the length of the journal with the entry of this change
abbrev pub length_with : {D : Type 0} → World D → Recording → ℕ
length_with w r = length_of w r.at + entry_len r.change

-- the entry of the event would carry the journal of set x past the limit
pub record IsTooLong {D : Type 0} (w : World D) (e : Event) (x : ℕ) : Type 0 where
  pub recording : Recording
  pub written_is : written (state_of w.played) e ≡ Some recording
  pub at : recording.at ≡ x
  pub above : (began w.played).limit < length_with w recording

-- it doesn't carry one past the limit
abbrev pub HasRoom : {D : Type 0} → World D → Event → Type 0
HasRoom w e = IsNoRestart e → (r : Recording) → written (state_of w.played) e ≡ Some r → length_with w r ≤ (began w.played).limit

-- The number of a fault: how often the disk failed since the beginning, or, where that is more, the one after the set's last fault.
abbrev pub fault_number : ℕ → ℕ → ℕ → ℕ
fault_number now then last = min (max (now - then) (last + 1)) (2 ^ 64 - 1)

-- The disk of set x failed while the event was written. The set is down by a fault, in which the event stands.
pub record HasGoneDown {D : Type 0} (told : D → Told) (old new : World D) (e : Event) (x : ℕ) : Type 0 where
  pub recorded : Recorded
  pub is : e ≡ event_of recorded
  pub number : ℕ
  pub number_is : OfDisk new x (λ it. number ≡ fault_number (told it).faults ((began old.played).faults x) ((state_of old.played).last_fault x))
  pub advanced : IsAdvanced old.played new.played (Fault x number recorded)
  pub failed : OfDisks old new x (λ was is. Failed (told was) (told is))
  pub room : HasRoom old e

-- The disk of set x failed while its journal was opened again. The set stays down.
pub record StaysDown {D : Type 0} (told : D → Told) (old new : World D) (e : Event) (x : ℕ) : Type 0 where
  pub kept : Bool
  pub by : RestartBy
  pub is : e ≡ Restart x kept by
  pub down : (state_of old.played).up x ≡ false
  pub failed : OfDisks old new x (λ was is. Failed (told was) (told is))

-- Why an event wasn't carried out. Nothing happened, but where a set went down.
abbrev pub IsStepCause : {D : Type 0} → (D → Told) → World D → World D → Event → StepFault → Type 0
IsStepCause told old new e (NotNow reason) = new ≡ old
IsStepCause told old new e (Full x) = IsTooLong new e x × IsSame old.played new.played
IsStepCause told old new e (WentDown x) = HasGoneDown told old new e x
IsStepCause told old new e (OpenFault x) = StaysDown told old new e x × IsSame old.played new.played
IsStepCause told old new e NoMemory = IsSame old.played new.played
