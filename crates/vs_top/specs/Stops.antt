-- How far a world gets that events are played on.
use Rattle.std.specs.Prelude.{◌≡◌, ℕ, ◌+◌, List, [], length, take, Result, Ok, Err, Some, slice_get}
use Rattle.vs_disk.specs.Model.{Keeps}
use Rattle.vs_disk.specs.Told.{Told}
use Rattle.vs_event.specs.declared.event.Event.{Event}
use Rattle.vs_event.specs.declared.reason.Reason.{Reason}
use Rattle.vs_machine.specs.Step.{step, run}
use Rattle.vs_world.specs.Began.{start_of}
use Rattle.vs_world.specs.Played.{began, state_of}
use Rattle.vs_world.specs.Steps.{IsStepCause}
use Rattle.vs_world.specs.World.{World, OfDisks, IsLengthAt}
use Rattle.vs_world.specs.declared.fault.StepFault.{StepFault}
use Rattle.vs_world.specs.declared.fault.StepFault.TheVariants as step_faults
use Rattle.vs_top.specs.declared.play.PlayFault.{PlayFault}
use Rattle.vs_top.specs.Plays.{fault_at}

-- nothing has happened in it
pub record IsFresh {D : Type 0} (w : World D) : Type 0 where
  pub state : state_of w.played ≡ start_of (began w.played)
  pub events : w.played.events ≡ []
  pub disks : length w.disks ≡ 32

-- The first n of these events happened in it, and its disks failed no less often.
pub record HasPlayed {D : Type 0} (told : D → Told) (old new : World D) (events : List Event) (n : ℕ) : Type 0 where
  pub opening : new.played.opening ≡ old.played.opening
  pub ran : run (start_of (began old.played)) (take n events) ≡ Ok (state_of new.played)
  pub list : new.played.events ≡ take n events
  pub disks : length new.disks ≡ 32
  pub keeps : (x : ℕ) → OfDisks old new x (λ was is. Keeps (told was) (told is))

-- Then the event of index n isn't carried out, for this reason.
pub record StopsAt {D : Type 0} (told : D → Told) (old new : World D) (events : List Event) (n : ℕ) (fault : StepFault) : Type 0 where
  pub mid : World D
  pub so_far : HasPlayed told old mid events n
  pub event : Event
  pub there : slice_get events n ≡ Some event
  pub refused : (reason : Reason) → fault ≡ step_faults.NotNow reason → step (state_of mid.played) event ≡ Err reason
  pub cause : IsStepCause told mid new event fault
  pub length_is : (x : ℕ) → fault ≡ step_faults.Full x → IsLengthAt told new x
  pub keeps : (x : ℕ) → OfDisks mid new x (λ was is. Keeps (told was) (told is))

-- all of them happened, or one is the first that isn't carried out
abbrev pub Goes : {D : Type 0} → (D → Told) → World D → World D → List Event → Result (Unit {0}) PlayFault → Type 0
Goes told old new events (Ok done) = HasPlayed told old new events (length events)
Goes told old new events (Err fault) = (n : ℕ) × (stop : StepFault) × (fault ≡ fault_at (n + 1) stop) × StopsAt told old new events n stop
