-- Scripts that are run on a cluster, over its journals.
use Rattle.std.specs.Prelude.{◌≡◌, ◌≢◌, ◌⊎◌, ℕ, ◌+◌, ◌-◌, ◌^◌, ◌<◌, ◌≤◌, true, false, List, [], ◌∷◌, ◌++◌, Ok, Some, slice_get, IsOkAnd}
use Rattle.vs_core.specs.Safety.{IsSafeRun}
use Rattle.vs_disk.specs.Told.{Reads}
use Rattle.vs_event.specs.declared.event.Event.{Event}
use Rattle.vs_event.specs.declared.event.Event.TheVariants.{Fault, NotYet}
use Rattle.vs_event.specs.declared.event.Recorded.{Recorded}
use Rattle.vs_machine.specs.Actors.{ArePostsSteered, IsPossible}
use Rattle.vs_machine.specs.Kinds.Stops.{Recording, is_finished}
use Rattle.vs_machine.specs.Journals.{written}
use Rattle.vs_machine.specs.Settling.{IsSettled}
use Rattle.vs_machine.specs.State.{State, has_set}
use Rattle.vs_machine.specs.Step.{run}
use Rattle.vs_store.specs.Standing.{opened}
use Rattle.vs_stores.specs.Numbered.{at_number}
use Rattle.vs_world.specs.Began.{Began, start_of}
use Rattle.vs_world.specs.Journals.{head_of}
use Rattle.vs_world.specs.Opened.{OfGiven}
use Rattle.vs_top.specs.Plays.{Played, IsBegun, AreFit, HasFailed, journal_limit}

-- of the disk of set x when the command began and of the one that came back
abbrev pub OfBoth : {D : Type 0} → Played D → ℕ → (D → D → Type 0) → Type 0
OfBoth {D} p x P = (was is : D) → at_number p.before x ≡ Some was → at_number p.after x ≡ Some is → P was is

-- the number of the set's last fault is at most how often its disk failed in the command; a count that stands at its end says nothing
abbrev pub IsCounted : {D : Type 0} → Played D → State → ℕ → Type 0
IsCounted p s x = OfBoth p x (λ was is. (p.told is).faults < 2 ^ 63 → s.last_fault x + (p.told was).faults ≤ (p.told is).faults)

-- ---- a run

-- The events lead from the beginning to this state, which the disks fit, and are safe throughout.
pub record IsRunTo {D : Type 0} (p : Played D) (last : State) : Type 0 where
  pub began : Began
  pub begun : IsBegun p began
  pub ran : run (start_of began) p.events ≡ Ok last
  pub safe : IsSafeRun (start_of began) p.events
  pub fits : AreFit p last

-- Each refused call was posted again as it has to be, no mover waited, and nobody made a fault up.
pub record IsSteeredRun {D : Type 0} (p : Played D) (last : State) : Type 0 where
  pub run : IsRunTo p last
  pub steered : ArePostsSteered (start_of run.began) p.events
  pub unwaited : (m x b : ℕ) → slice_get p.events m ≢ Some (NotYet x b)
  pub counted : (x : ℕ) → has_set last x ≡ true → IsCounted p last x

-- All calls and commands are answered, and the cluster came to rest.
pub record IsSettledRun {D : Type 0} (p : Played D) (last : State) : Type 0 where
  pub steered : IsSteeredRun p last
  pub finished : is_finished last ≡ true
  pub settled : IsSettled last

-- ---- why it ended before that

-- the last event is a fault of set x
abbrev pub EndsInFault : List Event → ℕ → Type 0
EndsInFault events x = (before : List Event) × (n : ℕ) × (e : Recorded) × (events ≡ before ++ Fault x n e ∷ [])

-- set x is down, and its disk failed: its fault is the last event, or the disk failed more often than its last fault's number says
pub record IsDownAfter {D : Type 0} (p : Played D) (last : State) (x : ℕ) : Type 0 where
  pub steered : IsSteeredRun p last
  pub set : has_set last x ≡ true
  pub down : last.up x ≡ false
  pub disk : HasFailed p x
  pub fault : EndsInFault p.events x
      ⊎ OfBoth p x (λ was is. (p.told is).faults < 2 ^ 63 → last.last_fault x + (p.told was).faults < (p.told is).faults)

-- the longest entry of a journal, in bytes
abbrev pub longest_entry : ℕ
longest_entry = 1048581

-- while the drivers ran: the journal of set x has no room for every entry
pub record IsFullOfDrivers {D : Type 0} (p : Played D) (last : State) (x : ℕ) : Type 0 where
  pub run : IsRunTo p last
  pub long : OfGiven p.config p.after x (λ it. Reads (p.told it) (λ file. IsOkAnd (opened (head_of p.config x) file) (λ s. journal_limit - longest_entry < s.journal.gate + 1)))

-- while the cluster was settled: it has none for the entry of an event that can happen
pub record IsFullOfService {D : Type 0} (p : Played D) (last : State) (x : ℕ) : Type 0 where
  pub steered : IsSteeredRun p last
  pub event : Event
  pub possible : IsPossible last event
  pub recording : Recording
  pub written_is : written last event ≡ Some recording
  pub at : recording.at ≡ x
