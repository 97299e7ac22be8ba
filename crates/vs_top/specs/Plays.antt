-- Events that are played on a cluster.
use Rattle.std.specs.Prelude.{◌≡◌, ◌⊎◌, ℕ, ◌+◌, ◌^◌, ◌<◌, List, take, IsOkAnd, Ok, Err, Some, slice_get}
use Rattle.vs_config.specs.Configuration.{Configuration}
use Rattle.vs_disk.specs.Told.{Told, Reads, Failed}
use Rattle.vs_event.specs.declared.event.Event.{Event}
use Rattle.vs_event.specs.declared.event.Event.TheVariants.{Fault}
use Rattle.vs_event.specs.declared.event.Recorded.{Recorded}
use Rattle.vs_event.specs.declared.reason.Reason.{Reason}
use Rattle.vs_event.specs.Recorded.{event_of}
use Rattle.vs_script.specs.Scripts.{Scripts}
use Rattle.vs_core.specs.Safety.{IsSafeRun}
use Rattle.vs_legal.specs.Laws.{AreBasesNamed}
use Rattle.vs_machine.specs.Journals.{held_as, written}
use Rattle.vs_machine.specs.Kinds.Stops.{Recording}
use Rattle.vs_machine.specs.Report.{report}
use Rattle.vs_machine.specs.Runs.{IsOpening}
use Rattle.vs_machine.specs.State.{State}
use Rattle.vs_machine.specs.Step.{step, run}
use Rattle.vs_store.specs.Standing.{opened, entry_len}
use Rattle.vs_stores.specs.Numbered.{at_number}
use Rattle.vs_world.specs.Began.{Began, start_of}
use Rattle.vs_world.specs.Journals.{head_of, FitsDisk}
use Rattle.vs_world.specs.NotOpened.{IsNotOpened}
use Rattle.vs_world.specs.Opened.{AreStoodFor, OfGiven}
use Rattle.vs_world.specs.declared.fault.StepFault.{StepFault}
use Rattle.vs_world.specs.declared.fault.StepFault.TheVariants as step_faults
use Rattle.vs_top.specs.declared.play.PlayFault.{PlayFault}
use Rattle.vs_top.specs.declared.play.PlayFault.TheVariants as faults

-- the greatest length of a journal: 1 GiB
abbrev pub journal_limit : ℕ
journal_limit = 2 ^ 30

-- what is played, and on which disks: what a disk tells, the texts, the disks when the command began and those that come back
pub record Played (D : Type 0) : Type 1 where
  pub told : D → Told
  pub config : Configuration
  pub scripts : Scripts
  pub events : List Event
  pub before : List D
  pub after : List D

abbrev pub played_on : {D : Type 0} → (D → Told) → Configuration → Scripts → List Event → List D → List D → Played D
played_on told config scripts events before after = record { told = told; config = config; scripts = scripts; events = events; before = before; after = after }

-- ---- how it begins

-- the cluster begins with the texts, and with what the journals stand for, which fits together
pub record IsBegun {D : Type 0} (p : Played D) (b : Began) : Type 0 where
  pub config_is : b.config ≡ p.config
  pub scripts_are : b.scripts ≡ p.scripts
  pub limit_is : b.limit ≡ journal_limit
  pub states_are : AreStoodFor p.told p.config p.before b.states
  pub coherent : IsOpening p.config p.scripts (held_as b.states)

-- the disks that come back fit the sets in this state
abbrev pub AreFit : {D : Type 0} → Played D → State → Type 0
AreFit p s = (x : ℕ) → OfGiven p.config p.after x (λ it. FitsDisk (p.told it) s x)

-- ---- to the end

-- All events are possible, and the run of them is safe throughout. The disks fit the state that it ends in, and the text is its
-- report, in which the rows with which histories began are of keys and values.
pub record IsReportOf {D : Type 0} (p : Played D) (text : List ℕ) : Type 0 where
  pub began : Began
  pub begun : IsBegun p began
  pub last : State
  pub ran : run (start_of began) p.events ≡ Ok last
  pub safe : IsSafeRun (start_of began) p.events
  pub fits : AreFit p last
  pub text_is : text ≡ report last
  pub named : AreBasesNamed last

-- ---- or to an event

-- the events before the one of index i are possible, and lead to this state
pub record Reaches {D : Type 0} (p : Played D) (i : ℕ) (before : State) (e : Event) : Type 0 where
  pub began : Began
  pub begun : IsBegun p began
  pub ran : run (start_of began) (take i p.events) ≡ Ok before
  pub there : slice_get p.events i ≡ Some e

-- it can't happen, for this reason
pub record IsRefusedAt {D : Type 0} (p : Played D) (i : ℕ) (reason : Reason) : Type 0 where
  pub before : State
  pub event : Event
  pub reaches : Reaches p i before event
  pub refused : step before event ≡ Err reason
  pub fits : AreFit p before

-- its entry would carry the journal of set x past the limit
pub record IsFullAt {D : Type 0} (p : Played D) (i : ℕ) (x : ℕ) : Type 0 where
  pub before : State
  pub event : Event
  pub reaches : Reaches p i before event
  pub recording : Recording
  pub written_is : written before event ≡ Some recording
  pub at : recording.at ≡ x
  pub above : OfGiven p.config p.after x (λ it. Reads (p.told it) (λ file. IsOkAnd (opened (head_of p.config x) file) (λ s. journal_limit < s.journal.gate + 1 + entry_len recording.change)))
  pub fits : AreFit p before

-- after the event the cluster is as it was, or set x is down by a fault in the event's place
abbrev pub IsAfterFault : State → Event → ℕ → State → Type 0
IsAfterFault before e x after = (after ≡ before) ⊎ ((n : ℕ) × (recorded : Recorded) × (e ≡ event_of recorded) × (step before (Fault x n recorded) ≡ Ok after))

-- the disk of set x failed at it
pub record IsFailedAt {D : Type 0} (p : Played D) (i : ℕ) (x : ℕ) : Type 0 where
  pub before : State
  pub event : Event
  pub reaches : Reaches p i before event
  pub last : State
  pub after_fault : IsAfterFault before event x last
  pub fits : AreFit p last

-- its count of faults has risen
abbrev pub HasFailed : {D : Type 0} → Played D → ℕ → Type 0
HasFailed {D} p x = (was is : D) → at_number p.before x ≡ Some was → at_number p.after x ≡ Some is → Failed (p.told was) (p.told is)

-- ---- why events were not all played

-- the same by the event's number, which counts from 1
abbrev pub AtNumber : (ℕ → Type 0) → ℕ → Type 0
AtNumber P n = (i : ℕ) × (n ≡ i + 1) × P i

abbrev pub IsPlayCause : {D : Type 0} → PlayFault → Played D → Type 0
IsPlayCause (faults.Opening fault) p = IsNotOpened p.told p.config journal_limit p.before fault p.after
IsPlayCause (faults.Event n reason) p = AtNumber (λ i. IsRefusedAt p i reason) n
IsPlayCause (faults.Disk n x) p = AtNumber (λ i. IsFailedAt p i x) n × HasFailed p x
IsPlayCause (faults.Full n x) p = AtNumber (λ i. IsFullAt p i x) n
IsPlayCause faults.NoMemory p = Unit {0}

-- why the event of this number isn't carried out
abbrev pub fault_at : ℕ → StepFault → PlayFault
fault_at n (step_faults.NotNow reason) = faults.Event n reason
fault_at n (step_faults.Full x) = faults.Full n x
fault_at n (step_faults.WentDown x) = faults.Disk n x
fault_at n (step_faults.OpenFault x) = faults.Disk n x
fault_at n step_faults.NoMemory = faults.NoMemory
