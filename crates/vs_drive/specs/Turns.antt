-- What a driver does in a turn, which is one hold of the lock.
use Rattle.std.specs.Prelude.{◌≡◌, ◌⊎◌, ℕ, ◌+◌, ◌-◌, ◌^◌, min, Bool, true, length, None, Result, Ok, Err}
use Rattle.vs_choose.specs.Client.{HasNoStep}
use Rattle.vs_cluster.specs.Calls.{IsDriverEvent, IsPostAllowed}
use Rattle.vs_cluster.specs.Cluster.{Cluster}
use Rattle.vs_event.specs.declared.event.Event.{Event}
use Rattle.vs_event.specs.declared.event.Event.TheVariants.{Post, Begin, Act, End, Take, Fault, Restart}
use Rattle.vs_machine.specs.Actors.{Actor, Client, Operator, Mover, Service, IsOf, HasEvent}
use Rattle.vs_machine.specs.Kinds.Stops.{is_finished}
use Rattle.vs_machine.specs.State.{State, has_client, has_operator, next_call, next_command}
use Rattle.vs_world.specs.Played.{Played, IsAdvanced, IsSame, state_of}
use Rattle.vs_base.specs.declared.memory.NoMemory.{NoMemory}
use Rattle.vs_world.specs.declared.fault.StepFault.{StepFault}
use Rattle.vs_world.specs.declared.fault.StepFault.TheVariants as faults
use Rattle.vs_drive.specs.declared.driver.DriveFault.TheVariants as stopped
use Rattle.vs_drive.specs.declared.turn.Place.{Place}
use Rattle.vs_drive.specs.declared.turn.Turn.{Turn}
use Rattle.vs_drive.specs.declared.turn.Turn.TheVariants.{Done, Idle, Learned, Failed, Stopped, Finished}

-- ---- where a driver stands after an event, as its gate is told

abbrev pub who : Actor → ℕ
who (Client c) = c
who (Operator o) = 100 + o
who (Service x) = 200 + x
who (Mover x) = 300 + x

-- the number of its call or command, and 0 for services and movers
abbrev pub number_of : State → Actor → ℕ
number_of s (Client c) = (s.client c).present.number
number_of s (Operator o) = min (length (s.operator o).answered + 1) (2 ^ 32 - 1)
number_of s (Service x) = 0
number_of s (Mover x) = 0

-- how far the event carries a call
abbrev pub stage_after : Event → ℕ
stage_after (Post c x) = 1
stage_after (Begin c) = 2
stage_after (Act c) = 3
stage_after (End c) = 4
stage_after (Take c) = 5
stage_after e = 0

-- ---- what the cluster takes of a client

-- a step of its call, or a post that is allowed
abbrev pub IsCallEvent : {D : Type 0} → Cluster D → Event → Type 0
IsCallEvent k (Post c x) = IsPostAllowed k c x
IsCallEvent k (Restart x kept by) = ⊥
IsCallEvent k e = IsDriverEvent e

-- ---- what happened

-- the event happened; a restart as the journal of its set showed
abbrev pub Happened : Played → Played → Event → Type 0
Happened old new (Restart x kept by) = (shown : Bool) × IsAdvanced old new (Restart x shown by)
Happened old new e = IsAdvanced old new e

abbrev pub IsFault : Event → Type 0
IsFault (Fault x n e) = Unit {0}
IsFault e = ⊥

-- a disk failed, and nothing happened but perhaps a fault
abbrev pub HasFailed : Played → Played → Type 0
HasFailed old new = IsSame old new ⊎ ((e : Event) × IsFault e × IsAdvanced old new e)

-- an event that was possible wasn't carried out, for this cause
abbrev pub HasMissed : Played → Played → StepFault → Type 0
HasMissed old new (faults.NotNow reason) = ⊥
HasMissed old new (faults.Full x) = IsSame old new
HasMissed old new (faults.WentDown x) = HasFailed old new
HasMissed old new (faults.OpenFault x) = HasFailed old new
HasMissed old new faults.NoMemory = IsSame old new

-- what becomes of the turn by that
abbrev pub turn_of_fault : StepFault → Turn
turn_of_fault (faults.NotNow reason) = Idle
turn_of_fault (faults.Full x) = Stopped (stopped.Full x)
turn_of_fault (faults.WentDown x) = Failed
turn_of_fault (faults.OpenFault x) = Failed
turn_of_fault faults.NoMemory = Stopped stopped.NoMemory

abbrev pub turn_of : Place → Result (Unit {0}) StepFault → Turn
turn_of place (Ok done) = Done place
turn_of place (Err fault) = turn_of_fault fault

-- what becomes of a turn in which a client's driver was to learn a page
abbrev pub turn_of_page : Result (Unit {0}) NoMemory → Turn
turn_of_page (Ok done) = Learned
turn_of_page (Err e) = Stopped stopped.NoMemory

-- ---- a turn

-- the actor can do nothing now; a client but by a post
abbrev pub IsIdle : State → Actor → Type 0
IsIdle s (Client c) = HasNoStep s c
IsIdle s (Operator o) = ¬ (HasEvent s (Operator o))
IsIdle s (Service x) = ¬ (HasEvent s (Service x))
IsIdle s (Mover x) = ¬ (HasEvent s (Mover x))

-- it has nothing left to do: a service and a mover once every call and every command is answered
abbrev pub IsDone : State → Actor → Type 0
IsDone s (Client c) = (has_client s c ≡ true) × (next_call (s.client c) ≡ None)
IsDone s (Operator o) = (has_operator s o ≡ true) × (next_command (s.operator o) ≡ None)
IsDone s (Service x) = is_finished s ≡ true
IsDone s (Mover x) = is_finished s ≡ true

-- one event of the actor's own happened, and this is where it stands then
pub record IsStep (old new : Played) (a : Actor) (place : Place) : Type 0 where
  pub event : Event
  pub its_own : IsOf a event
  pub happened : Happened old new event
  pub at : place.who ≡ who a
  pub call : place.call ≡ number_of (state_of old) a
  pub stage : place.stage ≡ stage_after event

-- what a turn of the actor did
abbrev pub IsTurn : Played → Played → Actor → Turn → Type 0
IsTurn old new a (Done place) = IsStep old new a place
IsTurn old new a Idle = IsSame old new × IsIdle (state_of old) a
IsTurn old new a Learned = IsSame old new
IsTurn old new a Failed = HasFailed old new
IsTurn old new a (Stopped fault) = IsSame old new
IsTurn old new a Finished = IsSame old new × IsDone (state_of old) a
