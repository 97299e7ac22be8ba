-- What a core keeps.
use Rattle.std.specs.Prelude.{Bool, true, false, Option, Some, None}
use Rattle.vs_event.specs.declared.event.Event.{Event}
use Rattle.vs_machine.specs.Runs.{IsReached}
use Rattle.vs_state.specs.declared.state.State.{State}
use Rattle.vs_state.specs.Plain.{plain}
use Rattle.vs_core.specs.declared.cores.Ready.{Ready}
use Rattle.vs_core.specs.declared.cores.Ready.TheVariants.{Single, AnyReserved}
use Rattle.vs_core.specs.declared.dispatch.Prepared.{Prepared}
use Rattle.vs_core.specs.declared.kinds.fault.PreparedFault.{PreparedFault}
use Rattle.vs_core.specs.Core.{Shown}
use Rattle.vs_core.specs.Keeps.{IsSound}
use Rattle.vs_core.specs.Ready.{IsReadyFor, IsFailReady}
use Rattle.vs_core.specs.Reserving.{IsReserved}

-- the event has its room, and so has the fault that may come in its place
pub record IsReadyNow (s : State) (e : Event) (p : Prepared) (fault : Option PreparedFault) : Type 0 where
  pub room : IsReadyFor s e p
  pub failing : IsFailReady s e fault

abbrev pub IsReady : State → Option Ready → Type 0
IsReady s None = Unit {0}
IsReady s (Some (Single e p fault)) = IsReadyNow s e p fault
IsReady s (Some AnyReserved) = IsReserved s

-- ---- what is seen of it

abbrev pub event_of : Option Ready → Option Event
event_of (Some (Single e p fault)) = Some e
event_of ready = None

abbrev pub is_reserved : Option Ready → Bool
is_reserved (Some AnyReserved) = true
is_reserved ready = false

abbrev pub shown : State → Option Ready → Shown
shown s ready = record { state = s; ready_for = event_of ready; is_reserved = is_reserved ready }

-- a run reached the state, its tables are sound, and what stands ready is
pub record IsFine (s : State) (r : Option Ready) : Type 0 where
  pub reached : IsReached (plain s)
  pub sound : IsSound s
  pub ready : IsReady s r
