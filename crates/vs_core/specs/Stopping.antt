-- What is made ready where a set goes down.
use Rattle.std.specs.Prelude.{◌≡◌, ◌≢◌, ℕ, ◌-◌, ◌^◌, ◌<◌, ◌≤◌, Some, option_map}
use Rattle.vs_event.specs.declared.event.Recorded.{Recorded}
use Rattle.vs_link.specs.Links.{Links, connection_of}
use Rattle.vs_record.specs.Change.{change}
use Rattle.vs_machine.specs.State.{next_command}
use Rattle.vs_machine.specs.Kinds.Stops.{recording_of, set_to_stop}
use Rattle.vs_core.specs.declared.kinds.fault.PreparedFault.{PreparedFault}
use Rattle.vs_state.specs.declared.state.State.{State}
use Rattle.vs_state.specs.Plain.{plain}
use Rattle.vs_core.specs.Rooms.{HasAnswerRoom}

-- both connections between two sets can be closed once more
pub record CanCloseBoth (links : Links) (x y : ℕ) : Type 0 where
  pub out : (connection_of links x y).epoch < 2 ^ 63 - 1
  pub back : (connection_of links y x).epoch < 2 ^ 63 - 1

-- each connection from the set and to it can
abbrev pub CanClose : Links → ℕ → Type 0
CanClose links x = (y : ℕ) → 1 ≤ y → y ≤ links.sets → x ≢ y → CanCloseBoth links x y

-- each operator can be answered, and each connection of the set can be closed
pub record IsDownReady (s : State) (x : ℕ) : Type 0 where
  pub answers : (o : ℕ) → HasAnswerRoom s o
  pub epochs : CanClose s.links x

-- the set that the operator's command names can go down
abbrev pub IsStopReady : State → ℕ → Type 0
IsStopReady s o = (x : ℕ) → set_to_stop (next_command ((plain s).operator o)) ≡ Some x → IsDownReady s x

-- the set can go down, and the change is the one that the event would record
pub record IsFaultReady (s : State) (x n : ℕ) (e : Recorded) (p : PreparedFault) : Type 0 where
  pub records : option_map (λ r. r.change) (recording_of (plain s) e) ≡ Some (change p.change)
  pub down : IsDownReady s x
