-- What a core stands for.
use Rattle.std.specs.Prelude.{◌≡◌, ◌⊎◌, ℕ, Bool, true, Option, Some}
use Rattle.vs_event.specs.declared.event.Event.{Event}
use Rattle.vs_event.specs.declared.event.Event.TheVariants.{Begin, End, Take, Abort, Close, Fault}
use Rattle.vs_event.specs.declared.event.Recorded.{Recorded}
use Rattle.vs_event.specs.Recorded.{event_of}
use Rattle.vs_machine.specs.State as machine
use Rattle.vs_state.specs.declared.state.State.{State}
use Rattle.vs_state.specs.Plain.{plain}

-- its tables, the event for which all memory is taken, and whether it is taken for any event of the reserved kinds
pub record Shown : Type 0 where
  pub state : State
  pub ready_for : Option Event
  pub is_reserved : Bool

-- the state of the machine
abbrev pub means : Shown → machine.State
means c = plain c.state

-- ---- room

-- the event is a fault that comes in the place of the first
pub record IsFaultOf (ready : Option Event) (e : Event) : Type 0 where
  pub at : ℕ
  pub number : ℕ
  pub recorded : Recorded
  pub is : e ≡ Fault at number recorded
  pub of : ready ≡ Some (event_of recorded)

-- the kinds of which any one event has room after one call
abbrev pub IsReservedKind : Event → Type 0
IsReservedKind (Begin c) = Unit {0}
IsReservedKind (End c) = Unit {0}
IsReservedKind (Take c) = Unit {0}
IsReservedKind (Abort x b) = Unit {0}
IsReservedKind (Close o) = Unit {0}
IsReservedKind e = ⊥

-- the event needs no further memory: all of it was taken for it, for the event in whose place it comes, or for its kind
abbrev pub HasRoom : Shown → Event → Type 0
HasRoom c e = (c.ready_for ≡ Some e) ⊎ IsFaultOf c.ready_for e ⊎ ((c.is_reserved ≡ true) × IsReservedKind e)
