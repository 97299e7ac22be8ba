-- What stands ready for an event.
use Rattle.std.specs.Prelude.{◌≡◌, ℕ, Option, Some, None}
use Rattle.vs_event.specs.declared.event.Event.{Event}
use Rattle.vs_event.specs.declared.event.Event.TheVariants as event
use Rattle.vs_record.specs.Change.{change}
use Rattle.vs_state.specs.declared.state.State.{State}
use Rattle.vs_state.specs.Plain.{plain}
use Rattle.vs_core.specs.declared.dispatch.Prepared.{Prepared}
use Rattle.vs_core.specs.declared.kinds.fault.PreparedFault.{PreparedFault}
use Rattle.vs_core.specs.declared.kinds.restart.PreparedRestart.{PreparedRestart}
use Rattle.vs_core.specs.declared.dispatch.Prepared.TheVariants as prepared
use Rattle.vs_core.specs.Acting.{IsActReady}
use Rattle.vs_core.specs.Asking.{IsAskReady}
use Rattle.vs_core.specs.Closing.{IsCloseReady}
use Rattle.vs_core.specs.Delivering.{IsDeliverReady}
use Rattle.vs_core.specs.Hauling.{IsHaulReady}
use Rattle.vs_core.specs.Planning.{IsPlanReady}
use Rattle.vs_core.specs.Records.{records}
use Rattle.vs_core.specs.References.{HasReferenceRoom, IsBeginReady}
use Rattle.vs_core.specs.Restarting.{IsRestartReady}
use Rattle.vs_core.specs.Rooms.{HasAnswerRoom}
use Rattle.vs_core.specs.Sending.{HasMessageRoom, HasPlaceRoom, IsAbortReady, IsChunkReady, IsEndReady, IsStartReady}
use Rattle.vs_core.specs.Stopping.{IsDownReady, IsFaultReady, IsStopReady}
use Rattle.vs_core.specs.Taking.{IsTakeReady}

-- the room in the tables, where nothing beside it has to be made
abbrev pub HasRoomFor : State → Event → Type 0
HasRoomFor s (event.Post c x) = Unit {0}
HasRoomFor s (event.Begin c) = IsBeginReady s c
HasRoomFor s (event.End c) = Unit {0}
HasRoomFor s (event.Take c) = IsTakeReady s c
HasRoomFor s (event.Cut o) = HasAnswerRoom s o
HasRoomFor s (event.Start o) = IsStartReady s o
HasRoomFor s (event.NotYet x b) = Unit {0}
HasRoomFor s (event.Freeze x b) = Unit {0}
HasRoomFor s (event.Seal x b) = HasPlaceRoom s x b
HasRoomFor s (event.Last x b) = HasMessageRoom s x b
HasRoomFor s (event.Abort x b) = IsAbortReady s x b
HasRoomFor s (event.EndMove x b) = IsEndReady s x b
HasRoomFor s (event.Deliver x y) = IsDeliverReady s x y
HasRoomFor s (event.Hear x y) = HasReferenceRoom s x
HasRoomFor s (event.Close o) = IsCloseReady s o
HasRoomFor s (event.Ask x b) = IsAskReady s x b
HasRoomFor s (event.Condemn x b) = HasReferenceRoom s x
HasRoomFor s (event.Wipe x b) = Unit {0}
HasRoomFor s (event.Forget x b) = Unit {0}
HasRoomFor s (event.Pin o) = HasAnswerRoom s o
HasRoomFor s (event.Stop o) = IsStopReady s o
HasRoomFor s e = ⊥

-- room in the tables is all that the event needs
abbrev pub HasNoParts : Event → Type 0
HasNoParts (event.Act c) = ⊥
HasNoParts (event.Chunk x b) = ⊥
HasNoParts (event.Haul o x d) = ⊥
HasNoParts (event.Plan o) = ⊥
HasNoParts (event.Fault x n r) = ⊥
HasNoParts (event.Restart x kept by) = ⊥
HasNoParts e = Unit {0}

-- the change of a set that goes down, or of one that is up again, where the event is such
abbrev pub IsFaultReadyFor : State → Event → PreparedFault → Type 0
IsFaultReadyFor s (event.Fault x n r) p = IsFaultReady s x n r p
IsFaultReadyFor s e p = ⊥

abbrev pub IsRestartReadyFor : State → Event → PreparedRestart → Type 0
IsRestartReadyFor s (event.Restart x kept by) p = IsRestartReady s x kept by p
IsRestartReadyFor s e p = ⊥

-- and what was made beside the room is for the event
abbrev pub IsReadyFor : State → Event → Prepared → Type 0
IsReadyFor s e prepared.Nothing = HasRoomFor s e
IsReadyFor s e (prepared.Act c p) = (e ≡ event.Act c) × IsActReady s c p
IsReadyFor s e (prepared.Chunk x b p) = (e ≡ event.Chunk x b) × IsChunkReady s x b p
IsReadyFor s e (prepared.Haul o x d p) = (e ≡ event.Haul o x d) × IsHaulReady s o x d p
IsReadyFor s e (prepared.Plan o p) = (e ≡ event.Plan o) × IsPlanReady s o p
IsReadyFor s e (prepared.Fault p) = IsFaultReadyFor s e p
IsReadyFor s e (prepared.Restart p) = IsRestartReadyFor s e p

-- the event records this change, and the set at which it does can go down
pub record CanFail (s : State) (e : Event) (p : PreparedFault) : Type 0 where
  pub at : ℕ
  pub recorded : records (plain s) e ≡ Some (record { at = at; change = change p.change })
  pub down : IsDownReady s at

-- the same, or it records nothing
abbrev pub IsFailReady : State → Event → Option PreparedFault → Type 0
IsFailReady s e None = records (plain s) e ≡ None
IsFailReady s e (Some p) = CanFail s e p
