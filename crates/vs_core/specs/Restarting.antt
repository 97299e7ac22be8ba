-- What is made ready where a set is up again, and what its pending change does.
use Rattle.std.specs.Prelude.{◌≡◌, ◌≢◌, ℕ, Bool, true, false, List, length, Option, Some, None}
use Rattle.vs_event.specs.declared.event.RestartBy.{RestartBy}
use Rattle.vs_event.specs.declared.event.RestartBy.TheVariants.{Line, Service}
use Rattle.vs_record.specs.Change.{Change, SetStatus, AddRows, Write, Wipe, Forget, bucket_of}
use Rattle.vs_refs.specs.Counts.{no_counts}
use Rattle.vs_refs.specs.Refs.{counts_of}
use Rattle.vs_refs.specs.declared.counts.Counts.{Counts}
use Rattle.vs_rows.specs.declared.staged.Staged.{Staged}
use Rattle.vs_space.specs.Status.{MayChange}
use Rattle.vs_space.specs.declared.status.Status.{Status}
use Rattle.vs_space.specs.declared.status.Status.TheVariants.{Receiving, Garbage}
use Rattle.vs_machine.specs.State as machine
use Rattle.vs_machine.specs.Tables.{put}
use Rattle.vs_machine.specs.Kinds.Collection.{is_garbage}
use Rattle.vs_machine.specs.Kinds.Stops.{with_change}
use Rattle.vs_state.specs.declared.state.State.{State}
use Rattle.vs_state.specs.declared.tables.SetTables.{SetTables}
use Rattle.vs_state.specs.Agrees.{agreed}
use Rattle.vs_state.specs.Plain.{plain}
use Rattle.vs_core.specs.Acting.{stored_at, HasHistoryRoom, IsStaged}
use Rattle.vs_core.specs.Delivering.{HasPageRoomAt, IsOpenTo}
use Rattle.vs_core.specs.Rooms.{HasAnswerRoom}
use Rattle.vs_core.specs.Sending.{HasPlaceRoom}
use Rattle.vs_core.specs.declared.kinds.restart.PreparedRestart.{PreparedRestart}

-- ---- the change

-- the change that takes effect
abbrev pub kept_of : Bool → Option Change → Option Change
kept_of true pending = pending
kept_of false pending = None

-- set x has no pending change any more: it took effect, where it is kept; the set isn't up yet
abbrev pub settled : machine.State → ℕ → Option Change → machine.State
settled s x None = record s { pending = put s.pending x None }
settled s x (Some c) = let b = bucket_of c in record s { pending = put s.pending x None; bucket = put s.bucket b (with_change (s.bucket b) x c) }

abbrev pub without_pending : SetTables → SetTables
without_pending t = record t { pending = None }

-- the status of the bucket once its change took effect
abbrev pub status_by : Change → Option Status → Option Status
status_by (SetStatus _ status) old = Some status
status_by (AddRows _ source _) old = Some (Receiving source)
status_by (Write _ _ _) old = old
status_by (Wipe _ _) old = old
status_by (Forget _) old = None

-- a bucket's status at set x lets the change take effect
abbrev pub IsLawfulChange : Option Status → Change → Type 0
IsLawfulChange old (SetStatus _ status) = (old ≢ None) × MayChange old (Some status)
IsLawfulChange old (AddRows _ source _) = IsOpenTo old source
IsLawfulChange old (Write _ _ _) = Unit {0}
IsLawfulChange old (Wipe _ _) = Unit {0}
IsLawfulChange old (Forget _) = old ≡ Some Garbage

-- ---- the references

-- no call holds a reference at set x, and no lock stands
abbrev pub IsUnheld : machine.State → ℕ → Type 0
IsUnheld s x = (b : ℕ) → agreed s x b ≡ no_counts

-- only the read-only lock of each bucket that is garbage at set x stands
abbrev pub AreLocks : List (ℕ × Counts) → machine.State → ℕ → Type 0
AreLocks refs s x = (b : ℕ) → counts_of refs b ≡ record no_counts { ro_lock = is_garbage ((s.bucket b).entry x) }

-- ---- what is made ready

-- the change has room at set x, and a write is staged
abbrev pub IsChangeReady : State → ℕ → Change → Staged → Type 0
IsChangeReady s x (SetStatus b status) staged = HasPlaceRoom s x b
IsChangeReady s x (AddRows b source page) staged = HasPageRoomAt s x b (length page)
IsChangeReady s x (Write id b ops) staged = IsStaged (stored_at s x b) ops staged × HasHistoryRoom s b
IsChangeReady s x (Wipe b count) staged = Unit {0}
IsChangeReady s x (Forget b) staged = Unit {0}

abbrev pub IsPendingReady : State → ℕ → Option Change → Staged → Type 0
IsPendingReady s x None staged = Unit {0}
IsPendingReady s x (Some c) staged = IsChangeReady s x c staged

-- an operator's command can be answered
abbrev pub HasRestartRoom : State → RestartBy → Type 0
HasRestartRoom s (Line o) = HasAnswerRoom s o
HasRestartRoom s Service = Unit {0}

-- the change has room, and the references are those of the set once it is up, where it is down
pub record IsRestartReady (s : State) (x : ℕ) (kept : Bool) (by : RestartBy) (p : PreparedRestart) : Type 0 where
  pub answer : HasRestartRoom s by
  pub change : IsPendingReady s x (kept_of kept ((plain s).pending x)) p.staged
  pub locks : (plain s).up x ≡ false → AreLocks p.refs.items (settled (plain s) x (kept_of kept ((plain s).pending x))) x
