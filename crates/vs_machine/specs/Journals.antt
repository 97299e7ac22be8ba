-- What the sets' journals have to stand for, and what an event writes to them.
use Rattle.std.specs.Prelude.{◌≡◌, ◌≢◌, ◌⊎◌, ℕ, true, false, [], Option, Some, None, Ok}
use Rattle.std.specs.Option.{option_and_then, option_map}
use Rattle.vs_event.specs.declared.event.Event.{Event}
use Rattle.vs_event.specs.declared.event.Event.TheVariants.{Act, Freeze, Seal, Deliver, Hear, Condemn, Wipe, Forget, Pin, Fault, Restart}
use Rattle.vs_event.specs.declared.event.Recorded.{Recorded}
use Rattle.vs_event.specs.declared.event.Recorded.TheVariants as recorded
use Rattle.vs_event.specs.Recorded.{event_of}
use Rattle.vs_record.specs.Body.{HasCounts}
use Rattle.vs_record.specs.Change.{Change}
use Rattle.vs_record.specs.Durable.{Durable, applied, FitsState}
use Rattle.vs_record.specs.Fitting.{fits}
use Rattle.vs_machine.specs.Tables.{put}
use Rattle.vs_machine.specs.Opening.{Holdings}
use Rattle.vs_machine.specs.State.{State, Bucket, has_set}
use Rattle.vs_machine.specs.Kinds.Stops.{Recording, recording, recording_of, pending_at, after_fault}
use Rattle.vs_machine.specs.Step.{step}

-- the entries and the rows of set x
abbrev pub durable_in : (ℕ → Bucket) → ℕ → Durable
durable_in bs x = record { entry = λ b. (bs b).entry x; rows = λ b. (bs b).rows x }

abbrev pub durable_of : State → ℕ → Durable
durable_of s x = durable_in s.bucket x

-- The change that a possible event writes, and at which set. A fault writes nothing: its change is pending, and a restart
-- that keeps it writes it.
abbrev pub written : State → Event → Option Recording
written s (Act c) = recording_of s (recorded.Act c)
written s (Freeze x b) = recording_of s (recorded.Freeze x b)
written s (Seal x b) = recording_of s (recorded.Seal x b)
written s (Deliver x y) = recording_of s (recorded.Deliver x y)
written s (Hear x y) = recording_of s (recorded.Hear x y)
written s (Condemn x b) = recording_of s (recorded.Condemn x b)
written s (Wipe x b) = recording_of s (recorded.Wipe x b)
written s (Forget x b) = recording_of s (recorded.Forget x b)
written s (Pin o) = recording_of s (recorded.Pin o)
written s (Restart x true by) = option_and_then (recording x) (pending_at s x)
written s e = None

abbrev pub IsNoRestart : Event → Type 0
IsNoRestart (Restart x kept by) = ⊥
IsNoRestart e = Unit {0}

-- what is pending after a possible event: a fault adds its change, and a restart ends that of its set
abbrev pub pending_after : State → Event → ℕ → Option Change
pending_after s (Fault x n e) = put s.pending x (option_map (λ r. r.change) (recording_of s e))
pending_after s (Restart x kept by) = put s.pending x None
pending_after s e = s.pending

-- ---- what is written

-- a change may be written to the journal of set x: it fits what the set has, and its counts have a spelling
pub record MayWrite (s : State) (x : ℕ) (c : Change) : Type 0 where
  pub set : has_set s x ≡ true
  pub fitting : FitsState s.config.bucket_count (durable_of s x) c
  pub test : fits s.config.bucket_count (durable_of s x) c ≡ true
  pub counts : HasCounts c

-- at which sets an event writes: a restart where the change is pending, at a set that is down, and any other where it is up
abbrev pub WritesAt : State → Event → Recording → Type 0
WritesAt s (Restart x kept by) r = (r.at ≡ x) × (s.up x ≡ false) × (s.pending x ≡ Some r.change)
WritesAt s e r = s.up r.at ≡ true

-- the set has what the change makes of what it had, and every other set has what it had
pub record IsWritten (old new : ℕ → Bucket) (r : Recording) : Type 0 where
  pub here : durable_in new r.at ≡ applied (durable_in old r.at) r.change
  pub others : (x : ℕ) → x ≢ r.at → durable_in new x ≡ durable_in old x

abbrev pub AreWritten : (ℕ → Bucket) → (ℕ → Bucket) → Option Recording → Type 0
AreWritten old new None = (x : ℕ) → durable_in new x ≡ durable_in old x
AreWritten old new (Some r) = IsWritten old new r

-- ---- what a journal stands for

-- A journal that stands for d fits set x: d is what the set has, or, where a change is pending there, that with the change.
abbrev pub FitsSet : State → ℕ → Durable → Type 0
FitsSet s x d = (d ≡ durable_of s x) ⊎ ((c : Change) × (s.pending x ≡ Some c) × (d ≡ applied (durable_of s x) c))

-- the event neither writes to the journal of set x nor restarts it
abbrev pub LeavesSet : State → Event → ℕ → Type 0
LeavesSet s (Restart z kept by) x = x ≢ z
LeavesSet s e x = (r : Recording) → written s e ≡ Some r → x ≢ r.at

-- no entries and no rows
abbrev pub nothing : Durable
nothing = record { entry = λ b. None; rows = λ b. [] }

-- the journals stand for what fits the sets of the cluster
pub record FitsSets (s : State) (d : ℕ → Durable) : Type 0 where
  pub sets : (x : ℕ) → has_set s x ≡ true → FitsSet s x (d x)
  pub others : (x : ℕ) → has_set s x ≡ false → d x ≡ nothing

-- what journals hold that stand for this
abbrev pub held_as : (ℕ → Durable) → Holdings
held_as d = record { entry = λ x b. (d x).entry b; rows = λ x b. (d x).rows b }

-- ---- one event

-- an event that may be recorded writes what it records, and any other that isn't a restart writes nothing
pub record WritesRecorded (s : State) : Type 0 where
  pub recorded_by : (v : Recorded) → written s (event_of v) ≡ recording_of s v
  pub none_by : (e : Event) → ((v : Recorded) → e ≢ event_of v) → IsNoRestart e → written s e ≡ None

-- what an event does to what is in the journals, and to what is pending
pub record KeepsJournals (s t : State) (e : Event) : Type 0 where
  pub written_is : AreWritten s.bucket t.bucket (written s e)
  pub fits_here : (r : Recording) → written s e ≡ Some r → MayWrite s r.at r.change
  pub writes_at : (r : Recording) → written s e ≡ Some r → WritesAt s e r
  pub pending_is : t.pending ≡ pending_after s e
  -- a set that stays down keeps what it has, and what is pending there
  pub stays : (x : ℕ) → s.up x ≡ false → t.up x ≡ false → (durable_of t x ≡ durable_of s x) × (t.pending x ≡ s.pending x)
  -- what fits a set to whose journal nothing is written still fits it
  pub leaves : (x : ℕ) (d : Durable) → LeavesSet s e x → FitsSet s x d → FitsSet t x d

-- a pending change stands at a set that is down, and may be written there
pub record IsPending (s : State) (x : ℕ) (c : Change) : Type 0 where
  pub down : s.up x ≡ false
  pub may : MayWrite s x c

-- writing the change may fail: the set is up, and the fault that says so is possible, by which the change is pending
pub record MayFail (s : State) (e : Recorded) (r : Recording) (n : ℕ) : Type 0 where
  pub up : s.up r.at ≡ true
  pub possible : step s (Fault r.at n e) ≡ Ok (after_fault s r.at n r.change)
