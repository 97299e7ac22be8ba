-- Why a command was answered so; of one that moves a bucket, which events made it Moved or Aborted.
use Rattle.std.specs.Prelude.{◌≡◌, ◌≢◌, ℕ, ◌<◌, ◌≤◌, Bool, true, false, List, length, take, Option, Some, Ok, Err}
use Rattle.vs_base.specs.declared.numbers.Mode.TheVariants.{Rw}
use Rattle.vs_event.specs.declared.event.Event.{Event}
use Rattle.vs_event.specs.declared.event.Event.TheVariants.{Start, NotYet, Deliver, Abort, EndMove}
use Rattle.vs_link.specs.Connection.{Sent, Message, Chunk, Last}
use Rattle.vs_script.specs.declared.command.Command.TheVariants.{Send}
use Rattle.vs_send.specs.declared.abort.AbortCause.{AbortCause}
use Rattle.vs_send.specs.declared.abort.AbortCause.TheVariants as cause
use Rattle.vs_send.specs.declared.transfer.By.TheVariants.{Command}
use Rattle.vs_send.specs.declared.transfer.Phase.{Phase}
use Rattle.vs_send.specs.declared.transfer.Phase.TheVariants.{Waiting, WaitingLast}
use Rattle.vs_send.specs.declared.transfer.Transfer.{Transfer}
use Rattle.vs_space.specs.declared.reply.RecvFault.{RecvFault}
use Rattle.vs_space.specs.declared.status.Status.TheVariants.{Active, Receiving}
use Rattle.vs_machine.specs.declared.outcome.CommandOutcome.{CommandOutcome}
use Rattle.vs_machine.specs.declared.outcome.CommandOutcome.TheVariants.{Moved, Aborted}
use Rattle.vs_machine.specs.State.{State, next_command, references}
use Rattle.vs_machine.specs.Step.{run}
use Rattle.vs_machine.specs.Kinds.Connections.{first_call, received_at}
use Rattle.vs_machine.specs.Inner.Lines.{IsIn}
use Rattle.vs_machine.specs.Causes.Calls.{TakesDown}
use Rattle.vs_machine.specs.Causes.Commands.{IsAnsweredBy}
use Rattle.vs_machine.specs.Causes.Events.{IsEvent, AreTimes}

-- ---- what happens to a transfer

-- the event of index i is a turn that the transfer waits for the writes which run on the bucket at set x
pub record IsHeldAt (start : State) (events : List Event) (b x i : ℕ) : Type 0 where
  pub before : State
  pub after : State
  pub it : IsEvent start events i before (NotYet x b) after
  pub held : 1 ≤ references before Rw x b

-- the transfer of the bucket from set x to set d waits for the answer to this message of theirs, the last one or one with rows
abbrev pub IsAwaited : State → (b x d : ℕ) → Bool → Sent → Type 0
IsAwaited s b x d true sent = IsIn (s.bucket b).transfer x d (WaitingLast (s.link x d).epoch sent.sync)
IsAwaited s b x d false sent = (key : Option (List ℕ)) × IsIn (s.bucket b).transfer x d (Waiting (s.link x d).epoch sent.sync key)

-- at the event of index i set d takes the last message of the transfer from set x: the bucket that it was receiving is active there
pub record IsTakenAt (start : State) (events : List Event) (b x d i : ℕ) : Type 0 where
  pub before : State
  pub after : State
  pub it : IsEvent start events i before (Deliver x d) after
  pub sent : Sent
  pub first : first_call before x d ≡ Some sent
  pub last : sent.message ≡ Last b
  pub awaited : IsAwaited before b x d true sent
  pub receiving : (before.bucket b).entry d ≡ Some (Receiving x)
  pub active : (after.bucket b).entry d ≡ Some Active

-- a message of a transfer of the bucket, the last one or one with rows
abbrev pub IsOfMove : ℕ → Bool → Message → Type 0
IsOfMove b true (Last q) = q ≡ b
IsOfMove b false (Chunk q page) = q ≡ b
IsOfMove b is_last m = ⊥

-- at the event of index i set d answers this fault to a message of the transfer from set x
pub record IsFaultedAt (start : State) (events : List Event) (b x d : ℕ) (fault : RecvFault) (i : ℕ) : Type 0 where
  pub before : State
  pub after : State
  pub it : IsEvent start events i before (Deliver x d) after
  pub sent : Sent
  pub first : first_call before x d ≡ Some sent
  pub is_last : Bool
  pub its : IsOfMove b is_last sent.message
  pub awaited : IsAwaited before b x d is_last sent
  pub refused : received_at before x d b is_last ≡ Err fault

-- ---- a command's transfer

-- command m of operator o, counted from 0, began at the event of index f to move the bucket from set x to set d
pub record IsStartedAt (start : State) (events : List Event) (o m b x d f : ℕ) : Type 0 where
  pub before : State
  pub after : State
  pub it : IsEvent start events f before (Start o) after
  pub command : length (before.operator o).answered ≡ m
  pub named : next_command (before.operator o) ≡ Some (Send b x d)

-- the transfer that it began stands from then on until the event of index g
pub record IsMove (start : State) (events : List Event) (o m b x d f g : ℕ) : Type 0 where
  pub started : IsStartedAt start events o m b x d f
  pub earlier : f < g
  pub stands : (j : ℕ) (s : State) → f < j → j ≤ g → run start (take j events) ≡ Ok s → (t : Transfer) × ((s.bucket b).transfer x ≡ Some t) × (t.dest ≡ d) × (t.by ≡ Command o)

-- the receiver took the last message, before the move ended
pub record WasMoved (start : State) (events : List Event) (o m : ℕ) : Type 0 where
  pub b : ℕ
  pub x : ℕ
  pub d : ℕ
  pub f : ℕ
  pub g : ℕ
  pub move : IsMove start events o m b x d f g
  pub before : State
  pub after : State
  pub ended : IsEvent start events g before (EndMove x b) after
  pub i : ℕ
  pub within : (f < i) × (i < g)
  pub taken : IsTakenAt start events b x d i

-- the transfer waits for a reply of another epoch than this
abbrev pub IsOutdated : ℕ → Phase → Type 0
IsOutdated epoch (Waiting e n k) = e ≢ epoch
IsOutdated epoch (WaitingLast e n) = e ≢ epoch
IsOutdated epoch phase = ⊥

-- Why the move is given up in this state: it waited 256 turns for writes, and one runs still; the receiver answered a fault; the
-- connection was closed since its last message; or the receiver is down.
abbrev pub IsAbortCaused : State → List Event → State → (b x d f g : ℕ) → AbortCause → Type 0
IsAbortCaused start events before b x d f g cause.Drained =
    AreTimes 256 (λ i. (f < i) × (i < g) × IsHeldAt start events b x i) × (1 ≤ references before Rw x b)
IsAbortCaused start events before b x d f g (cause.Receiver fault) = (i : ℕ) × (f < i) × (i < g) × IsFaultedAt start events b x d fault i
IsAbortCaused start events before b x d f g cause.Closed = (t : Transfer) × ((before.bucket b).transfer x ≡ Some t) × IsOutdated (before.link x d).epoch t.phase
IsAbortCaused start events before b x d f g (cause.SetDown y) = (y ≡ d) × (before.up d ≡ false)
IsAbortCaused start events before b x d f g cause.Stopped = ⊥

-- the move was given up, and for this cause
pub record WasAborted (start : State) (events : List Event) (o m : ℕ) (cause : AbortCause) : Type 0 where
  pub b : ℕ
  pub x : ℕ
  pub d : ℕ
  pub f : ℕ
  pub g : ℕ
  pub move : IsMove start events o m b x d f g
  pub before : State
  pub after : State
  pub ended : IsEvent start events g before (Abort x b) after
  pub why : IsAbortCaused start events before b x d f g cause

-- the sender went down, by the event of index g, while the command moved the bucket
pub record WasStopped (start : State) (events : List Event) (o m : ℕ) : Type 0 where
  pub b : ℕ
  pub x : ℕ
  pub d : ℕ
  pub f : ℕ
  pub g : ℕ
  pub started : IsStartedAt start events o m b x d f
  pub earlier : f < g
  pub before : State
  pub event : Event
  pub after : State
  pub ended : IsEvent start events g before event after
  pub command : length (before.operator o).answered ≡ m
  pub moving : (before.operator o).moving ≡ true
  pub down : TakesDown before event x
  pub was_up : before.up x ≡ true

-- ---- what command m of operator o was answered

-- an event of the run answered it so, by what it found
pub record WasTold (start : State) (events : List Event) (o m : ℕ) (out : CommandOutcome) : Type 0 where
  pub g : ℕ
  pub before : State
  pub event : Event
  pub after : State
  pub it : IsEvent start events g before event after
  pub command : length (before.operator o).answered ≡ m
  pub found : IsAnsweredBy before event o out

abbrev pub IsCommandCaused : State → List Event → ℕ → ℕ → CommandOutcome → Type 0
IsCommandCaused start events o m Moved = WasMoved start events o m
IsCommandCaused start events o m (Aborted cause.Stopped) = WasStopped start events o m
IsCommandCaused start events o m (Aborted why) = WasAborted start events o m why
IsCommandCaused start events o m out = WasTold start events o m out
