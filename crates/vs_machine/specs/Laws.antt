-- What holds of every run from a coherent opening.
use Rattle.std.specs.Prelude.{◌≡◌, ℕ, zero, suc, Bool, true, false, if◌then◌else◌, Option, Some, None, Ok, ◌+◌, ◌*◌, ◌≤◌, ◌↔◌, List, [], ◌∷◌, ◌++◌, length, slice_get}
use Rattle.std.specs.List.{sum_by}
use Rattle.vs_base.specs.declared.numbers.Mode.TheVariants.{Ro, Rw}
use Rattle.vs_space.specs.declared.status.Cause.{Cause}
use Rattle.vs_space.specs.declared.status.Status.TheVariants.{Active, Receiving, Garbage}
use Rattle.vs_space.specs.declared.status.Verdict.TheVariants as verdict
use Rattle.vs_calls.specs.Outcomes.{Outcome, Reply}
use Rattle.vs_calls.specs.Progress.{is_idle}
use Rattle.vs_calls.specs.declared.stage.Stage.TheVariants as stage
use Rattle.vs_event.specs.declared.event.Event.{Event}
use Rattle.vs_event.specs.declared.event.Event.TheVariants.{Begin, Condemn, Wipe, Forget}
use Rattle.vs_event.specs.declared.event.Recorded.{Recorded}
use Rattle.vs_event.specs.Recorded.{event_of}
use Rattle.vs_history.specs.History.{Entry, rows_at, write_count}
use Rattle.vs_record.specs.Change.{Change}
use Rattle.vs_record.specs.Durable.{Durable}
use Rattle.vs_script.specs.Calls.{Call}
use Rattle.vs_script.specs.declared.command.Command as declared_command
use Rattle.vs_script.specs.declared.command.Command.TheVariants.{Send}
use Rattle.vs_send.specs.declared.transfer.By.{By}
use Rattle.vs_send.specs.declared.transfer.By.TheVariants.{Command, Haul}
use Rattle.vs_send.specs.declared.transfer.Transfer.{Transfer}
use Rattle.vs_machine.specs.State.{State, Client, Operator, sets_of, next_call, next_command, references}
use Rattle.vs_config.specs.Configuration.{Configuration}
use Rattle.vs_machine.specs.Tables.{is_to, sum_to}
use Rattle.vs_script.specs.Scripts.{Scripts}
use Rattle.vs_machine.specs.declared.outcome.CommandOutcome.{CommandOutcome}
use Rattle.vs_machine.specs.Causes.Calls.{WasAnswered}
use Rattle.vs_machine.specs.Causes.Commands.{IsAnsweredBy}
use Rattle.vs_machine.specs.Causes.Moves.{IsCommandCaused}
use Rattle.vs_machine.specs.Opening.{Holdings, IsLawful, opening}
use Rattle.vs_machine.specs.Step.{step, run}
use Rattle.vs_machine.specs.Coherence.{IsCoherent, AcceptsWrites, owners, handed_by}
use Rattle.vs_machine.specs.History.{AreLegal, AreAnswered, KeepsCallerOrder, IsFresh, IsFrozenCopy}
use Rattle.vs_machine.specs.Kinds.Calls.{verdict_at}
use Rattle.vs_machine.specs.Kinds.Stops.{Recording, is_next_fault, restarted}
use Rattle.vs_machine.specs.Owners.{owners_at, owners_of}
use Rattle.vs_machine.specs.Runs.{IsOpening, IsReached}
use Rattle.vs_machine.specs.Standing.{StandsBy}
use Rattle.vs_machine.specs.Whole.{Whole}
use Rattle.vs_machine.specs.Inner.Once.{all_entries}
use Rattle.vs_machine.specs.Inputs.{HasInputs, SameInputs, HasFew, IsCallIn, IsCommandIn}
use Rattle.vs_machine.specs.Journals.{durable_of, written, WritesRecorded, KeepsJournals, IsPending, MayFail, FitsSets, held_as}

-- ---- every event

-- every event keeps what holds inside
abbrev pub KeptByEvents : Type 0
KeptByEvents = (own : ℕ → ℕ) (s t : State) (e : Event) → Whole own s → step s e ≡ Ok t → Whole (owners own s e) t

-- a reached state has the whole of it, for some owners of its buckets
abbrev pub WholeRuns : Type 0
WholeRuns = (s : State) → IsReached s → (own : ℕ → ℕ) × Whole own s

-- and so it has for the owners that the events of its run give
abbrev pub OwnedRuns : Type 0
OwnedRuns = (s : State) (r : IsReached s) → Whole (owners_of s r) s

-- for no others: the owner of a bucket is the set that its entries tell
abbrev pub SingleOwners : Type 0
SingleOwners = (own : ℕ → ℕ) (s : State) → Whole own s → own ≡ owners_at s

-- a possible event from a reached state reaches the next
abbrev pub ReachesOn : Type 0
ReachesOn = (s t : State) (e : Event) → IsReached s → step s e ≡ Ok t → IsReached t

-- ---- who has a bucket

-- after each event the state is coherent
abbrev pub CoherentRuns : Type 0
CoherentRuns = (s : State) → IsReached s → IsCoherent s

-- at most one set accepts a bucket's writes
abbrev pub OneAccepts : Type 0
OneAccepts = (s : State) → IsReached s → (b x y : ℕ) → AcceptsWrites s x b → AcceptsWrites s y b → x ≡ y

-- ---- histories

-- each history is legal
abbrev pub LegalRuns : Type 0
LegalRuns = (s : State) → IsReached s → AreLegal s

-- no call stands in the histories of two buckets, nor twice in one: two entries of a call are the same
abbrev pub SingleRuns : Type 0
SingleRuns = (s : State) → IsReached s → (b d m n : ℕ) (e f : Entry) → slice_get (all_entries (s.bucket b).history) m ≡ Some e → slice_get (all_entries (s.bucket d).history) n ≡ Some f
    → e.id ≡ f.id → (b ≡ d) × (m ≡ n)

-- each call answered Reply stands in its bucket's history with that place and those answers, and one answered Spent in none
abbrev pub AnsweredRuns : Type 0
AnsweredRuns = (s : State) → IsReached s → AreAnswered s

-- where a present call stands: once where it acted, once at most where it was lost, and nowhere before
abbrev pub PresentRuns : Type 0
PresentRuns = (s : State) → IsReached s → (c : ℕ) (k : Call) → next_call (s.client c) ≡ Some k → StandsBy s c k (s.client c).present.stage

-- ---- order and freshness

-- a later call of a client isn't placed before an earlier one of the same bucket
abbrev pub OrderedRuns : Type 0
OrderedRuns = (s : State) → IsReached s → (c : ℕ) → KeepsCallerOrder (s.client c)

-- a call that acts sees at least what was there when it was posted
abbrev pub FreshRuns : Type 0
FreshRuns = (s : State) → IsReached s → IsFresh s

-- a set from which a bucket was sent keeps the rows that its reads see
abbrev pub FrozenRuns : Type 0
FrozenRuns = (s : State) → IsReached s → IsFrozenCopy s

-- ---- collection

-- no call holds the bucket at the set
abbrev pub IsUnreferenced : State → ℕ → ℕ → Type 0
IsUnreferenced s x b = (references s Ro x b ≡ 0) × (references s Rw x b ≡ 0)

-- the event makes the bucket garbage at the set, or collects it there
abbrev pub Collects : State → Event → ℕ → ℕ → State → Type 0
Collects s (Condemn x b) y q t = (y ≡ x) × (q ≡ b)
Collects s (Wipe x b) y q t = (y ≡ x) × (q ≡ b)
Collects s (Forget x b) y q t = (y ≡ x) × (q ≡ b)
Collects s e y q t = (z : ℕ) × ((s.bucket q).entry y ≡ Some (Receiving z)) × ((t.bucket q).entry y ≡ Some Garbage)

-- nothing that a call holds is collected
abbrev pub UnheldRuns : Type 0
UnheldRuns = (s t : State) (e : Event) → IsReached s → step s e ≡ Ok t → (x b : ℕ) → Collects s e x b t → IsUnreferenced s x b

-- ---- activations

-- set y has the rows that set x had when it sealed the bucket: those of the place that x kept then, after which no write came
pub record HasSealedRows (s : State) (b y x : ℕ) : Type 0 where
  pub rows : (s.bucket b).rows y ≡ rows_at (s.bucket b).history ((s.bucket b).kept x)
  pub since : (s.bucket b).kept x ≡ write_count (s.bucket b).history

-- it has them before the event, and the event leaves them
pub record KeepsSealedRows (s t : State) (b y x : ℕ) : Type 0 where
  pub before : HasSealedRows s b y x
  pub after : HasSealedRows t b y x
  pub same : (t.bucket b).rows y ≡ (s.bucket b).rows y

-- a set that becomes active has the rows that the sender had at its seal
abbrev pub ActivatedRuns : Type 0
ActivatedRuns = (s t : State) (e : Event) → IsReached s → step s e ≡ Ok t → (b y x : ℕ) → (s.bucket b).entry y ≡ Some (Receiving x) → (t.bucket b).entry y ≡ Some Active → KeepsSealedRows s t b y x

-- ---- how many events it took

abbrev pub one_if_reply : Outcome → ℕ
one_if_reply (Reply place answers) = 1
one_if_reply outcome = 0

-- how many calls of all clients were answered with a reply
abbrev pub replies : State → ℕ
replies s = sum_to (λ c. sum_by one_if_reply (s.client c).answered) s.clients

-- each such call took five events of its own
abbrev pub FiveEventRuns : Type 0
FiveEventRuns = (config : Configuration) (scripts : Scripts) (held : Holdings) (events : List Event) (s : State) → run (opening config scripts held) events ≡ Ok s → 5 * replies s ≤ length events

-- ---- whatever was kept of what is pending

-- each set up to n with a pending change is up again, with the change where it is chosen
abbrev pub chosen_at : State → ℕ → Bool → Option Change → State
chosen_at s x keep None = s
chosen_at s x keep (Some change) = restarted s x keep (Some change)

abbrev pub chosen : State → (ℕ → Bool) → ℕ → State
chosen s keep zero = s
chosen s keep (suc n) = let before = chosen s keep n in chosen_at before (suc n) (keep (suc n)) (before.pending (suc n))

-- for every choice of pending changes the state is coherent
abbrev pub ChoiceRuns : Type 0
ChoiceRuns = (s : State) → IsReached s → (keep : ℕ → Bool) → IsCoherent (chosen s keep (sets_of s))

-- the owners then: a change that is kept may hand a bucket over
abbrev pub chosen_owners : (ℕ → ℕ) → State → (ℕ → Bool) → ℕ → ℕ → ℕ
chosen_owners own s keep zero = own
chosen_owners own s keep (suc n) =
    let before = chosen_owners own s keep n in
    if keep (suc n) then handed_by before ((chosen s keep n).pending (suc n)) else before

-- for every choice of pending changes the state is reached, and has the whole of what holds inside
abbrev pub ChosenWhole : Type 0
ChosenWhole = (s : State) (r : IsReached s) (keep : ℕ → Bool) → IsReached (chosen s keep (sets_of s)) × Whole (chosen_owners (owners_of s r) s keep (sets_of s)) (chosen s keep (sets_of s))

-- ---- refusals

-- a call is refused exactly where that is the verdict of the set that was asked
abbrev pub RefusedRuns : Type 0
RefusedRuns = (s t : State) (c x : ℕ) (k : Call) (cause : Cause) → step s (Begin c) ≡ Ok t → next_call (s.client c) ≡ Some k → (s.client c).present.set ≡ Some x
    → (((t.client c).present.stage ≡ stage.Refused) × ((t.client c).present.cause ≡ Some cause)) ↔ (verdict_at s x k ≡ verdict.Refused cause)

-- an event answers an operator's next command exactly where it finds what that answer says
abbrev pub AnsweredCommands : Type 0
AnsweredCommands = (s t : State) (e : Event) (o : ℕ) (out : CommandOutcome) → step s e ≡ Ok t → ((t.operator o).answered ≡ (s.operator o).answered ++ out ∷ []) ↔ IsAnsweredBy s e o out

-- ---- the answers of a run

-- a call answered Reply ran and got that; one answered Lost was cut, or its set went down; one answered Spent was refused 128
-- times, the last time for that cause
abbrev pub CausedCalls : Type 0
CausedCalls = (config : Configuration) (scripts : Scripts) (held : Holdings) (events : List Event) (s : State) → run (opening config scripts held) events ≡ Ok s
    → (c n : ℕ) (o : Outcome) → slice_get (s.client c).answered n ≡ Some o → WasAnswered (opening config scripts held) events c (n + 1) o

-- Of a bucket that was moved the receiver took the last message, and a move that was aborted had its cause. Any other answer was
-- given by an event that found what it says.
abbrev pub CausedCommands : Type 0
CausedCommands = (config : Configuration) (scripts : Scripts) (held : Holdings) (events : List Event) (s : State) → IsOpening config scripts held → run (opening config scripts held) events ≡ Ok s
    → (o m : ℕ) (out : CommandOutcome) → slice_get (s.operator o).answered m ≡ Some out → IsCommandCaused (opening config scripts held) events o m out

-- ---- what a run is given

-- each reached state has a configuration and scripts, which are lawful
abbrev pub InputRuns : Type 0
InputRuns = (s : State) → IsReached s → HasInputs s

-- an event leaves them as they were
abbrev pub KeptInputs : Type 0
KeptInputs = (s t : State) (e : Event) → step s e ≡ Ok t → SameInputs s t

-- and so does a run: they are those that it began with
abbrev pub BegunInputs : Type 0
BegunInputs = (s t : State) (events : List Event) → run s events ≡ Ok t → SameInputs s t

-- there are few clients and operators, and few calls and commands of each
abbrev pub FewRuns : Type 0
FewRuns = (s : State) → IsReached s → HasFew s

-- the present call of a client, or its next, is lawful
abbrev pub CallRuns : Type 0
CallRuns = (s : State) → IsReached s → (c : ℕ) (k : Call) → next_call (s.client c) ≡ Some k → IsCallIn s k

-- the next command of an operator is lawful
abbrev pub CommandRuns : Type 0
CommandRuns = (s : State) → IsReached s → (o : ℕ) (k : declared_command.Command) → next_command (s.operator o) ≡ Some k → IsCommandIn s k

-- the present call has the number after those that were answered
abbrev pub NumberedRuns : Type 0
NumberedRuns = (s : State) → IsReached s → (c : ℕ) → (s.client c).present.number ≡ length (s.client c).answered + 1

-- ---- what is answered of it, and who waits

-- no more is answered of a script than it has
pub record IsWithinScripts (s : State) : Type 0 where
  pub clients : (c : ℕ) → length (s.client c).answered ≤ length (s.client c).script
  pub operators : (o : ℕ) → length (s.operator o).answered ≤ length (s.operator o).script

abbrev pub WithinRuns : Type 0
WithinRuns = (s : State) → IsReached s → IsWithinScripts s

-- the client's present call is there, and was last posted at a set, of n
pub record IsPosted (n : ℕ) (c : Client) : Type 0 where
  pub call : Call
  pub called : next_call c ≡ Some call
  pub set : ℕ
  pub at : c.present.set ≡ Some set
  pub known : is_to n set ≡ true

-- a present call that isn't idle was posted
abbrev pub PostedRuns : Type 0
PostedRuns = (s : State) → IsReached s → (c : ℕ) → is_idle (s.client c).present.stage ≡ false → IsPosted (sets_of s) (s.client c)

-- the operator's next command moves the bucket from set x to set d, and began to
pub record IsMoving (o : Operator) (b x d : ℕ) : Type 0 where
  pub moving : o.moving ≡ true
  pub named : next_command o ≡ Some (Send b x d)

-- a transfer of the bucket was begun by one of n operators: by its next command, or in a round
abbrev pub IsBegunBy : ℕ → (ℕ → Operator) → ℕ → ℕ → ℕ → By → Type 0
IsBegunBy n operators b x d (Command o) = (is_to n o ≡ true) × IsMoving (operators o) b x d
IsBegunBy n operators b x d (Haul o) = is_to n o ≡ true

-- who began a transfer is there to be answered
abbrev pub TransferRuns : Type 0
TransferRuns = (s : State) → IsReached s → (b x : ℕ) (t : Transfer) → (s.bucket b).transfer x ≡ Some t → IsBegunBy s.operators s.operator b x t.dest t.by

-- ---- journals

-- what an event writes is what it records
abbrev pub WrittenEvents : Type 0
WrittenEvents = (s : State) → WritesRecorded s

-- each event changes what the sets have by the change that it writes, at one set at most, and that change fits there
abbrev pub WrittenRuns : Type 0
WrittenRuns = (s t : State) (e : Event) → IsReached s → step s e ≡ Ok t → KeepsJournals s t e

-- a pending change still fits what its set has
abbrev pub PendingRuns : Type 0
PendingRuns = (s : State) → IsReached s → (x : ℕ) (c : Change) → s.pending x ≡ Some c → IsPending s x c

-- at the opening a set has what its journal holds
abbrev pub OpenedHoldings : Type 0
OpenedHoldings = (config : Configuration) (scripts : Scripts) (held : Holdings) (x : ℕ) → durable_of (opening config scripts held) x ≡ record { entry = held.entry x; rows = held.rows x }

-- where a possible event writes, there may be a fault with the next number in its place
abbrev pub FaultRuns : Type 0
FaultRuns = (s t : State) (e : Recorded) (r : Recording) (n : ℕ) → IsReached s → step s (event_of e) ≡ Ok t → written s (event_of e) ≡ Some r → is_next_fault (s.last_fault r.at) n ≡ true → MayFail s e r n

-- whatever the journals stand for that fits the sets, a run may begin with it again
abbrev pub ReopenedRuns : Type 0
ReopenedRuns = (s : State) → IsReached s → (d : ℕ → Durable) → FitsSets s d → (scripts : Scripts) → IsLawful s.config scripts → IsOpening s.config scripts (held_as d)
