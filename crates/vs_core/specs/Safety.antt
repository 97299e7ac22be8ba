-- What is promised of each state that a run reaches, and of each event in it.
use Rattle.std.specs.Prelude.{◌≡◌, ℕ, ◌+◌, ◌*◌, ◌≤◌, ◌↔◌, Bool, List, [], ◌∷◌, ◌++◌, length, take, slice_get, Some, Ok}
use Rattle.vs_space.specs.declared.status.Cause.{Cause}
use Rattle.vs_space.specs.declared.status.Status.TheVariants.{Active, Receiving}
use Rattle.vs_space.specs.declared.status.Verdict.TheVariants as verdict
use Rattle.vs_calls.specs.Outcomes.{Outcome}
use Rattle.vs_calls.specs.declared.stage.Stage.TheVariants as stage
use Rattle.vs_event.specs.declared.event.Event.{Event}
use Rattle.vs_event.specs.declared.event.Event.TheVariants.{Begin}
use Rattle.vs_history.specs.History.{Entry}
use Rattle.vs_script.specs.Calls.{Call}
use Rattle.vs_config.specs.Configuration.{Configuration}
use Rattle.vs_script.specs.Scripts.{Scripts}
use Rattle.vs_machine.specs.Coherence.{IsCoherent, AcceptsWrites}
use Rattle.vs_machine.specs.History.{AreLegal, AreAnswered, KeepsCallerOrder, IsFresh, IsFrozenCopy}
use Rattle.vs_machine.specs.declared.outcome.CommandOutcome.{CommandOutcome}
use Rattle.vs_machine.specs.Causes.Calls.{WasAnswered}
use Rattle.vs_machine.specs.Causes.Commands.{IsAnsweredBy}
use Rattle.vs_machine.specs.Causes.Moves.{IsCommandCaused}
use Rattle.vs_machine.specs.Inner.Once.{all_entries}
use Rattle.vs_machine.specs.Kinds.Calls.{verdict_at}
use Rattle.vs_machine.specs.Laws.{IsUnreferenced, Collects, KeepsSealedRows, chosen, chosen_owners, replies}
use Rattle.vs_machine.specs.Opening.{Holdings, opening}
use Rattle.vs_machine.specs.Owners.{owners_at, owners_after, owners_of}
use Rattle.vs_machine.specs.Runs.{IsReached, IsOpening}
use Rattle.vs_machine.specs.State.{State, sets_of, next_call}
use Rattle.vs_machine.specs.Standing.{StandsBy}
use Rattle.vs_machine.specs.Step.{step, run}
use Rattle.vs_machine.specs.Whole.{Whole}

pub record IsSafe (s : State) : Type 0 where
  -- the owners of the buckets that the events of a run give are those that the entries tell, and for them alone holds what holds
  -- inside; it holds too whichever pending changes of sets that are down are kept, one that is sent away with its next owner
  pub owners : (r : IsReached s) → owners_of s r ≡ owners_at s
  pub whole : Whole (owners_at s) s
  pub owned_once : (own : ℕ → ℕ) → Whole own s → own ≡ owners_at s
  pub chosen_whole : (keep : ℕ → Bool) → Whole (chosen_owners (owners_at s) s keep (sets_of s)) (chosen s keep (sets_of s))
  -- so the sets' entries of each bucket fit together, whichever are kept
  pub coherent : IsCoherent s
  pub chosen : (keep : ℕ → Bool) → IsCoherent (chosen s keep (sets_of s))
  -- at most one set accepts a bucket's writes
  pub one : (b x y : ℕ) → AcceptsWrites s x b → AcceptsWrites s y b → x ≡ y
  -- each history is legal, and no call stands in two places
  pub legal : AreLegal s
  pub single : (b d m n : ℕ) (e f : Entry) → slice_get (all_entries (s.bucket b).history) m ≡ Some e → slice_get (all_entries (s.bucket d).history) n ≡ Some f
      → e.id ≡ f.id → (b ≡ d) × (m ≡ n)
  -- a call that was answered with a reply stands in its bucket's history with that place and those answers, and one that was
  -- spent stands nowhere; a present one stands, once, exactly where it acted, or was lost and stands once
  pub answered : AreAnswered s
  pub present : (c : ℕ) (k : Call) → next_call (s.client c) ≡ Some k → StandsBy s c k (s.client c).present.stage
  -- calls keep their client's order, and see what was there when they were posted
  pub ordered : (c : ℕ) → KeepsCallerOrder (s.client c)
  pub fresh : IsFresh s
  -- a set that sent a bucket keeps the rows that its running reads see
  pub frozen : IsFrozenCopy s

pub record IsSafeEvent (s : State) (e : Event) (t : State) : Type 0 where
  -- nothing that a call holds is given up, wiped or forgotten
  pub unheld : (x b : ℕ) → Collects s e x b t → IsUnreferenced s x b
  -- a set that becomes active has the rows that the sender had when it sealed the bucket
  pub activated : (b y x : ℕ) → (s.bucket b).entry y ≡ Some (Receiving x) → (t.bucket b).entry y ≡ Some Active → KeepsSealedRows s t b y x
  -- a call is refused exactly where that is the verdict of the set that was asked, or because that set is down
  pub refused : (c x : ℕ) (k : Call) (cause : Cause) → e ≡ Begin c → next_call (s.client c) ≡ Some k → (s.client c).present.set ≡ Some x
      → (((t.client c).present.stage ≡ stage.Refused) × ((t.client c).present.cause ≡ Some cause)) ↔ (verdict_at s x k ≡ verdict.Refused cause)
  -- an operator's next command is answered exactly where the event finds what the answer says
  pub answered : (o : ℕ) (out : CommandOutcome) → ((t.operator o).answered ≡ (s.operator o).answered ++ out ∷ []) ↔ IsAnsweredBy s e o out

-- of a run each state is safe, and each event
pub record IsSafeRun (start : State) (events : List Event) : Type 0 where
  pub states : (n : ℕ) (s : State) → run start (take n events) ≡ Ok s → IsSafe s
  pub steps : (n : ℕ) (s t : State) (e : Event) → run start (take n events) ≡ Ok s → slice_get events n ≡ Some e → step s e ≡ Ok t → IsSafeEvent s e t
  -- the owners that the events give are those that the entries tell
  pub owners : (n : ℕ) (s : State) → run start (take n events) ≡ Ok s → owners_after (owners_at start) start (take n events) ≡ owners_at s
  -- each answer has its cause in the events: of a call between its first post and its take, of a command at the event that answered
  -- it, and of one that moved a bucket from its start on
  pub calls : (s : State) → run start events ≡ Ok s → (c n : ℕ) (o : Outcome) → slice_get (s.client c).answered n ≡ Some o → WasAnswered start events c (n + 1) o
  pub commands : (s : State) → run start events ≡ Ok s → (o m : ℕ) (out : CommandOutcome) → slice_get (s.operator o).answered m ≡ Some out → IsCommandCaused start events o m out
  -- each call that was answered with a reply took five events of its own
  pub five : (s : State) → run start events ≡ Ok s → 5 * replies s ≤ length events

abbrev pub SafeStates : Type 0
SafeStates = (s : State) → IsReached s → IsSafe s

abbrev pub SafeEvents : Type 0
SafeEvents = (s t : State) (e : Event) → IsReached s → step s e ≡ Ok t → IsSafeEvent s e t

abbrev pub SafeRuns : Type 0
SafeRuns = (config : Configuration) (scripts : Scripts) (held : Holdings) (events : List Event) → IsOpening config scripts held → IsSafeRun (opening config scripts held) events
