-- What becomes of a call: from its first post to its take.
use Rattle.std.specs.Prelude.{◌≡◌, ◌≢◌, ℕ, ◌+◌, ◌-◌, ◌==◌, ◌&&◌, ◌<◌, ◌≤◌, ◌⊎◌, Bool, true, false, List, length, take, Option, Some, None, Result, Ok, Err, slice_get}
use Rattle.vs_base.specs.declared.numbers.Mode.{Mode}
use Rattle.vs_base.specs.declared.numbers.Mode.TheVariants.{Ro, Rw}
use Rattle.vs_rows.specs.Said.{Said}
use Rattle.vs_space.specs.declared.status.Cause.{Cause}
use Rattle.vs_calls.specs.Outcomes.{Outcome, Reply, Spent}
use Rattle.vs_calls.specs.Progress.{outcome_of, is_posted, is_refused}
use Rattle.vs_event.specs.declared.event.Event.{Event}
use Rattle.vs_event.specs.declared.event.Event.TheVariants.{Post, Begin, Take, Cut, Start, Haul, Seal}
use Rattle.vs_event.specs.declared.reason.Reason.{Reason}
use Rattle.vs_script.specs.Calls.{Call}
use Rattle.vs_script.specs.Scripts.{Scripts}
use Rattle.vs_config.specs.Configuration.{Configuration}
use Rattle.vs_machine.specs.Tables.{count_to}
use Rattle.vs_machine.specs.State.{State, next_call, next_command}
use Rattle.vs_machine.specs.Coherence.{IsServing}
use Rattle.vs_machine.specs.Kinds.Calls.{call_to_cut}
use Rattle.vs_machine.specs.Kinds.Faults.{send_fault}
use Rattle.vs_machine.specs.Kinds.Rebalancing.{bucket_to_haul}
use Rattle.vs_machine.specs.Kinds.Sender.{move_of}
use Rattle.vs_machine.specs.Opening.{Holdings, opening}
use Rattle.vs_machine.specs.Runs.{IsOpening}
use Rattle.vs_machine.specs.Step.{run}
use Rattle.vs_machine.specs.Actors.{IsStranded, ArePostsSteered}

-- the events are a run from a coherent opening to state s
pub record IsRun (start : State) (events : List Event) (s : State) : Type 0 where
  pub config : Configuration
  pub scripts : Scripts
  pub held : Holdings
  pub opens : IsOpening config scripts held
  pub opened : start ≡ opening config scripts held
  pub runs : run start events ≡ Ok s

-- the state after the first m events
abbrev pub IsAfter : State → List Event → ℕ → State → Type 0
IsAfter start events m s = run start (take m events) ≡ Ok s

-- a call of the client: its first post is the event of index first, its take that of index last
pub record IsWholeCall (start : State) (events : List Event) (c : ℕ) (k : Call) (first last : ℕ) : Type 0 where
  pub before : State
  pub ran : IsAfter start events first before
  pub called : next_call (before.client c) ≡ Some k
  pub unposted : (before.client c).present.tries ≡ 0
  pub set : ℕ
  pub posts : slice_get events first ≡ Some (Post c set)
  pub takes : slice_get events last ≡ Some (Take c)
  pub later : first < last
  pub whole : (m : ℕ) → first < m → m < last → slice_get events m ≢ Some (Take c)

-- the take of index last gives the client this outcome
pub record HasOutcome (start : State) (events : List Event) (c last : ℕ) (o : Outcome) : Type 0 where
  pub before : State
  pub ran : IsAfter start events last before
  pub given : outcome_of (before.client c).present ≡ o

-- the call of a client after the first n that were answered, which was answered so
pub record IsAnsweredCall (start : State) (events : List Event) (c n : ℕ) (o : Outcome) : Type 0 where
  pub call : Call
  pub first : ℕ
  pub last : ℕ
  pub whole : IsWholeCall start events c call first last
  pub place : length (whole.before.client c).answered ≡ n
  pub outcome : HasOutcome start events c last o

-- ---- what it was answered, and how often it was refused

abbrev pub IsReplied : State → List Event → ℕ → ℕ → Type 0
IsReplied start events c last = (place : ℕ) × (answers : List Said) × HasOutcome start events c last (Reply place answers)

abbrev pub IsSpent : State → List Event → ℕ → ℕ → Type 0
IsSpent start events c last = (cause : Cause) × HasOutcome start events c last (Spent cause)

abbrev pub is_begin_of : ℕ → Option Event → Bool
is_begin_of c (Some (Begin d)) = d == c
is_begin_of c e = false

abbrev pub is_refused_in : ℕ → Result State Reason → Bool
is_refused_in c (Ok s) = is_refused (s.client c).present.stage
is_refused_in c (Err r) = false

-- the event of index m is a Begin that refuses the client's call
abbrev pub is_refusal : State → List Event → ℕ → ℕ → Bool
is_refusal start events c m = is_begin_of c (slice_get events m) && is_refused_in c (run start (take (m + 1) events))

-- how many of the events of indices first + 1 to last do so
abbrev pub refusals : State → List Event → ℕ → ℕ → ℕ → ℕ
refusals start events c first last = count_to (λ q. is_refusal start events c (first + q)) (last - first)

-- ---- a bucket that stays where it is

-- set o is up and has the bucket active or pinned, without a transfer
pub record IsAtHome (s : State) (o b : ℕ) : Type 0 where
  pub up : s.up o ≡ true
  pub serving : IsServing ((s.bucket b).entry o)
  pub unmoved : (s.bucket b).transfer o ≡ None

-- the event cuts the present call of the client
abbrev pub IsCutOf : State → ℕ → Event → Type 0
IsCutOf s c (Cut o) = call_to_cut (next_command (s.operator o)) ≡ Some (c, (s.client c).present.number)
IsCutOf s c e = ⊥

-- the set at which the client's call is posted goes down
abbrev pub LosesPost : State → State → ℕ → Type 0
LosesPost s t c = (x : ℕ) × (is_posted (s.client c).present.stage ≡ true) × ((s.client c).present.set ≡ Some x) × (s.up x ≡ true) × (t.up x ≡ false)

-- from the call's first post to its take its bucket stays at set o, no cut names it, and no set goes down at which it's posted
pub record IsUndisturbed (start : State) (events : List Event) (c : ℕ) (k : Call) (first last o : ℕ) : Type 0 where
  pub home : (m : ℕ) (s : State) → first < m → m ≤ last → IsAfter start events m s → IsAtHome s o k.bucket
  pub uncut : (m : ℕ) (s : State) (e : Event) → first < m → m < last → IsAfter start events m s → slice_get events m ≡ Some e → ¬ (IsCutOf s c e)
  pub unlost : (m : ℕ) (s t : State) → first < m → m < last → IsAfter start events m s → IsAfter start events (m + 1) t → ¬ (LosesPost s t c)

-- ---- a post that was in vain

-- the event takes bucket b from the calls of this mode at set x: a transfer of it begins there, or it is sealed
abbrev pub TakesAway : State → Event → ℕ → ℕ → Mode → Type 0
TakesAway s (Start o) x b Rw = (d : ℕ) × (move_of (next_command (s.operator o)) ≡ Some (record { bucket = b; from = x; to = d })) × (send_fault s b x d ≡ None)
TakesAway s (Haul o y d) x b Rw = (y ≡ x) × (bucket_to_haul s x d ≡ Some b)
TakesAway s (Seal y q) x b Ro = (y ≡ x) × (q ≡ b)
TakesAway s e x b mode = ⊥

-- between the post of index m and its Begin
pub record IsTakenAway (start : State) (events : List Event) (c : ℕ) (k : Call) (m x : ℕ) : Type 0 where
  pub index : ℕ
  pub later : m < index
  pub before : State
  pub ran : IsAfter start events index before
  pub event : Event
  pub there : slice_get events index ≡ Some event
  pub takes : TakesAway before event x k.bucket k.mode
  pub unbegun : (n : ℕ) → m < n → n < index → slice_get events n ≢ Some (Begin c)

-- when the call was posted no set would grant it and nothing else could happen
pub record WasStranded (start : State) (events : List Event) (k : Call) (m : ℕ) : Type 0 where
  pub before : State
  pub ran : IsAfter start events m before
  pub stranded : IsStranded before k

-- a further post was in vain for a cause that the client can't mend
abbrev pub IsInVain : State → List Event → ℕ → Call → ℕ → ℕ → Type 0
IsInVain start events c k m x = WasStranded start events k m ⊎ IsTakenAway start events c k m x

abbrev pub is_post_of : ℕ → Option Event → Bool
is_post_of c (Some (Post d x)) = d == c
is_post_of c e = false

-- how many posts of the client after the one of index first and before the event of index last pass the test
abbrev pub posts_that : (ℕ → Bool) → List Event → ℕ → ℕ → ℕ → ℕ
posts_that test events c first last = count_to (λ q. is_post_of c (slice_get events (first + q)) && test (first + q)) (last - first)

-- ---- the laws

-- each call that a run answered was a whole one
abbrev pub WholeCalls : Type 0
WholeCalls = (start s : State) (events : List Event) → IsRun start events s → (c n : ℕ) (o : Outcome) → slice_get (s.client c).answered n ≡ Some o → IsAnsweredCall start events c n o

-- a take gives one outcome
abbrev pub OneOutcome : Type 0
OneOutcome = (start : State) (events : List Event) (c last : ℕ) (o p : Outcome) → HasOutcome start events c last o → HasOutcome start events c last p → o ≡ p

-- an undisturbed call is answered with a reply, and refused twice at most
abbrev pub RepliedCalls : Type 0
RepliedCalls = (start s : State) (events : List Event) (c first last o : ℕ) (k : Call) → IsRun start events s → ArePostsSteered start events → IsWholeCall start events c k first last
    → IsUndisturbed start events c k first last o → IsReplied start events c last × (refusals start events c first last ≤ 2)

-- where a call is answered Spent, at least 63 of its further posts were in vain so: whatever test such posts pass, 63 pass it
abbrev pub SpentCalls : Type 0
SpentCalls = (start s : State) (events : List Event) (c first last : ℕ) (k : Call) → IsRun start events s → ArePostsSteered start events → IsWholeCall start events c k first last → IsSpent start events c last
    → (test : ℕ → Bool) → ((m x : ℕ) → first < m → m < last → slice_get events m ≡ Some (Post c x) → IsInVain start events c k m x → test m ≡ true)
    → 63 ≤ posts_that test events c first last

-- where the cluster didn't stand still at a further post, the bucket was taken away 63 times: whatever test such events pass, 63 pass it
abbrev pub MovedCalls : Type 0
MovedCalls = (start s : State) (events : List Event) (c first last : ℕ) (k : Call) → IsRun start events s → ArePostsSteered start events → IsWholeCall start events c k first last → IsSpent start events c last
    → ((m x : ℕ) → first < m → m < last → slice_get events m ≡ Some (Post c x) → ¬ (WasStranded start events k m))
    → (test : ℕ → Bool) → ((m x : ℕ) (u : State) (e : Event) → first < m → m < last → IsAfter start events m u → slice_get events m ≡ Some e → TakesAway u e x k.bucket k.mode → test m ≡ true)
    → 63 ≤ count_to (λ q. test (first + q)) (last - first)
