-- What the lock round a cluster keeps of its list of events: how calls were posted again so far, and that no mover waited.
use Rattle.std.specs.Prelude.{◌≡◌, ◌≢◌, ℕ, zero, suc, ◌-◌, length, replicate, slice_index_or, slice_set, ◌==◌, ◌&&◌, ◌||◌, ◌<◌, ◌≤◌, ◌↔◌, not, Bool, true, false, List, [], ◌∷◌, ◌++◌, Option, Some, Ok, is_some, slice_get}
use Rattle.vs_space.specs.declared.status.Cause.{Cause}
use Rattle.vs_space.specs.declared.status.Cause.TheVariants.{WrongBucket}
use Rattle.vs_space.specs.declared.status.Verdict.{Verdict}
use Rattle.vs_space.specs.declared.status.Verdict.TheVariants.{Granted}
use Rattle.vs_space.specs.declared.status.Status.{Status}
use Rattle.vs_space.specs.declared.status.Status.TheVariants.{Receiving}
use Rattle.vs_calls.specs.Progress.{is_at_set}
use Rattle.vs_event.specs.declared.event.Event.{Event}
use Rattle.vs_event.specs.declared.event.Event.TheVariants.{Post, NotYet, Ask, Fault}
use Rattle.vs_script.specs.Calls.{Call}
use Rattle.vs_machine.specs.Tables.{put, least_to}
use Rattle.vs_machine.specs.State.{State, Bucket, sets_of, next_call, has_client, has_operator, has_set, is_set}
use Rattle.vs_machine.specs.Kinds.Calls.{verdict_at}
use Rattle.vs_machine.specs.Step.{step, run}
use Rattle.vs_machine.specs.Runs.{IsReached}
use Rattle.vs_machine.specs.Actors.{Operator, Mover, Service, HasEvent, IsStill, IsSteered, IsByHintAlone, IsFurtherPost, IsLeftAside, ArePostsSteered}

-- the client's last post so far wasn't the first of its call, and went for the hint alone
pub record WentByHint (start : State) (events : List Event) (c : ℕ) : Type 0 where
  pub index : ℕ
  pub set : ℕ
  pub post : IsFurtherPost start events index c set
  pub alone : IsByHintAlone post.before c set post.call
  pub last : (m x : ℕ) → index < m → slice_get events m ≢ Some (Post c x)

-- the posts were steered, each flag says whether the client's last post went for the hint alone, and no mover waited
pub record IsDriven (start : State) (events : List Event) (flags : ℕ → Bool) : Type 0 where
  pub posts : ArePostsSteered start events
  pub hints : (c : ℕ) → (flags c ≡ true) ↔ WentByHint start events c
  pub unwaited : (m x b : ℕ) → slice_get events m ≢ Some (NotYet x b)

-- the flags of the clients from 1 on, as a list
abbrev pub flags_of : List Bool → ℕ → Bool
flags_of flags zero = false
flags_of flags (suc n) = slice_index_or flags n false

-- ---- one event more

abbrev pub IsNoPost : Event → Type 0
IsNoPost (Post c x) = ⊥
IsNoPost (NotYet x b) = ⊥
IsNoPost e = Unit {0}

-- the client's post to set x isn't the first of its call, and goes there for the hint alone
pub record GoesByHint (s : State) (c x : ℕ) : Type 0 where
  pub call : Call
  pub called : next_call (s.client c) ≡ Some call
  pub further : 1 ≤ (s.client c).present.tries
  pub alone : IsByHintAlone s c x call

-- it may go there: it's the first of its call, or it's steered, and where the flag stands not for the hint alone
pub record IsPostAllowed (s : State) (flag : Bool) (c x : ℕ) : Type 0 where
  pub steered : (k : Call) → next_call (s.client c) ≡ Some k → 1 ≤ (s.client c).present.tries → IsSteered s c x k
  pub not_both : flag ≡ true → ¬ (GoesByHint s c x)

-- ---- as tests

abbrev pub is_granted : Verdict → Bool
is_granted Granted = true
is_granted verdict = false

abbrev pub is_hint_to : Option Cause → ℕ → Bool
is_hint_to (Some (WrongBucket y)) x = is_set y x
is_hint_to cause x = false

abbrev pub is_first : State → ℕ → Bool
is_first s c = (s.client c).present.tries == 0

abbrev pub would_grant : State → ℕ → Call → Bool
would_grant s x k = is_granted (verdict_at s x k)

abbrev pub is_granted_somewhere : State → Call → Bool
is_granted_somewhere s k = is_some (least_to (λ x. would_grant s x k) (sets_of s))

-- where it's known whether the state is still
abbrev pub is_stranded : State → Bool → Call → Bool
is_stranded s still k = not (is_granted_somewhere s k) && still

abbrev pub goes_by_hint : State → Bool → ℕ → ℕ → Call → Bool
goes_by_hint s still c x k = not (is_first s c) && (is_hint_to (s.client c).present.cause x && (not (would_grant s x k) && not (is_stranded s still k)))

abbrev pub is_post_allowed : State → Bool → Bool → ℕ → ℕ → Call → Bool
is_post_allowed s still flag c x k = is_first s c || (would_grant s x k || (is_stranded s still k || (is_hint_to (s.client c).present.cause x && not flag)))

-- the set from which the bucket is received has a transfer of it
abbrev pub is_being_sent : Bucket → Option Status → Bool
is_being_sent b (Some (Receiving z)) = is_some (b.transfer z)
is_being_sent b entry = false

-- no call of a client is at a set, and no operator, no mover and no service of a set that is up has an event
pub record IsStillWithin (s : State) : Type 0 where
  pub calls : (c : ℕ) → has_client s c ≡ true → is_at_set (s.client c).present.stage ≡ false
  pub operators : (o : ℕ) → has_operator s o ≡ true → ¬ (HasEvent s (Operator o))
  pub movers : (x : ℕ) → has_set s x ≡ true → ¬ (HasEvent s (Mover x))
  pub services : (x : ℕ) → has_set s x ≡ true → s.up x ≡ true → ¬ (HasEvent s (Service x))

-- ---- fault numbers

abbrev pub numbers_after : (ℕ → ℕ) → Event → ℕ → ℕ
numbers_after numbers (Fault x n e) = put numbers x n
numbers_after numbers e = numbers

-- ---- the laws

-- it holds before all events
abbrev pub DrivenAtFirst : Type 0
DrivenAtFirst = (start : State) → IsDriven start [] (λ c. false)

-- another event leaves it, with the same flags
abbrev pub DrivenByOthers : Type 0
DrivenByOthers = (start : State) (events : List Event) (flags : ℕ → Bool) (e : Event) → IsDriven start events flags → IsNoPost e → IsDriven start (events ++ e ∷ []) flags

-- an allowed post leaves it, with the client's flag as it went
abbrev pub DrivenByPosts : Type 0
DrivenByPosts = (start s : State) (events : List Event) (flags : ℕ → Bool) (c x : ℕ) (flag : Bool) → IsDriven start events flags → run start events ≡ Ok s
    → IsPostAllowed s (flags c) c x → (flag ≡ true) ↔ GoesByHint s c x → IsDriven start (events ++ Post c x ∷ []) (put flags c flag)

-- a list of flags, of which none stands, and one that is written
abbrev pub ListedFlags : Type 0
ListedFlags = ((n : ℕ) → flags_of (replicate n false) ≡ (λ c. false))
    × ((flags : List Bool) (c : ℕ) (flag : Bool) → 1 ≤ c → c ≤ length flags → flags_of (slice_set flags (c - 1) flag) ≡ put (flags_of flags) c flag)

-- whether a post is allowed, and whether it goes for the hint alone, is told by the tests; whether the state is still has to be
-- known only where the post isn't the first of its call and no set would grant it
abbrev pub TestedPosts : Type 0
TestedPosts = (s : State) (c x : ℕ) (k : Call) (still flag : Bool) → next_call (s.client c) ≡ Some k
    → (is_first s c ≡ false → is_granted_somewhere s k ≡ false → (still ≡ true) ↔ IsStill s)
    → ((is_post_allowed s still flag c x k ≡ true) ↔ IsPostAllowed s flag c x) × ((goes_by_hint s still c x k ≡ true) ↔ GoesByHint s c x)

-- a reached state is still where nothing can happen within its numbers
abbrev pub StillWithin : Type 0
StillWithin = (s : State) → IsReached s → IsStillWithin s ↔ IsStill s

-- and whether a question is left aside
abbrev pub TestedAsks : Type 0
TestedAsks = (s : State) (x b : ℕ) → IsLeftAside s (Ask x b) ↔ (is_being_sent (s.bucket b) ((s.bucket b).entry x) ≡ true)

-- only a fault changes a set's last fault number
abbrev pub FaultNumbers : Type 0
FaultNumbers = (s t : State) (e : Event) → step s e ≡ Ok t → t.last_fault ≡ numbers_after s.last_fault e
