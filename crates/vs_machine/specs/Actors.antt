-- Whose an event is, when the cluster stands still, and how a refused call may be posted again.
use Rattle.std.specs.Prelude.{◌≡◌, ℕ, ◌≤◌, ◌⊎◌, true, false, Some, IsOk, ◌≢◌, ◌<◌, List, take, slice_get, Ok}
use Rattle.vs_space.specs.declared.status.Status.TheVariants.{Receiving}
use Rattle.vs_space.specs.declared.status.Cause.TheVariants.{WrongBucket}
use Rattle.vs_space.specs.declared.status.Verdict.TheVariants.{Granted}
use Rattle.vs_calls.specs.Progress.{is_at_set}
use Rattle.vs_event.specs.declared.event.Event.{Event}
use Rattle.vs_event.specs.declared.event.Event.TheVariants.{Post, Begin, Act, End, Take, Cut, Start, Haul, NotYet, Freeze, Chunk, Seal, Last, Abort, EndMove, Deliver, Hear, Close, Ask, Condemn, Wipe, Forget, Pin, Plan, Stop, Restart}
use Rattle.vs_event.specs.declared.event.RestartBy.TheVariants as by
use Rattle.vs_script.specs.Calls.{Call}
use Rattle.vs_send.specs.declared.transfer.Transfer.{Transfer}
use Rattle.vs_machine.specs.State.{State, sets_of, next_call}
use Rattle.vs_machine.specs.Kinds.Calls.{verdict_at}
use Rattle.vs_machine.specs.Step.{step, run}

pub data Actor : Type 0 where
  Client : (number : ℕ) → Actor
  Operator : (number : ℕ) → Actor
  Mover : (set : ℕ) → Actor
  Service : (set : ℕ) → Actor

-- whose the event is; nobody chooses a fault
abbrev pub IsOf : Actor → Event → Type 0
IsOf (Client c) (Post k x) = k ≡ c
IsOf (Client c) (Begin k) = k ≡ c
IsOf (Client c) (Act k) = k ≡ c
IsOf (Client c) (End k) = k ≡ c
IsOf (Client c) (Take k) = k ≡ c
IsOf (Operator o) (Cut k) = k ≡ o
IsOf (Operator o) (Start k) = k ≡ o
IsOf (Operator o) (Close k) = k ≡ o
IsOf (Operator o) (Pin k) = k ≡ o
IsOf (Operator o) (Plan k) = k ≡ o
IsOf (Operator o) (Stop k) = k ≡ o
IsOf (Operator o) (Restart x kept (by.Line k)) = k ≡ o
IsOf (Mover s) (Haul k x d) = x ≡ s
IsOf (Mover s) (NotYet x b) = x ≡ s
IsOf (Mover s) (Freeze x b) = x ≡ s
IsOf (Mover s) (Chunk x b) = x ≡ s
IsOf (Mover s) (Seal x b) = x ≡ s
IsOf (Mover s) (Last x b) = x ≡ s
IsOf (Mover s) (Abort x b) = x ≡ s
IsOf (Mover s) (EndMove x b) = x ≡ s
IsOf (Service s) (Deliver x y) = y ≡ s
IsOf (Service s) (Hear x y) = x ≡ s
IsOf (Service s) (Ask x b) = x ≡ s
IsOf (Service s) (Condemn x b) = x ≡ s
IsOf (Service s) (Wipe x b) = x ≡ s
IsOf (Service s) (Forget x b) = x ≡ s
IsOf (Service s) (Restart x kept by.Service) = x ≡ s
IsOf actor e = ⊥

-- the sender of the bucket that set x receives has a live transfer of it
abbrev pub IsBeingSentTo : State → ℕ → ℕ → Type 0
IsBeingSentTo s x b = (z : ℕ) × (t : Transfer) × ((s.bucket b).entry x ≡ Some (Receiving z)) × ((s.bucket b).transfer z ≡ Some t)

-- an event that is possible and yet isn't chosen: a draining transfer waits, and so does a receiver whose sender goes on
abbrev pub IsLeftAside : State → Event → Type 0
IsLeftAside s (NotYet x b) = Unit {0}
IsLeftAside s (Ask x b) = IsBeingSentTo s x b
IsLeftAside s e = ⊥

abbrev pub IsPossible : State → Event → Type 0
IsPossible s e = IsOk (step s e)

-- the event is one of the actor's own that can happen, and isn't left aside
pub record IsChoice (s : State) (actor : Actor) (e : Event) : Type 0 where
  pub its_own : IsOf actor e
  pub possible : IsPossible s e
  pub wanted : ¬ (IsLeftAside s e)

-- the actor has such an event
abbrev pub HasEvent : State → Actor → Type 0
HasEvent s actor = (e : Event) × IsChoice s actor e

-- no call is at a set, and no operator, no mover and no service of a set that is up has an event
pub record IsStill (s : State) : Type 0 where
  pub calls : (c : ℕ) → is_at_set (s.client c).present.stage ≡ false
  pub operators : (o : ℕ) → ¬ (HasEvent s (Operator o))
  pub movers : (x : ℕ) → ¬ (HasEvent s (Mover x))
  pub services : (x : ℕ) → s.up x ≡ true → ¬ (HasEvent s (Service x))

-- ---- steered posts

abbrev pub WouldGrant : State → ℕ → Call → Type 0
WouldGrant s x k = verdict_at s x k ≡ Granted

-- no set would grant the call, and nothing else can happen
pub record IsStranded (s : State) (k : Call) : Type 0 where
  pub refused : (x : ℕ) → 1 ≤ x → x ≤ sets_of s → ¬ (WouldGrant s x k)
  pub still : IsStill s

-- the set was named by the last refusal of the client's call
abbrev pub IsHinted : State → ℕ → ℕ → Type 0
IsHinted s c x = (s.client c).present.cause ≡ Some (WrongBucket (Some x))

-- a refused call is posted again to a set that would grant it, to the one that its refusal named, or where the cluster stands still
abbrev pub IsSteered : State → ℕ → ℕ → Call → Type 0
IsSteered s c x k = WouldGrant s x k ⊎ (IsHinted s c x ⊎ IsStranded s k)

-- it goes there for the hint alone
pub record IsByHintAlone (s : State) (c x : ℕ) (k : Call) : Type 0 where
  pub hinted : IsHinted s c x
  pub refused : ¬ (WouldGrant s x k)
  pub moving : ¬ (IsStranded s k)

-- the event of index i is a post that isn't the first of its call, in this state
pub record IsFurtherPost (start : State) (events : List Event) (i c x : ℕ) : Type 0 where
  pub before : State
  pub ran : run start (take i events) ≡ Ok before
  pub there : slice_get events i ≡ Some (Post c x)
  pub call : Call
  pub called : next_call (before.client c) ≡ Some call
  pub further : 1 ≤ (before.client c).present.tries

-- no post of the client stands between these two
abbrev pub AreInARow : List Event → ℕ → ℕ → ℕ → Type 0
AreInARow events c i j = (i < j) × ((m x : ℕ) → i < m → m < j → slice_get events m ≢ Some (Post c x))

-- each further post of a run is steered, and of two in a row of one call not both go for the hint alone
pub record ArePostsSteered (start : State) (events : List Event) : Type 0 where
  pub each : (i c x : ℕ) (p : IsFurtherPost start events i c x) → IsSteered p.before c x p.call
  pub not_both : (i j c x y : ℕ) (p : IsFurtherPost start events i c x) (q : IsFurtherPost start events j c y) → AreInARow events c i j
      → (p.before.client c).present.number ≡ (q.before.client c).present.number → IsByHintAlone p.before c x p.call → IsByHintAlone q.before c y q.call → ⊥
