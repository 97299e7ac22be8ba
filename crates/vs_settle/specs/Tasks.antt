-- The order in which the entries of a bucket are brought to rest.
use Rattle.std.specs.Prelude.{◌≡◌, ◌≢◌, ℕ, ◌≤◌, ◌<◌, false, true, Option, Some, None}
use Rattle.vs_space.specs.declared.status.Status.{Status}
use Rattle.vs_space.specs.declared.status.Status.TheVariants.{Active, Pinned, Sending, Receiving, Sent, Garbage}
use Rattle.vs_recover.specs.declared.decision.Decision.TheVariants.{Stay}
use Rattle.vs_machine.specs.Kinds.Connections.{asked_set, decision_by}
use Rattle.vs_machine.specs.Settling.{IsSilent}
use Rattle.vs_machine.specs.State.{State, has_set, has_bucket}
use Rattle.vs_world.specs.Played.{Played, state_of}
use Rattle.vs_settle.specs.declared.entries.Task.{Task}
use Rattle.vs_settle.specs.declared.entries.Task.TheVariants.{Receivers, Senders, Leavings}
use Rattle.vs_settle.specs.Service.{IsResting, IsPaid}

-- the task that settles an entry; one of rank 0 is at rest
abbrev pub rank : Option Status → ℕ
rank None = 0
rank (Some Active) = 0
rank (Some Pinned) = 0
rank (Some (Sent d)) = 1
rank (Some Garbage) = 1
rank (Some (Sending d)) = 2
rank (Some (Receiving x)) = 3

-- the set from which this entry receives the bucket, and that to which it sends it
abbrev pub sender_in : Option Status → Option ℕ
sender_in (Some (Receiving x)) = Some x
sender_in entry = None

abbrev pub receiver_in : Option Status → Option ℕ
receiver_in (Some (Sending d)) = Some d
receiver_in entry = None

abbrev pub level : Task → ℕ
level Receivers = 3
level Senders = 2
level Leavings = 1

-- the rank of each set's entry of the bucket is at most k
abbrev pub IsUpTo : State → ℕ → ℕ → Type 0
IsUpTo s b k = (y : ℕ) → rank ((s.bucket b).entry y) ≤ k

-- the entry of bucket b at set x is next, and all of higher ranks are settled
pub record IsNextEntry (s : State) (x b k : ℕ) : Type 0 where
  pub rests : IsResting s
  pub silent : IsSilent s
  pub set : has_set s x ≡ true
  pub bucket : has_bucket s b ≡ true
  pub ranks : IsUpTo s b k

-- the entry was settled, and nothing else has changed
pub record IsDone (p : Played) (m : ℕ) (q : Played) (n : ℕ) (x b k : ℕ) : Type 0 where
  pub paid : IsPaid p m q n
  pub silent : IsSilent (state_of q)
  pub rank_is : rank (((state_of q).bucket b).entry x) < k
  pub sets : (y : ℕ) → y ≢ x → ((state_of q).bucket b).entry y ≡ ((state_of p).bucket b).entry y
  pub buckets : (c : ℕ) → c ≢ b → (state_of q).bucket c ≡ (state_of p).bucket c

-- the entries of a bucket were settled at all sets
pub record AreDone (p : Played) (m : ℕ) (q : Played) (n : ℕ) (b k : ℕ) : Type 0 where
  pub paid : IsPaid p m q n
  pub silent : IsSilent (state_of q)
  pub ranks : (y : ℕ) → rank (((state_of q).bucket b).entry y) < k
  pub buckets : (c : ℕ) → c ≢ b → (state_of q).bucket c ≡ (state_of p).bucket c

-- set x can ask y about bucket b, and decides by the answer
pub record CanAsk (s : State) (x b y : ℕ) : Type 0 where
  pub rests : IsResting s
  pub silent : IsSilent s
  pub set : has_set s x ≡ true
  pub bucket : has_bucket s b ≡ true
  pub named : asked_set ((s.bucket b).entry x) ≡ Some y
  pub decides : decision_by ((s.bucket b).entry x) ((s.bucket b).entry y) false ≢ Stay

-- the bucket is garbage at the set
pub record CanCollect (s : State) (x b : ℕ) : Type 0 where
  pub rests : IsResting s
  pub silent : IsSilent s
  pub set : has_set s x ≡ true
  pub bucket : has_bucket s b ≡ true
  pub garbage : (s.bucket b).entry x ≡ Some Garbage
