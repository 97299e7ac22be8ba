-- When a cluster is settled, and in how many events it can be.
use Rattle.std.specs.Prelude.{◌≡◌, ◌≢◌, ℕ, ◌+◌, ◌*◌, ◌==◌, ◌≤◌, max, true, if◌then◌else◌, length, [], Option, Some, None}
use Rattle.std.specs.Int.{div_ceil}
use Rattle.vs_rows.specs.RowMap.{RowMap}
use Rattle.vs_space.specs.declared.status.Status.{Status}
use Rattle.vs_space.specs.declared.status.Status.TheVariants.{Active, Pinned}
use Rattle.vs_calls.specs.declared.stage.Stage.TheVariants.{Idle}
use Rattle.vs_link.specs.Connection.{Connection}
use Rattle.vs_record.specs.Change.{Change, bucket_of}
use Rattle.vs_machine.specs.Tables.{sum_to}
use Rattle.vs_machine.specs.State.{State, Bucket, sets_of}
use Rattle.vs_machine.specs.Kinds.Connections.{first_call, first_reply}
use Rattle.vs_machine.specs.Kinds.Stops.{with_change}
use Rattle.vs_machine.specs.Coherence.{IsServing}

-- one set has the bucket active or pinned, and no other has an entry of it
pub record IsAtOne (entry : ℕ → Option Status) : Type 0 where
  pub at : ℕ
  pub serving : IsServing (entry at)
  pub only : (y : ℕ) → y ≢ at → entry y ≡ None

-- all sets are up
abbrev pub AreUp : State → Type 0
AreUp s = (x : ℕ) → 1 ≤ x → x ≤ sets_of s → s.up x ≡ true

-- no message and no reply stands first between two sets
pub record HasNoMessage (s : State) (x y : ℕ) : Type 0 where
  pub calls : first_call s x y ≡ None
  pub replies : first_reply s x y ≡ None

-- nothing lies on the connection
pub record IsEmpty (l : Connection) : Type 0 where
  pub calls : l.calls ≡ []
  pub replies : l.replies ≡ []

-- nothing lies on any connection
abbrev pub IsSilent : State → Type 0
IsSilent s = (x y : ℕ) → x ≢ y → IsEmpty (s.link x y)

pub record IsSettled (s : State) : Type 0 where
  pub up : AreUp s
  pub placed : (b : ℕ) → 1 ≤ b → b ≤ s.config.bucket_count → IsAtOne (s.bucket b).entry
  pub no_transfer : (b x : ℕ) → (s.bucket b).transfer x ≡ None
  pub no_open_call : (c : ℕ) → (s.client c).present.stage ≡ Idle
  pub no_message : (x y : ℕ) → x ≢ y → (s.link x y).calls ≡ []
  pub no_reply : (x y : ℕ) → x ≢ y → (s.link x y).replies ≡ []

-- ---- the bound

-- how many messages lie on the connections
abbrev pub messages_in : Connection → ℕ
messages_in l = length l.calls + length l.replies

abbrev pub messages_of : State → ℕ
messages_of s = sum_to (λ x. sum_to (λ y. if x == y then 0 else messages_in (s.link x y)) (sets_of s)) (sets_of s)

-- an entry that is neither active nor pinned costs five events, and one for each 1,000 rows or a part of them
abbrev pub cost_of : Option Status → RowMap → ℕ
cost_of None rows = 0
cost_of (Some Active) rows = 0
cost_of (Some Pinned) rows = 0
cost_of (Some status) rows = 5 + div_ceil (length rows) 1000

abbrev pub cost_in : Bucket → ℕ → ℕ
cost_in b x = cost_of (b.entry x) (b.rows x)

-- with the pending change or without it, whichever costs more
abbrev pub cost_with : Option Change → Bucket → ℕ → ℕ → ℕ
cost_with None b q x = cost_in b x
cost_with (Some change) b q x = if bucket_of change == q then max (cost_in b x) (cost_in (with_change b x change) x) else cost_in b x

abbrev pub cost_at : State → ℕ → ℕ → ℕ
cost_at s x b = cost_with (if s.up x then None else s.pending x) (s.bucket b) b x

-- the sets, twice the messages, and what each entry costs
abbrev pub settle_bound : State → ℕ
settle_bound s = sets_of s + 2 * messages_of s + sum_to (λ x. sum_to (cost_at s x) s.config.bucket_count) (sets_of s)
