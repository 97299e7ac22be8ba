-- How many events bring a cluster to rest, at most.
use Rattle.std.specs.Prelude.{ℕ, ◌+◌, ◌*◌, ◌==◌, if◌then◌else◌, length, Option, Some, None}
use Rattle.std.specs.Int.{div_ceil}
use Rattle.vs_rows.specs.RowMap.{RowMap}
use Rattle.vs_space.specs.declared.status.Status.{Status}
use Rattle.vs_space.specs.declared.status.Status.TheVariants.{Active, Pinned, Sending, Receiving, Sent, Garbage}
use Rattle.vs_link.specs.Connection.{Connection}
use Rattle.vs_machine.specs.Tables.{sum_to}
use Rattle.vs_machine.specs.Settling.{cost_at, messages_of}
use Rattle.vs_machine.specs.State.{State, Bucket, sets_of}

-- a message is taken and its reply is heard, a reply is heard
abbrev pub load : Connection → ℕ
load l = 2 * length l.calls + length l.replies

-- a set has no connection to itself
abbrev pub load_at : (ℕ → ℕ → Connection) → ℕ → ℕ → ℕ
load_at links x y = if x == y then 0 else load (links x y)

-- one for each 1,000 rows or a part of them
unfoldable pub pages : RowMap → ℕ
pages rows = div_ceil (length rows) 1000

-- what becomes of an entry that isn't active or pinned: it is asked about by 3 events, given up by one, wiped, and forgotten by one
abbrev pub price : Option Status → RowMap → ℕ
price None rows = 0
price (Some Active) rows = 0
price (Some Pinned) rows = 0
price (Some (Sending d)) rows = 5 + pages rows
price (Some (Receiving x)) rows = 5 + pages rows
price (Some (Sent d)) rows = 2 + pages rows
price (Some Garbage) rows = 1 + pages rows

abbrev pub price_at : (ℕ → Bucket) → ℕ → ℕ → ℕ
price_at buckets x b = price ((buckets b).entry x) ((buckets b).rows x)

-- the sum over the numbers from 1 to n, and from 1 to m
abbrev pub sum_over : (ℕ → ℕ → ℕ) → ℕ → ℕ → ℕ
sum_over f n m = sum_to (λ x. sum_to (f x) m) n

abbrev pub loads : (ℕ → ℕ → Connection) → ℕ → ℕ
loads links n = sum_over (load_at links) n n

abbrev pub prices : (ℕ → Bucket) → ℕ → ℕ → ℕ
prices buckets n m = sum_over (price_at buckets) n m

-- what lies on the connections, and what the entries cost
unfoldable pub weight : State → ℕ
weight s = loads s.link (sets_of s) + prices s.bucket (sets_of s) s.config.bucket_count

-- ---- where sets are down

-- a set that is down is started again
abbrev pub down_at : State → ℕ → ℕ
down_at s x = if s.up x then 0 else 1

-- the starts of a set, and what its entries cost
abbrev pub due_at : State → ℕ → ℕ
due_at s x = down_at s x + sum_to (cost_at s x) s.config.bucket_count

-- the starts of the sets that are down, what lies on the connections, and what the entries cost
unfoldable pub due : State → ℕ
due s = 2 * messages_of s + sum_to (due_at s) (sets_of s)
