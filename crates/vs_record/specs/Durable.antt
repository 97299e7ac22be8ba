-- What a set's journal stands for: its entries and the rows of its buckets.
use Rattle.std.specs.Prelude.{◌≡◌, ⊤, ℕ, ◌+◌, ◌<◌, ◌≤◌, ◌==◌, ◌&&◌, nat_le, nat_lt, if◌then◌else◌, List, [], ◌∷◌, length, drop, Option, Some, None}
use Rattle.vs_rows.specs.RowMap.{RowMap, with_rows}
use Rattle.vs_rows.specs.Operations.{rows_after}
use Rattle.vs_space.specs.Status.{MayChange}
use Rattle.vs_space.specs.declared.status.Status.{Status}
use Rattle.vs_space.specs.declared.status.Status.TheVariants.{Active, Pinned, Receiving, Garbage}
use Rattle.vs_record.specs.Change.{Change, SetStatus, AddRows, Write, Wipe, Forget, bucket_of}

-- of each bucket its status, where it has an entry, and its rows
pub record Durable : Type 0 where
  pub entry : ℕ → Option Status
  pub rows : ℕ → RowMap

-- the table with this value at one number
abbrev pub put : {A : Type 0} → (ℕ → A) → ℕ → A → ℕ → A
put f b x q = if q == b then x else f q

-- at first: this many buckets from the first on are active, and no bucket has rows
abbrev pub booted : ℕ → ℕ → Durable
booted first count = record { entry = λ b. if nat_le first b && nat_lt b (first + count) then Some Active else None; rows = λ b. [] }

-- ---- what a change does

abbrev pub with_entry : Durable → ℕ → Option Status → Durable
with_entry d b status = record d { entry = put d.entry b status }

abbrev pub with_rows_at : Durable → ℕ → RowMap → Durable
with_rows_at d b rows = record d { rows = put d.rows b rows }

abbrev pub applied : Durable → Change → Durable
applied d (SetStatus b status) = with_entry d b (Some status)
applied d (AddRows b x rows) = with_rows_at (with_entry d b (Some (Receiving x))) b (with_rows (d.rows b) rows)
applied d (Write id b ops) = with_rows_at d b (rows_after (d.rows b) ops)
applied d (Wipe b n) = with_rows_at d b (drop n (d.rows b))
applied d (Forget b) = with_entry d b None

-- the state after changes, one after the other
abbrev pub fold : Durable → List Change → Durable
fold d [] = d
fold d (c ∷ cs) = fold (applied d c) cs

-- ---- which changes fit a state

-- there is an entry
abbrev pub HasEntry : Option Status → Type 0
HasEntry None = ⊥
HasEntry (Some status) = ⊤

-- rows may be received from this set
abbrev pub Receives : Option Status → ℕ → Type 0
Receives None x = ⊤
Receives (Some (Receiving from)) x = from ≡ x
Receives (Some status) x = ⊥

abbrev pub TakesWrites : Option Status → Type 0
TakesWrites (Some Active) = ⊤
TakesWrites (Some Pinned) = ⊤
TakesWrites status = ⊥

-- calls count from 1 to 200,000
abbrev pub IsCall : ℕ → Type 0
IsCall call = (1 ≤ call) × (call ≤ 200000)

-- A status follows from the one before it. Rows come from the set that the bucket is received from, or from any where it
-- has no entry. Only garbage is wiped, as many rows as there are at most, and forgotten without rows.
abbrev pub Fits : Durable → Change → Type 0
Fits d (SetStatus b status) = HasEntry (d.entry b) × MayChange (d.entry b) (Some status)
Fits d (AddRows b x rows) = Receives (d.entry b) x
Fits d (Write id b ops) = TakesWrites (d.entry b) × IsCall id.call
Fits d (Wipe b n) = (d.entry b ≡ Some Garbage) × (n ≤ length (d.rows b))
Fits d (Forget b) = (d.entry b ≡ Some Garbage) × (d.rows b ≡ [])

-- the same, in a cluster of so many buckets
pub record FitsState (buckets : ℕ) (d : Durable) (c : Change) : Type 0 where
  pub bucket : bucket_of c ≤ buckets
  pub fits : Fits d c

-- ---- buckets

-- there is no entry and there are no rows of a bucket above n
pub record IsOfBuckets (n : ℕ) (d : Durable) : Type 0 where
  pub entry : (b : ℕ) → n < b → d.entry b ≡ None
  pub rows : (b : ℕ) → n < b → d.rows b ≡ []

-- ---- a bucket in two states

pub record IsSameAt (x y : Durable) (b : ℕ) : Type 0 where
  pub entry : x.entry b ≡ y.entry b
  pub rows : x.rows b ≡ y.rows b
