-- The owner of a bucket, and what other sets may have beside it.
use Rattle.std.specs.Prelude.{◌≡◌, ◌≢◌, ℕ, ◌≤◌, [], Option, Some, None}
use Rattle.vs_rows.specs.RowMap.{RowMap, IsRising}
use Rattle.vs_space.specs.declared.status.Status.{Status}
use Rattle.vs_space.specs.declared.status.Status.TheVariants.{Active, Pinned, Sending, Receiving, Sent, Garbage}
use Rattle.vs_machine.specs.Coherence.{names}

-- what the owner o may have; a bucket that isn't in the cluster is owned by 0, which is no set
abbrev pub Owns : ℕ → Option Status → Type 0
Owns o (Some Active) = Unit {0}
Owns o (Some Pinned) = Unit {0}
Owns o (Some (Sending d)) = d ≢ o
Owns o (Some (Receiving x)) = x ≢ o
Owns o None = o ≡ 0
Owns o entry = ⊥

-- what another set y may have beside what the owner o has
abbrev pub Beside : ℕ → Option Status → ℕ → Option Status → Type 0
Beside o has y None = Unit {0}
Beside o has y (Some Garbage) = Unit {0}
Beside o has y (Some (Sent d)) = has ≡ Some (Receiving y) → d ≡ o
Beside o has y (Some (Receiving x)) = (x ≡ o) × (has ≡ Some (Sending y))
Beside o has y entry = ⊥

pub record IsPlaced (o : ℕ) (entry : ℕ → Option Status) : Type 0 where
  pub owner : Owns o (entry o)
  pub beside : (y : ℕ) → y ≢ o → Beside o (entry o) y (entry y)

-- an entry names another set of the cluster, which has n
abbrev pub AreNamed : ℕ → (ℕ → Option Status) → Type 0
AreNamed n entry = (x y : ℕ) → names (entry x) ≡ Some y → (y ≢ x) × (1 ≤ y) × (y ≤ n)

-- a set without an entry has no rows, and the rows of each set rise by key
pub record AreRows (entry : ℕ → Option Status) (rows : ℕ → RowMap) : Type 0 where
  pub empty : (x : ℕ) → entry x ≡ None → rows x ≡ []
  pub rising : (x : ℕ) → IsRising (rows x)
