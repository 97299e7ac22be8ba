-- The entries of a set: which bucket has which status there.
use Rattle.std.specs.Prelude.{ℕ, ⊤, zero, suc, ◌+◌, ◌==◌, nat_lt, ◌≤◌, ◌<◌, List, [], ◌∷◌, Option, Some, None, if◌then◌else◌, count_by}
use Rattle.vs_space.specs.declared.status.Status.{Status}
use Rattle.vs_space.specs.declared.status.Status.TheVariants.{Active}
use Rattle.vs_space.specs.declared.status.StatusKind.{StatusKind}
use Rattle.vs_space.specs.Status.{is_kind}

-- pairs of a bucket's id and its status, rising by id, and for how many more there is memory
pub record Entries : Type 0 where
  pub entries : List (ℕ × Status)
  pub room : ℕ

-- the status of this bucket, where it has an entry
abbrev pub status_of : List (ℕ × Status) → ℕ → Option Status
status_of [] id = None
status_of (e ∷ es) id = if e.0 == id then Some e.1 else status_of es id

-- the entries with this status of the bucket in the place of any other
abbrev pub with_entry : List (ℕ × Status) → ℕ → Status → List (ℕ × Status)
with_entry [] id status = (id, status) ∷ []
with_entry (e ∷ es) id status =
    if nat_lt id e.0 then (id, status) ∷ e ∷ es
    else if e.0 == id then (id, status) ∷ es
    else e ∷ with_entry es id status

-- the entries without that of the bucket
abbrev pub without_entry : List (ℕ × Status) → ℕ → List (ℕ × Status)
without_entry [] id = []
without_entry (e ∷ es) id = if e.0 == id then without_entry es id else e ∷ without_entry es id

-- the entries after the bucket's status became this, or it has no entry any more
abbrev pub with_status : List (ℕ × Status) → ℕ → Option Status → List (ℕ × Status)
with_status es id (Some status) = with_entry es id status
with_status es id None = without_entry es id

-- the ids rise, from this one on, and are those of buckets
abbrev pub RisesFrom : ℕ → List (ℕ × Status) → Type 0
RisesFrom id [] = ⊤
RisesFrom id (e ∷ es) = (id ≤ e.0) × (e.0 ≤ 30000) × RisesFrom (e.0 + 1) es

-- how many of the entries have a status of this kind
abbrev pub count_of : StatusKind → List (ℕ × Status) → ℕ
count_of kind es = count_by (λ e. is_kind kind e.1) es

-- as many buckets as said, from the first on, as active
abbrev pub booted : ℕ → ℕ → List (ℕ × Status)
booted first zero = []
booted first (suc n) = (first, Active) ∷ booted (first + 1) n

-- this many buckets from the first on are buckets
abbrev pub IsRange : ℕ → ℕ → Type 0
IsRange first count = 0 < count → (1 ≤ first) × (first + count ≤ 30001)
