-- What a router has cached: a set for each bucket, or none, and whether it is a hint.
use Rattle.std.specs.Prelude.{◌≡◌, ◌≤◌, ◌-◌, ◌==◌, ℕ, true, false, List, length, Option, Some, None, slice_index_or, if◌then◌else◌}
use Rattle.std.specs.List.{list_any}
use Rattle.vs_space.specs.declared.status.Cause.{Cause}
use Rattle.vs_space.specs.declared.status.Cause.TheVariants.{WrongBucket, TransferInProgress, BucketIsLocked, Down}
use Rattle.vs_router.specs.declared.router.Known.{Known}

-- what is cached for a bucket; buckets are numbered from 1
abbrev pub known_of : List (Option Known) → ℕ → Option Known
known_of known id = slice_index_or known (id - 1) None

-- a set that the router was told or found, and one that a refusal named
abbrev pub found : ℕ → Known
found set = record { set = set; hint = false }

abbrev pub hinted : ℕ → Known
hinted set = record { set = set; hint = true }

-- what stays of a bucket's set after a refusal
abbrev pub after_refusal : Option Known → Cause → Option Known
after_refusal known BucketIsLocked = known
after_refusal None (WrongBucket (Some d)) = Some (hinted d)
after_refusal (Some known) (WrongBucket (Some d)) = if known.hint then None else Some (hinted d)
after_refusal _ (WrongBucket None) = None
after_refusal _ (TransferInProgress _) = None
after_refusal _ Down = None

-- the new cache has this for the bucket, and for every other one what the old cache has
pub record Sets (old new : List (Option Known)) (id : ℕ) (known : Option Known) : Type 0 where
  pub buckets : length new ≡ length old
  pub at : (b : ℕ) → 1 ≤ b → known_of new b ≡ (if id == b then known else known_of old b)

-- the new cache has this set for each of the buckets, and for every other one what the old cache has
pub record Learns (old new : List (Option Known)) (set : ℕ) (ids : List ℕ) : Type 0 where
  pub buckets : length new ≡ length old
  pub at : (b : ℕ) → 1 ≤ b →
      known_of new b ≡ (if list_any (λ id. id == b) ids then Some (found set) else known_of old b)
