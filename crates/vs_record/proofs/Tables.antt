-- Places for the rows of buckets.
use Rattle.std.proofs.Common.{◌≡◌, ℕ, zero, suc, ◌+◌, [], ◌∷◌, ◌++◌, length, get_or, Option, None, replicate, refl, arith}
use Rattle.std.proofs.lemmas.List.{get_or_past, replicate-append-replicate}
use Rattle.vs_base.specs.Numbers.{IsBucketId}
use Rattle.vs_record.specs.RowTable.{Places, rows_at, row_map_at, AreOfBuckets}

pub one_more : {A : Type 0} (n : ℕ) (a : A) → replicate n a ++ a ∷ [] ≡ replicate (n + 1) a
one_more n a = replicate-append-replicate n 1 a

nothing_in : {A : Type 0} (n k : ℕ) → get_or (replicate {A = Option A} n None) k None ≡ None
nothing_in zero k = refl
nothing_in (suc n) zero = refl
nothing_in (suc n) (suc k) = nothing_in n k

-- nothing stands at free places
pub nothing_at : (n b : ℕ) → rows_at (replicate n None) b ≡ None
nothing_at n zero = refl
nothing_at n (suc k) = nothing_in n k

pub nowhere_at : (places : Places) (b : ℕ) → length places ≡ 0 → rows_at places b ≡ None
nowhere_at [] zero e = refl
nowhere_at [] (suc k) e = refl
nowhere_at (p ∷ ps) b e = absurd (omega arith)

-- where there are no places, no bucket has rows
pub empty_at : (b : ℕ) → row_map_at [] b ≡ []
empty_at zero = refl
empty_at (suc k) = refl

-- what is no bucket has no rows
pub none_outside : (places : Places) (b : ℕ) → AreOfBuckets places → ¬ (IsBucketId b) → rows_at places b ≡ None
none_outside places zero all outside = refl
none_outside places (suc k) all outside = grind (arith, get_or_past, all, beyond)
  where
    beyond : IsBucketId (suc k) → ⊥
    beyond = outside
