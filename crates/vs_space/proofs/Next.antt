-- The next bucket of a class is that of the next place.
use Rattle.std.proofs.Common.{◌≡◌, ℕ, zero, suc, ◌+◌, ◌<◌, ◌≤◌, Bool, true, false, List, get_or, Option, Some, None, sym, ap, ◌∙◌, arith}
use Rattle.std.specs.Option.{SomeIff}
use Rattle.vs_space.specs.declared.search.Class.{Class}
use Rattle.vs_space.specs.declared.status.Status.{Status}
use Rattle.vs_space.specs.Class.{is_of, IsNextPlace}
use Rattle.vs_space.specs.Entries.{status_of}
use Rattle.vs_space.specs.Next.{IsNext}
use Rattle.vs_space.specs.Table.{entries_from}
use Rattle.vs_space.proofs.Places.{status_at}

module _ (class : Class) (places : List (Option Status)) where
  passes : ℕ → Bool
  passes b = is_of class (status_of (entries_from 1 places) b)

  at_place : (k b : ℕ) (t : Bool) → k + 1 ≡ b → is_of class (get_or places k None) ≡ t → passes b ≡ t
  unfolding passes
  at_place k b t at here = ap (is_of class) (status_at places k b at) ∙ here

  -- no place from there on is of it
  pub no_bucket : (from : ℕ) → ((k : ℕ) → from ≤ k → is_of class (get_or places k None) ≡ false) → (b : ℕ) → from < b → is_of class (status_of (entries_from 1 places) b) ≡ false
  unfolding passes
  no_bucket from none zero above = absurd (omega arith)
  no_bucket from none (suc k) above = at_place k (suc k) false (omega arith) (none k (omega arith))

  -- this place is the first
  pub bucket_at : (from i : ℕ) → i < 30000 → IsNextPlace class places from (Some i) → (o : Option ℕ) → SomeIff o ((1 ≤ i + 1) × (i + 1 ≤ 30000)) (i + 1) → IsNext (λ b. is_of class (status_of (entries_from 1 places) b)) from o
  unfolding passes
  bucket_at from i within next None made = absurd (made (omega arith, omega arith))
  bucket_at from i within next (Some b) made =
      let at : i + 1 ≡ b = sym made.1 in
      (omega (arith, next.0), at_place i b true at next.2, before)
    where
      before : (n : ℕ) → from < n → n < b → is_of class (status_of (entries_from 1 places) n) ≡ false
      before zero above below = absurd (omega arith)
      before (suc k) above below = at_place k (suc k) false (omega arith) (next.3 k (omega arith) (omega (arith, made.1)))
