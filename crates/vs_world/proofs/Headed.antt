-- The heads of the journals of a cluster.
use Rattle.std.proofs.Common.{◌≡◌, inl, inr, ℕ, zero, suc, ◌+◌, ◌≤◌, Bool, false, List, [], ◌∷◌, length, sum, Option, Some, None, refl, sym, ap, ◌∙◌, arith}
use Rattle.std.specs.Prelude.{slice_get, All, ◌==◌, ◌&&◌, nat_lt, nat_le, replicate, if◌then◌else◌}
use Rattle.std.proofs.lemmas.Bool.Decides.{nat_tests}
use Rattle.std.proofs.lemmas.List.Elements.{All-nil, All-cons}
use Rattle.std.proofs.lemmas.List.Sums.{sum_by-cons}
use Rattle.vs_config.specs.declared.config.SetConfig.{SetConfig}
use Rattle.vs_core.specs.Booting.{AreNewStates}
use Rattle.vs_frame.specs.Head.{IsHead}
use Rattle.vs_frame.specs.declared.head.Head.{Head}
use Rattle.vs_record.specs.Durable.{booted}
use Rattle.vs_record.specs.States.{durable}
use Rattle.vs_record.specs.declared.set_state.SetState.{SetState}
use Rattle.vs_machine.specs.Journals.{nothing}
use Rattle.vs_space.specs.declared.status.Status.TheVariants.{Active}
use Rattle.vs_state.specs.Tables.{numbered}
use Rattle.vs_world.specs.Heads.{head_with, heads_from}

some_is : {A : Type 0} (x y : A) → ◌≡◌ {A = Option A} (Some x) (Some y) → x ≡ y
some_is x y e = cc

-- a set that begins with buckets names the first of them
some_begin : (first n : ℕ) → (if suc n == 0 then 0 else first) ≡ first
some_begin first n = ap (λ (b : Bool). if b then 0 else first) none
  where
    none : (suc n == 0) ≡ false
    none = grind (arith, nat_tests)

-- ---- each is lawful

-- one that begins with no buckets, or with those from the first on
pub lawful : (buckets first : ℕ) (set : SetConfig) (count : ℕ) → 1 ≤ buckets → buckets ≤ 30000 → 1 ≤ first → first + count ≤ buckets + 1 → IsHead (head_with buckets first set count)
lawful buckets first set zero some few from fits = record { buckets = (some, few); boots = inl (refl, refl) }
lawful buckets first set (suc n) some few from fits = let e = some_begin first n in record { buckets = (some, few); boots = inr (omega (arith, e, from), omega arith, omega (arith, e, fits)) }

module _ (buckets : ℕ) (some : 1 ≤ buckets) (few : buckets ≤ 30000) where
  pub all_lawful : (first : ℕ) (sets : List SetConfig) (shares : List ℕ) → 1 ≤ first → first + sum shares ≤ buckets + 1 → All IsHead (heads_from buckets first sets shares)
  all_lawful first [] shares from fits = All-nil IsHead
  all_lawful first (set ∷ sets) [] from fits = All-nil IsHead
  all_lawful first (set ∷ sets) (n ∷ ns) from fits =
      All-cons IsHead _ _ (lawful buckets first set n some few from (omega (arith, fits, sum_by-cons (λ x. x) n ns)))
      (all_lawful (first + n) sets ns (omega (arith, from)) (omega (arith, fits, sum_by-cons (λ x. x) n ns)))

module _ (buckets : ℕ) where
  pub all_counted : (first : ℕ) (sets : List SetConfig) (shares : List ℕ) → All (λ (head : Head). head.bucket_count ≡ buckets) (heads_from buckets first sets shares)
  all_counted first [] shares = All-nil (λ (head : Head). head.bucket_count ≡ buckets)
  all_counted first (set ∷ sets) [] = All-nil (λ (head : Head). head.bucket_count ≡ buckets)
  all_counted first (set ∷ sets) (n ∷ ns) = All-cons (λ (head : Head). head.bucket_count ≡ buckets) _ _ refl (all_counted (first + n) sets ns)

  pub as_many : (first : ℕ) (sets : List SetConfig) (shares : List ℕ) → length shares ≡ length sets → length (heads_from buckets first sets shares) ≡ length sets
  as_many first [] shares e = refl
  as_many first (set ∷ sets) [] e = absurd (omega (arith, e))
  as_many first (set ∷ sets) (n ∷ ns) e = ap suc (as_many (first + n) sets ns (omega (arith, e)))

  -- the head of a set has its uuid, and this number of buckets
  pub record IsOfSet (sets : List SetConfig) (i : ℕ) (head : Head) : Type 0 where
    pub uuid : head.uuid ≡ numbered (λ (set : SetConfig). set.uuid) [] sets (suc i)
    pub bucket_count : head.bucket_count ≡ buckets

  pub of_set : (first : ℕ) (sets : List SetConfig) (shares : List ℕ) (i : ℕ) (head : Head) → slice_get (heads_from buckets first sets shares) i ≡ Some head → IsOfSet sets i head
  of_set first [] shares zero head at = absurd cc
  of_set first [] shares (suc i) head at = absurd cc
  of_set first (set ∷ sets) [] zero head at = absurd cc
  of_set first (set ∷ sets) [] (suc i) head at = absurd cc
  of_set first (set ∷ sets) (n ∷ ns) zero head at = let is = some_is (head_with buckets first set n) head at in record { uuid = ap (λ (h : Head). h.uuid) (sym is); bucket_count = ap (λ (h : Head). h.bucket_count) (sym is) }
  of_set first (set ∷ sets) (n ∷ ns) (suc i) head at = let rest = of_set (first + n) sets ns i head at in record { uuid = rest.uuid; bucket_count = rest.bucket_count }

  -- ---- what new journals stand for

  -- where no set begins with buckets
  pub begins_with_none : (first : ℕ) (sets : List SetConfig) (k i : ℕ) (head : Head) → slice_get (heads_from buckets first sets (replicate k 0)) i ≡ Some head → (head.boot_first ≡ 0) × (head.boot_count ≡ 0)
  begins_with_none first [] zero zero head at = absurd cc
  begins_with_none first [] zero (suc i) head at = absurd cc
  begins_with_none first [] (suc k) zero head at = absurd cc
  begins_with_none first [] (suc k) (suc i) head at = absurd cc
  begins_with_none first (set ∷ sets) zero zero head at = absurd cc
  begins_with_none first (set ∷ sets) zero (suc i) head at = absurd cc
  begins_with_none first (set ∷ sets) (suc k) zero head at = let is = some_is (head_with buckets first set 0) head at in (ap (λ (h : Head). h.boot_first) (sym is), ap (λ (h : Head). h.boot_count) (sym is))
  begins_with_none first (set ∷ sets) (suc k) (suc i) head at = begins_with_none (first + 0) sets k i head at

  -- where each begins with its share, the states are those of new sets
  pub begins_with_shares : (first : ℕ) (sets : List SetConfig) (shares : List ℕ) (states : List SetState) → length shares ≡ length sets → length states ≡ length sets
      → ((i : ℕ) (head : Head) (state : SetState) → slice_get (heads_from buckets first sets shares) i ≡ Some head → slice_get states i ≡ Some state → durable state ≡ booted head.boot_first head.boot_count)
      → AreNewStates first shares states
  begins_with_shares first [] [] [] e f each = tt
  begins_with_shares first [] [] (d ∷ ds) e f each = absurd (omega (arith, f))
  begins_with_shares first [] (n ∷ ns) ds e f each = absurd (omega (arith, e))
  begins_with_shares first (set ∷ sets) [] ds e f each = absurd (omega (arith, e))
  begins_with_shares first (set ∷ sets) (n ∷ ns) [] e f each = absurd (omega (arith, f))
  begins_with_shares first (set ∷ sets) (n ∷ ns) (d ∷ ds) e f each = (
    each 0 (head_with buckets first set n) d refl refl ∙ begun first n,
    begins_with_shares (first + n) sets ns ds (omega (arith, e)) (omega (arith, f)) (λ i. each (suc i)),
  )
    where
      none_at : (first b : ℕ) → (nat_le 0 b && nat_lt b (0 + 0)) ≡ (nat_le first b && nat_lt b (first + 0))
      none_at first b = grind (arith, nat_tests)

      begun : (first n : ℕ) → booted (if n == 0 then 0 else first) n ≡ booted first n
      begun first zero = λ i. record { entry = λ b. if none_at first b i then Some Active else None; rows = λ b. [] }
      begun first (suc n) = ap (λ (f : ℕ). booted f (suc n)) (some_begin first n)

-- no buckets are nothing
pub none_is_nothing : booted 0 0 ≡ nothing
none_is_nothing i = record { entry = λ b. if none b i then Some Active else None; rows = λ b. [] }
  where
    none : (b : ℕ) → (nat_le 0 b && nat_lt b (0 + 0)) ≡ false
    none b = grind (arith, nat_tests)
