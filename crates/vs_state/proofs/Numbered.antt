-- What stands at a number, from what was read there; and tests of all that stand in a list.
use Rattle.std.proofs.Common.{◌≡◌, ℕ, zero, suc, ◌+◌, ◌≤◌, Bool, true, false, List, [], ◌∷◌, length, Option, Some, None, refl, ap, ◌∙◌, sym, arith}
use Rattle.std.specs.Prelude.{◌==◌, ◌&&◌, ◌||◌, nat_lt, slice_get, if◌then◌else◌}
use Rattle.std.specs.List.{list_all, list_any}
use Rattle.std.specs.Option.{option_map_or}
use Rattle.std.proofs.lemmas.Bool.Decides.{nat_tests}
use Rattle.vs_machine.specs.Tables.{count_to}
use Rattle.vs_state.specs.Tables.{numbered}
use Rattle.vs_state.proofs.Counts.{counts_same, counts_most, counts_first, any_to}

pub numbered_some : {A B : Type 0} (f : A → B) (d : B) (items : List A) (k : ℕ) (x : A) → numbered Some None items k ≡ Some x → numbered f d items k ≡ f x
numbered_some {A = A} f d items zero x is = absurd cc
numbered_some {A = A} f d items (suc k) x is = by (slice_get items k) is
  where
    by : (read : Option A) → option_map_or Some read None ≡ Some x → option_map_or f read d ≡ f x
    by None e = absurd cc
    by (Some y) e = ap f cc

pub numbered_none : {A B : Type 0} (f : A → B) (d : B) (items : List A) (k : ℕ) → numbered Some None items k ≡ None → numbered f d items k ≡ d
numbered_none {A = A} f d items zero is = refl
numbered_none {A = A} f d items (suc k) is = by (slice_get items k) is
  where
    by : (read : Option A) → option_map_or Some read None ≡ None → option_map_or f read d ≡ d
    by None e = refl
    by (Some y) e = absurd cc

module _ {A B : Type 0} (p : B → Bool) (f : A → B) (d : B) where
  -- how many items pass
  passing : List A → ℕ
  passing items = count_to (λ k. p (numbered f d items k)) (length items)

  passing_first : (x : A) (xs : List A) → passing (x ∷ xs) ≡ (if p (f x) then 1 else 0) + passing xs
  unfolding passing
  passing_first x xs =
      counts_first (λ k. p (numbered f d (x ∷ xs) k)) (length xs)
      ∙ ap (λ c. (if p (f x) then 1 else 0) + c) (counts_same (λ k. p (numbered f d (x ∷ xs) (suc k))) (λ k. p (numbered f d xs k)) (length xs) shifted)
    where
      shifted : (k : ℕ) → 1 ≤ k → k ≤ length xs → p (numbered f d (x ∷ xs) (suc k)) ≡ p (numbered f d xs k)
      shifted zero first l = absurd (omega arith)
      shifted (suc k) first l = refl

  passing_most : (items : List A) → passing items ≤ length items
  unfolding passing
  passing_most items = counts_most (λ k. p (numbered f d items k)) (length items)

  all_step : (b rest : Bool) (count most new : ℕ) → rest ≡ (count == most) → count ≤ most → new ≡ (if b then 1 else 0) + count → (b && rest) ≡ (new == suc most)
  all_step true rest count most new is below next = grind (arith, nat_tests, is)
  all_step false rest count most new is below next = grind (arith, nat_tests)

  all_passing : (items : List A) → list_all (λ x. p (f x)) items ≡ (passing items == length items)
  unfolding passing
  all_passing [] = refl
  all_passing (x ∷ xs) = all_step (p (f x)) (list_all (λ x. p (f x)) xs) (passing xs) (length xs) (passing (x ∷ xs)) (all_passing xs) (passing_most xs) (passing_first x xs)

  any_step : (b rest : Bool) (count new : ℕ) → rest ≡ nat_lt 0 count → new ≡ (if b then 1 else 0) + count → (b || rest) ≡ nat_lt 0 new
  any_step true rest count new is next = grind (arith, nat_tests)
  any_step false rest count new is next = is ∙ ap (nat_lt 0) (sym (next ∙ omega arith))

  any_passing : (items : List A) → list_any (λ x. p (f x)) items ≡ nat_lt 0 (passing items)
  unfolding passing
  any_passing [] = refl
  any_passing (x ∷ xs) = any_step (p (f x)) (list_any (λ x. p (f x)) xs) (passing xs) (passing (x ∷ xs)) (any_passing xs) (passing_first x xs)

-- all pass where as many pass as there are
pub all_counted : {A B : Type 0} (p : B → Bool) (f : A → B) (d : B) (items : List A) → list_all (λ x. p (f x)) items ≡ (count_to (λ k. p (numbered f d items k)) (length items) == length items)
unfolding passing
all_counted p f d items = all_passing p f d items

pub any_counted : {A B : Type 0} (p : B → Bool) (f : A → B) (d : B) (items : List A) → list_any (λ x. p (f x)) items ≡ any_to (λ k. p (numbered f d items k)) (length items)
unfolding passing
any_counted p f d items = any_passing p f d items
