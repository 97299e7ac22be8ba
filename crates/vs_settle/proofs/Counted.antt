-- A count of some isn't 0, and a count of all says yes to each.
use Rattle.std.proofs.Common.{◌≡◌, ℕ, zero, suc, ◌+◌, ◌≤◌, Bool, true, false, refl, subst, arith}
use Rattle.std.specs.Prelude.{◌==◌, if◌then◌else◌, nat_lt}
use Rattle.std.proofs.lemmas.Bool.{eqb-true}
use Rattle.std.proofs.lemmas.Bool.Decides.{nat_tests}
use Rattle.vs_machine.specs.Tables.{count_to, is_to}
use Rattle.vs_machine.proofs.Counts.{none_counted}

pub some_counted : (p : ℕ → Bool) (n c : ℕ) → is_to n c ≡ true → p c ≡ true → nat_lt 0 (count_to p n) ≡ true
some_counted p n c within here = at (count_to p n) refl
  where
    at : (m : ℕ) → count_to p n ≡ m → nat_lt 0 m ≡ true
    at zero e = absurd (none_counted p n e c within here)
    at (suc m) e = grind (arith, nat_tests)

count_within : (p : ℕ → Bool) (n : ℕ) → count_to p n ≤ n
count_within p zero = omega arith
count_within p (suc n) = at (p (suc n)) (count_within p n)
  where
    at : (t : Bool) → count_to p n ≤ n → count_to p n + (if t then 1 else 0) ≤ suc n
    at true before = omega (arith, before)
    at false before = omega (arith, before)

pub all_counted : (p : ℕ → Bool) (n : ℕ) → count_to p n ≡ n → (c : ℕ) → is_to n c ≡ true → p c ≡ true
all_counted p zero e c within = absurd (grind (arith, nat_tests, within))
all_counted p (suc n) e c within = at (λ f w. all_counted p n f c w) (p (suc n)) refl e
  where
    at : (count_to p n ≡ n → is_to n c ≡ true → p c ≡ true) → (t : Bool) → p (suc n) ≡ t → count_to p n + (if t then 1 else 0) ≡ suc n → p c ≡ true
    at before false is f = let few = count_within p n in absurd (omega (arith, f, few))
    at before true is f = here (suc n == c) refl
      where
        here : (u : Bool) → (suc n == c) ≡ u → p c ≡ true
        here true g = subst (λ j. p j ≡ true) (eqb-true (suc n) c g) is
        here false g = before (omega (arith, f)) (grind (arith, nat_tests, within, g))
