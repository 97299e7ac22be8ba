-- A count that is 0 says no to each, and the other way about.
use Rattle.std.proofs.Common.{◌≡◌, ℕ, zero, suc, inl, inr, ◌+◌, ◌≤◌, Bool, true, false, refl, ap, arith}
use Rattle.std.specs.Prelude.{if◌then◌else◌, ◌⊎◌}
use Rattle.std.proofs.lemmas.Bool.Decides.{nat_tests}
use Rattle.vs_machine.specs.Tables.{count_to, is_to}

last_or : (c n : ℕ) → c ≤ suc n → (c ≡ suc n) ⊎ (c ≤ n)
last_or c n h = grind arith

none_below : (p : ℕ → Bool) (n : ℕ) → count_to p n ≡ 0 → (c : ℕ) → 1 ≤ c → c ≤ n → p c ≡ true → ⊥
none_below p zero e c first lt here = absurd (omega arith)
none_below p (suc n) e c first lt here = by_test (λ f l. none_below p n f c first l here) (p (suc n)) refl e
  where
    by_test : (count_to p n ≡ 0 → c ≤ n → ⊥) → (t : Bool) → p (suc n) ≡ t → count_to p n + (if t then 1 else 0) ≡ 0 → ⊥
    by_test before true is f = absurd (omega arith)
    by_test before false is f = elim (last_or c n lt) [ inl same ↦ absurd (cc (ap p same, is, here)) | inr l ↦ before (omega arith) l ]

pub none_counted : (p : ℕ → Bool) (n : ℕ) → count_to p n ≡ 0 → (c : ℕ) → is_to n c ≡ true → p c ≡ true → ⊥
none_counted p n e c within here = none_below p n e c (grind (arith, nat_tests, within)) (grind (arith, nat_tests, within)) here

pub counts_none : (p : ℕ → Bool) (n : ℕ) → ((c : ℕ) → p c ≡ false) → count_to p n ≡ 0
counts_none p zero nay = refl
counts_none p (suc n) nay = by (p (suc n)) (nay (suc n)) (counts_none p n nay)
  where
    by : (t : Bool) → t ≡ false → count_to p n ≡ 0 → count_to p n + (if t then 1 else 0) ≡ 0
    by true e h = absurd cc
    by false e h = omega (arith, h)
