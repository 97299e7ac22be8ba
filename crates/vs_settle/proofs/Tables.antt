-- A table of two numbers that differs at one pair.
use Rattle.std.proofs.Common.{inl, inr, ◌≡◌, ℕ, sym, ap, subst, ◌∙◌, ◌≤◌, true, arith}
use Rattle.std.specs.Prelude.{◌≢◌, ◌⊎◌}
use Rattle.std.proofs.lemmas.Bool.{cases_eq}
use Rattle.std.proofs.lemmas.Bool.Decides.{nat_tests}
use Rattle.vs_machine.specs.Tables.{put, put_at, is_to}
use Rattle.vs_machine.proofs.Frame.{put_here, put_there}

pub put_at_here : {A : Type 0} (f : ℕ → ℕ → A) (x y : ℕ) (v : A) → put_at f x y v x y ≡ v
put_at_here f x y v = ap (λ h. h y) (put_here f x (put (f x) y v)) ∙ put_here (f x) y v

pub put_at_there : {A : Type 0} (f : ℕ → ℕ → A) (x y : ℕ) (v : A) (p q : ℕ) → (p ≡ x → q ≡ y → ⊥) → put_at f x y v p q ≡ f p q
put_at_there f x y v p q ne = by (cases_eq p x)
  where
    by : (p ≡ x) ⊎ (p ≢ x) → put_at f x y v p q ≡ f p q
    by (inl e) =
        subst (λ u. put_at f x y v u q ≡ f u q) (sym e) (ap (λ h. h q) (put_here f x (put (f x) y v)) ∙ put_there (f x) y v q (ne e))
    by (inr n) = ap (λ h. h q) (put_there f x (put (f x) y v) p n)

-- a number of the cluster
pub within : (n k : ℕ) → is_to n k ≡ true → (1 ≤ k) × (k ≤ n)
within n k h = (grind (arith, nat_tests, h), grind (arith, nat_tests, h))

pub is_within : (n k : ℕ) → 1 ≤ k → k ≤ n → is_to n k ≡ true
is_within n k a b = grind (arith, nat_tests, a, b)
