-- The least number that passes.
use Rattle.std.proofs.Common.{◌≡◌, ℕ, zero, suc, ◌+◌, ◌<◌, ◌≤◌, Bool, true, false, Some, None, refl, sym, ap, ◌∙◌, arith, inl, inr}
use Rattle.std.specs.Prelude.{◌⊎◌}
use Rattle.vs_machine.specs.Tables.{least_to}

-- none passes
pub least_none : (p : ℕ → Bool) (n : ℕ) → ((k : ℕ) → 1 ≤ k → k ≤ n → p k ≡ false) → least_to p n ≡ None
least_none p zero none = refl
least_none p (suc n) none = grind (arith, least_none p n (λ k f l. none k f (omega arith)), none (suc n) (omega arith) (omega arith))

last_or : (k n : ℕ) → k ≤ suc n → (k ≡ suc n) ⊎ (k ≤ n)
last_or k n h = grind arith

-- this one passes, and none before it
pub least_at : (p : ℕ → Bool) (n k : ℕ) → 1 ≤ k → k ≤ n → p k ≡ true → ((j : ℕ) → 1 ≤ j → j < k → p j ≡ false) → least_to p n ≡ Some k
least_at p zero k first last yea before = absurd (omega arith)
least_at p (suc n) k first last yea before = by (last_or k n last) (λ l. least_at p n k first l yea before)
  where
    by : (k ≡ suc n) ⊎ (k ≤ n) → (k ≤ n → least_to p n ≡ Some k) → least_to p (suc n) ≡ Some k
    by (inl same) earlier =
        let none : least_to p n ≡ None = least_none p n (λ j f l. before j f (omega arith)) in
        let here : p (suc n) ≡ true = ap p (sym same) ∙ yea in
        grind (arith, none, here)
    by (inr l) earlier = grind (arith, earlier l)

-- one number further is tested
pub one_further : (p : ℕ → Bool) (t : Bool) (i b : ℕ) → b ≡ i + 1 → p b ≡ t → ((k : ℕ) → 1 ≤ k → k ≤ i → p k ≡ t) → (k : ℕ) → 1 ≤ k → k ≤ i + 1 → p k ≡ t
one_further p t i b at here before k first l = by (last_or k i (omega arith))
  where
    by : (k ≡ suc i) ⊎ (k ≤ i) → p k ≡ t
    by (inl same) = let e : k ≡ b = omega arith in ap p e ∙ here
    by (inr below) = before k first below
