-- Which set is found: the least one that passes a test, and the first one that is allowed.
use Rattle.std.proofs.Common.{◌≡◌, ℕ, zero, suc, ◌≤◌, Bool, true, false, Option, Some, None, List, [], ◌∷◌, refl, sym, subst, arith, inl, inr}
use Rattle.std.specs.Prelude.{◌⊎◌, IfSome}
use Rattle.vs_machine.specs.Tables.{least_to}
use Rattle.vs_drive.specs.Posting.{IsFirstAllowed}

-- ---- the least that passes

module _ (p : ℕ → Bool) where
  pub none_more : (n : ℕ) → least_to p n ≡ None → p (suc n) ≡ false → least_to p (suc n) ≡ None
  none_more n none nay = rw (none, nay) refl

  pub found_here : (n : ℕ) → least_to p n ≡ None → p (suc n) ≡ true → least_to p (suc n) ≡ Some (suc n)
  found_here n none yea = rw (none, yea) refl

  -- what was found stays so
  pub found_on : (n m x : ℕ) → n ≤ m → least_to p n ≡ Some x → least_to p m ≡ Some x
  found_on n zero x within found =
      let same : n ≡ zero = omega arith in
      subst (λ (k : ℕ). least_to p k ≡ Some x) same found
  found_on n (suc m) x within found = by (last_or n m within) (λ l. found_on n m x l found)
    where
      last_or : (n m : ℕ) → n ≤ suc m → (n ≡ suc m) ⊎ (n ≤ m)
      last_or n m h = grind arith

      by : (n ≡ suc m) ⊎ (n ≤ m) → (n ≤ m → least_to p m ≡ Some x) → least_to p (suc m) ≡ Some x
      by (inl same) before = subst (λ (k : ℕ). least_to p k ≡ Some x) same found
      by (inr l) before = rw (before l) refl

-- ---- the first that is allowed

module _ (May : ℕ → Type 0) where
  -- the first one is
  pub first_is : (x : Option ℕ) (rest : List (Option ℕ)) (y : ℕ) → IsFirstAllowed May (x ∷ []) (Some y) → IsFirstAllowed May (x ∷ rest) (Some y)
  first_is None rest y h = absurd (cc h)
  first_is (Some x) rest y (inl h) = inl h
  first_is (Some x) rest y (inr h) = absurd (cc (h.1))

  -- it isn't
  pub goes_on : (x : Option ℕ) (rest : List (Option ℕ)) (chosen : Option ℕ) → IsFirstAllowed May (x ∷ []) None → IsFirstAllowed May rest chosen → IsFirstAllowed May (x ∷ rest) chosen
  goes_on None rest chosen h next = next
  goes_on (Some x) rest chosen (inl h) next = absurd (cc (h.1))
  goes_on (Some x) rest chosen (inr h) next = inr (h.0, next)

  -- neither of the first two
  pub third : (x y z chosen : Option ℕ) → IsFirstAllowed May (x ∷ []) None → IsFirstAllowed May (y ∷ []) None → IsFirstAllowed May (z ∷ []) chosen → IsFirstAllowed May (x ∷ y ∷ z ∷ []) chosen
  third x y z chosen first second last = goes_on x (y ∷ z ∷ []) chosen first (goes_on y (z ∷ []) chosen second last)

  pub allowed : (sets : List (Option ℕ)) (chosen : Option ℕ) → IsFirstAllowed May sets chosen → IfSome chosen May
  allowed [] chosen h = subst (λ (o : Option ℕ). IfSome o May) (sym h) tt
  allowed (None ∷ sets) chosen h = allowed sets chosen h
  allowed (Some x ∷ sets) chosen (inl h) = subst (λ (o : Option ℕ). IfSome o May) (sym h.1) h.0
  allowed (Some x ∷ sets) chosen (inr h) = allowed sets chosen h.1
