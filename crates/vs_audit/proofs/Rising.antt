-- Calls that rise to the last of them.
use Rattle.std.proofs.Common.{◌≡◌, ℕ, zero, suc, ◌<◌, ◌≤◌, ◌⊎◌, inl, inr, ⊎_elim, List, [], ◌∷◌, ◌++◌, length, slice_get, Some, refl, ap, sym, subst, arith}
use Rattle.std.proofs.lemmas.Option.{slice_get_within}
use Rattle.vs_audit.specs.Account.{Call}
use Rattle.vs_audit.specs.Legal.{number_of, IsRising}

-- an item of a list with one more is an item of the list, or the one more
get_more : {X : Type 0} (xs : List X) (x y : X) (n : ℕ) → slice_get (xs ++ x ∷ []) n ≡ Some y → (slice_get xs n ≡ Some y) ⊎ ((n ≡ length xs) × (y ≡ x))
get_more [] x y zero at = inr (refl, cc)
get_more [] x y (suc n) at = cc
get_more (first ∷ xs) x y zero at = inl at
get_more {X} (first ∷ xs) x y (suc n) at =
    ⊎_elim (λ (h : slice_get xs n ≡ Some y). inl h) (λ (h : (n ≡ length xs) × (y ≡ x)). inr (ap suc h.0, h.1)) (get_more xs x y n at)

-- calls that rise, up to this number
pub record RiseTo (calls : List Call) (last : ℕ) : Type 0 where
  pub rising : IsRising calls
  pub below : (n : ℕ) (c : Call) → slice_get calls n ≡ Some c → number_of c.id ≤ last

rise_nil : RiseTo [] 0
rise_nil = record { rising = λ m n b c less at_b at_c. cc; below = λ n c at. cc }

pub rise_none : (calls : List Call) → calls ≡ [] → RiseTo calls 0
rise_none calls none = subst (λ (cs : List Call). RiseTo cs 0) (sym none) rise_nil

rise_more : (calls : List Call) (last : ℕ) (x : Call) → RiseTo calls last → last < number_of x.id → RiseTo (calls ++ x ∷ []) (number_of x.id)
rise_more calls last x old above = record {
  rising = λ m n b c less at_b at_c.
      ⊎_elim (λ (h : slice_get calls n ≡ Some c).
      ⊎_elim (λ (g : slice_get calls m ≡ Some b). old.rising m n b c less g h)
      (λ (g : (m ≡ length calls) × (b ≡ x)). let within = slice_get_within calls n c h in absurd (omega arith))
      (get_more calls x b m at_b))
      (λ (h : (n ≡ length calls) × (c ≡ x)).
      ⊎_elim (λ (g : slice_get calls m ≡ Some b).
      let low = old.below m b g in
      let e : number_of c.id ≡ number_of x.id = ap (λ (k : Call). number_of k.id) h.1 in
      omega (arith, low, e, above))
      (λ (g : (m ≡ length calls) × (b ≡ x)). absurd (omega arith))
      (get_more calls x b m at_b))
      (get_more calls x c n at_c);
  below = λ n c at.
      ⊎_elim (λ (h : slice_get calls n ≡ Some c). let low = old.below n c h in omega (arith, low, above))
      (λ (h : (n ≡ length calls) × (c ≡ x)). let e : number_of c.id ≡ number_of x.id = ap (λ (k : Call). number_of k.id) h.1 in omega (arith, e))
      (get_more calls x c n at);
}

pub rise_with : (old new : List Call) (last number : ℕ) (x : Call) → new ≡ old ++ x ∷ [] → number ≡ number_of x.id → RiseTo old last → last < number_of x.id → RiseTo new number
rise_with old new last number x added is rises above =
    let more = subst (λ (cs : List Call). RiseTo cs (number_of x.id)) (sym added) (rise_more old last x rises above) in
    subst (λ (n : ℕ). RiseTo new n) (sym is) more
