-- Lists whose items are named by numbers from 1.
use Rattle.std.proofs.Common.{◌≡◌, ℕ, zero, suc, ◌<◌, ◌==◌, Bool, true, false, List, [], ◌∷◌, length, Option, Some, None, refl, ap, subst, arith}
use Rattle.std.specs.Prelude.{slice_get, slice_set, if◌then◌else◌}
use Rattle.std.specs.Option.{option_map_or}
use Rattle.std.proofs.lemmas.Bool.Decides.{nat_tests}
use Rattle.vs_machine.specs.Tables.{put}
use Rattle.vs_state.specs.Tables.{numbered}

pub numbered_of : {A B : Type 0} (f : A → B) (d : B) (items : List A) (k : ℕ) (t : A) → numbered Some None items k ≡ Some t → numbered f d items k ≡ f t
numbered_of f d items zero t h = absurd (cc h)
numbered_of f d items (suc k) t h = by (slice_get items k) h
  where
    by : (o : Option _) → option_map_or Some o None ≡ Some t → option_map_or f o d ≡ f t
    by None h = absurd (cc h)
    by (Some u) h = ap f (cc h)

get_set_here : {A : Type 0} (items : List A) (k : ℕ) (t : A) → k < length items → slice_get (slice_set items k t) k ≡ Some t
get_set_here [] k t within = absurd (omega (arith, within))
get_set_here (i ∷ is) zero t within = refl
get_set_here (i ∷ is) (suc k) t within = get_set_here is k t (omega (arith, within))

get_set_there : {A : Type 0} (items : List A) (k j : ℕ) (t : A) → (j == k) ≡ false → slice_get (slice_set items k t) j ≡ slice_get items j
get_set_there [] k j t ne = refl
get_set_there (i ∷ is) zero zero t ne = absurd (cc ne)
get_set_there (i ∷ is) zero (suc j) t ne = refl
get_set_there (i ∷ is) (suc k) zero t ne = refl
get_set_there (i ∷ is) (suc k) (suc j) t ne = get_set_there is k j t (grind (arith, nat_tests, ne))

-- a list whose item of a number was set
pub numbered_set : {A B : Type 0} (f : A → B) (d : B) (items : List A) (k : ℕ) (t : A) → k < length items → numbered f d (slice_set items k t) ≡ put (numbered f d items) (suc k) (f t)
numbered_set f d items k t within = λ i q. by q (q == suc k) refl i
  where
    by : (q : ℕ) (e : Bool) → (q == suc k) ≡ e → numbered f d (slice_set items k t) q ≡ (if e then f t else numbered f d items q)
    by zero true e = absurd (grind (arith, nat_tests, e))
    by zero false e = refl
    by (suc j) true e = ap (λ o. option_map_or f o d) (subst (λ m. slice_get (slice_set items k t) m ≡ Some t) (grind (arith, nat_tests, e)) (get_set_here items k t within))
    by (suc j) false e = ap (λ o. option_map_or f o d) (get_set_there items k j t (grind (arith, nat_tests, e)))
