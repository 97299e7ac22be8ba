-- What an edit of a map's entries leaves: they rise, and one key alone has another value.
use Rattle.std.proofs.Common.{◌≡◌, List, [], ◌∷◌, Bool, true, false, Option, Some, None, refl, sym, ap, ◌∙◌, if◌then◌else◌, Ordering, Less, Equal, Greater}
use Rattle.std.specs.List.{AllByRecursion}
use Rattle.std.specs.Ordering.{is_eq, match_ordering}
use Rattle.std.specs.Cmp.{IsTotalOrder}
use Rattle.std.proofs.lemmas.Cmp.{eq_by_cmp_equiv}
use mathlib.Core.Bool.{false≢true}
use Rattle.vs_table.specs.Entries.{IsRising, value_of, with_value, without_key, Updates}
use Rattle.vs_table.proofs.Keys.{by_ordering, turned, below_all}

equal_from_test : (o : Ordering) → is_eq o ≡ true → o ≡ Equal
equal_from_test Less h = absurd (false≢true h)
equal_from_test Equal h = refl
equal_from_test Greater h = absurd (false≢true h)

-- tests whether keys are equal
module _ {K : Type 0} (cmp : K → K → Ordering) (total : IsTotalOrder cmp) where
  eq_turned : (x y : K) → is_eq (cmp x y) ≡ is_eq (cmp y x)
  eq_turned x y = let laws = eq_by_cmp_equiv total in laws.symm x y

  -- at a key that is equal to the first
  eq_beside : (key first q : K) → is_eq (cmp key first) ≡ true → is_eq (cmp key q) ≡ is_eq (cmp q first)
  eq_beside key first q same = let laws = eq_by_cmp_equiv total in laws.congr key first q same ∙ laws.symm first q

  -- at a key that differs from the first
  eq_apart : (key first q : K) → is_eq (cmp key first) ≡ false → is_eq (cmp q first) ≡ true → is_eq (cmp key q) ≡ false
  eq_apart key first q differs same = let laws = eq_by_cmp_equiv total in laws.symm key q ∙ laws.congr q first key same ∙ laws.symm first key ∙ differs

-- what a look-up finds at the first entry, and past it
module _ {A : Type 0} where
  either_way : (c : Bool) (rest : Option A) → rest ≡ (if c then rest else rest)
  either_way true rest = refl
  either_way false rest = refl

  put_here : (b : Bool) (new old rest : Option A) → (if b then new else rest) ≡ (if b then new else (if b then old else rest))
  put_here true new old rest = refl
  put_here false new old rest = refl

  put_past : (b c : Bool) (new old rest : Option A) → (b ≡ true → c ≡ false) → (if b then old else (if c then new else rest)) ≡ (if c then new else (if b then old else rest))
  put_past true true new old rest apart = absurd (false≢true (sym (apart refl)))
  put_past true false new old rest apart = refl
  put_past false c new old rest apart = refl

  taken_here : (b : Bool) (old rest : Option A) → (b ≡ true → rest ≡ None) → rest ≡ (if b then None else (if b then old else rest))
  taken_here true old rest none = none refl
  taken_here false old rest none = refl

module _ {K V : Type 0} (cmp : K → K → Ordering) (total : IsTotalOrder cmp) where
  -- all keys are above this one
  abbrev IsAbove : K → List (K × V) → Type 0
  IsAbove low entries = AllByRecursion (λ later. cmp low later.0 ≡ Less) entries

  above_with : (low : K) (entries : List (K × V)) (key : K) (value : V) → IsAbove low entries → cmp low key ≡ Less → IsAbove low (with_value cmp entries key value)
  above_with low [] key value above less = (less, tt)
  above_with low (e ∷ es) key value above less =
      elim (cmp key e.0) as (λ o. IsAbove low (match_ordering o ((key, value) ∷ e ∷ es) ((e.0, value) ∷ es) (e ∷ with_value cmp es key value))) [
        | Less ↦ (less, above)
        | Equal ↦ above
        | Greater ↦ (above.0, above_with low es key value above.1 less)
      ]

  pub rising_with : (entries : List (K × V)) (key : K) (value : V) → IsRising cmp entries → IsRising cmp (with_value cmp entries key value)
  rising_with [] key value rising = (tt, tt)
  rising_with (e ∷ es) key value rising = by_ordering (cmp key e.0)
      (λ h. rw h ((h, below_all cmp total key e.0 es h rising.0), rising))
      (λ h. rw h rising)
      (λ h. rw h (above_with e.0 es key value rising.0 (turned cmp total key e.0 Greater h), rising_with es key value rising.1))

  above_without : (low : K) (entries : List (K × V)) (key : K) → IsAbove low entries → IsAbove low (without_key cmp entries key)
  above_without low [] key above = tt
  above_without low (e ∷ es) key above =
      elim (is_eq (cmp key e.0)) as (λ b. IsAbove low (if b then es else e ∷ without_key cmp es key)) [
        | true ↦ above.1
        | false ↦ (above.0, above_without low es key above.1)
      ]

  pub rising_without : (entries : List (K × V)) (key : K) → IsRising cmp entries → IsRising cmp (without_key cmp entries key)
  rising_without [] key rising = tt
  rising_without (e ∷ es) key rising =
      elim (is_eq (cmp key e.0)) as (λ b. IsRising cmp (if b then es else e ∷ without_key cmp es key)) [
        | true ↦ rising.1
        | false ↦ (above_without e.0 es key rising.0, rising_without es key rising.1)
      ]

  -- a key that is equal to the first has no further value
  none_later : (key first : K) (entries : List (K × V)) → cmp key first ≡ Equal → IsAbove first entries → value_of cmp entries key ≡ None
  none_later key first [] same above = refl
  none_later key first (e ∷ es) same above = rw (total.congr key first e.0 same ∙ above.0) (none_later key first es same above.1)

  pub updates_with : (entries : List (K × V)) (key : K) (value : V) → Updates cmp entries (with_value cmp entries key value) key (Some value)
  updates_with [] key value q = rw (eq_turned cmp total key q) refl
  updates_with (e ∷ es) key value q = by_ordering (cmp key e.0)
      (λ h. rw (h, eq_turned cmp total key q) refl)
      (λ h. rw (h, eq_beside cmp total key e.0 q (ap is_eq h)) (put_here (is_eq (cmp q e.0)) (Some value) (Some e.1) (value_of cmp es q)))
      (λ h. rw (h, updates_with es key value q) (put_past (is_eq (cmp q e.0)) (is_eq (cmp key q)) (Some value) (Some e.1) (value_of cmp es q) (eq_apart cmp total key e.0 q (ap is_eq h))))

  pub updates_without : (entries : List (K × V)) (key : K) → IsRising cmp entries → Updates cmp entries (without_key cmp entries key) key None
  updates_without [] key rising q = either_way (is_eq (cmp key q)) None
  updates_without (e ∷ es) key rising q = by_ordering (cmp key e.0)
      (λ h. rw (h, updates_without es key rising.1 q) (put_past (is_eq (cmp q e.0)) (is_eq (cmp key q)) None (Some e.1) (value_of cmp es q) (eq_apart cmp total key e.0 q (ap is_eq h))))
      (λ h. rw (h, eq_beside cmp total key e.0 q (ap is_eq h)) (taken_here (is_eq (cmp q e.0)) (Some e.1) (value_of cmp es q) (λ same. none_later q e.0 es (equal_from_test (cmp q e.0) same) rising.0)))
      (λ h. rw (h, updates_without es key rising.1 q) (put_past (is_eq (cmp q e.0)) (is_eq (cmp key q)) None (Some e.1) (value_of cmp es q) (eq_apart cmp total key e.0 q (ap is_eq h))))
