-- Look-ups in rows with a row more or less, and their number.
use Rattle.std.proofs.Common.{◌≡◌, ℕ, ◌+◌, Bool, true, false, List, [], ◌∷◌, length, Some, None, cond, refl, sym, ap, ◌∙◌, subst, arith, Ordering, Less, Equal, Greater, is_eq}
use Rattle.std.specs.Ordering.{match_ordering}
use Rattle.vs_rows.specs.RowMap.{key_cmp, IsRising, value_of, with_value, without_key}
use Rattle.vs_rows.proofs.Rising.{IsAbove, above_lower, value-above, same_key, key_itself, below_of_above}

module _ {V : Type 0} where
  value-head : (row : List ℕ × V) (rows : List (List ℕ × V)) → value_of (row ∷ rows) row.0 ≡ Some row.1
  value-head row rows = rw (key_itself row.0) refl

  value-tail : (row : List ℕ × V) (rows : List (List ℕ × V)) (q : List ℕ) → is_eq (key_cmp q row.0) ≡ false → value_of (row ∷ rows) q ≡ value_of rows q
  value-tail row rows q ne = rw ne refl

  -- ---- a row more

  pub value-with_same : (rows : List (List ℕ × V)) (k : List ℕ) (v : V) → value_of (with_value rows k v) k ≡ Some v
  value-with_same [] k v = value-head (k, v) []
  value-with_same (row ∷ rows) k v =
      elim (key_cmp k row.0) as (λ o. key_cmp k row.0 ≡ o → value_of (match_ordering o ((k, v) ∷ row ∷ rows) ((row.0, v) ∷ rows) (row ∷ with_value rows k v)) k ≡ Some v) [
        | Less ↦ λ h. value-head (k, v) (row ∷ rows)
        | Equal ↦ λ h. rw h refl
        | Greater ↦ λ h. rw h (value-with_same rows k v)
      ] refl

  pub value-with_other : (rows : List (List ℕ × V)) (k : List ℕ) (v : V) (q : List ℕ) → is_eq (key_cmp q k) ≡ false → value_of (with_value rows k v) q ≡ value_of rows q
  value-with_other [] k v q ne = rw ne refl
  value-with_other (row ∷ rows) k v q ne =
      elim (key_cmp k row.0) as (λ o. key_cmp k row.0 ≡ o → value_of (match_ordering o ((k, v) ∷ row ∷ rows) ((row.0, v) ∷ rows) (row ∷ with_value rows k v)) q ≡ value_of (row ∷ rows) q) [
        | Less ↦ λ h. value-tail (k, v) (row ∷ rows) q ne
        | Equal ↦ λ h. let other : is_eq (key_cmp q row.0) ≡ false = subst (λ r. is_eq (key_cmp q r) ≡ false) (same_key k row.0 h) ne in value-tail (row.0, v) rows q other ∙ sym (value-tail row rows q other)
        | Greater ↦ λ h. ap (λ r. cond (is_eq (key_cmp q row.0)) (Some row.1) r) (value-with_other rows k v q ne)
      ] refl

  -- ---- a row less

  pub value-without_same : (rows : List (List ℕ × V)) (k : List ℕ) → IsRising rows → value_of (without_key rows k) k ≡ None
  value-without_same [] k rising = refl
  value-without_same (row ∷ rows) k rising =
      elim (key_cmp k row.0) as (λ o. key_cmp k row.0 ≡ o → value_of (cond (is_eq o) rows (row ∷ without_key rows k)) k ≡ None) [
        | Less ↦ λ h. rw h (value-without_same rows k rising.1)
        | Equal ↦ λ h. rw (same_key k row.0 h) (value-above row.0 rows rising.0)
        | Greater ↦ λ h. rw h (value-without_same rows k rising.1)
      ] refl

  pub value-without_other : (rows : List (List ℕ × V)) (k q : List ℕ) → is_eq (key_cmp q k) ≡ false → value_of (without_key rows k) q ≡ value_of rows q
  value-without_other [] k q ne = refl
  value-without_other (row ∷ rows) k q ne =
      elim (key_cmp k row.0) as (λ o. key_cmp k row.0 ≡ o → value_of (cond (is_eq o) rows (row ∷ without_key rows k)) q ≡ value_of (row ∷ rows) q) [
        | Less ↦ λ h. ap (λ r. cond (is_eq (key_cmp q row.0)) (Some row.1) r) (value-without_other rows k q ne)
        | Equal ↦ λ h. let other : is_eq (key_cmp q row.0) ≡ false = subst (λ r. is_eq (key_cmp q r) ≡ false) (same_key k row.0 h) ne in sym (value-tail row rows q other)
        | Greater ↦ λ h. ap (λ r. cond (is_eq (key_cmp q row.0)) (Some row.1) r) (value-without_other rows k q ne)
      ] refl

  pub without_absent : (rows : List (List ℕ × V)) (k : List ℕ) → value_of rows k ≡ None → without_key rows k ≡ rows
  without_absent [] k absent = refl
  without_absent (row ∷ rows) k absent = by (is_eq (key_cmp k row.0)) (without_absent rows k) absent
    where
      by : (b : Bool) → (value_of rows k ≡ None → without_key rows k ≡ rows) → cond b (Some row.1) (value_of rows k) ≡ None → cond b rows (row ∷ without_key rows k) ≡ row ∷ rows
      by true rest h = cc
      by false rest h = ap (λ (rs : List (List ℕ × V)). row ∷ rs) (rest h)

  -- ---- how many rows

  pub length-with_new : (rows : List (List ℕ × V)) (k : List ℕ) (v : V) → value_of rows k ≡ None → length (with_value rows k v) ≡ length rows + 1
  length-with_new [] k v absent = omega arith
  length-with_new (row ∷ rows) k v absent = by (key_cmp k row.0) (length-with_new rows k v) absent
    where
      by : (o : Ordering) → (value_of rows k ≡ None → length (with_value rows k v) ≡ length rows + 1) → cond (is_eq o) (Some row.1) (value_of rows k) ≡ None → length (match_ordering o ((k, v) ∷ row ∷ rows) ((row.0, v) ∷ rows) (row ∷ with_value rows k v)) ≡ length (row ∷ rows) + 1
      by Less rest h = omega arith
      by Equal rest h = cc
      by Greater rest h = omega (arith, rest h)

  pub length-with_old : (rows : List (List ℕ × V)) (k : List ℕ) (v w : V) → IsRising rows → value_of rows k ≡ Some w → length (with_value rows k v) ≡ length rows
  length-with_old [] k v w rising there = cc
  length-with_old (row ∷ rows) k v w rising there = by (key_cmp k row.0) refl (length-with_old rows k v w rising.1) there
    where
      by : (o : Ordering) → key_cmp k row.0 ≡ o → (value_of rows k ≡ Some w → length (with_value rows k v) ≡ length rows) → cond (is_eq o) (Some row.1) (value_of rows k) ≡ Some w → length (match_ordering o ((k, v) ∷ row ∷ rows) ((row.0, v) ∷ rows) (row ∷ with_value rows k v)) ≡ length (row ∷ rows)
      by Less e rest h = let absent : value_of rows k ≡ None = value-above k rows (above_lower k row.0 rows e rising.0) in cc
      by Equal e rest h = refl
      by Greater e rest h = omega (arith, rest h)

  pub length-without_old : (rows : List (List ℕ × V)) (k : List ℕ) (w : V) → value_of rows k ≡ Some w → length (without_key rows k) + 1 ≡ length rows
  length-without_old [] k w there = cc
  length-without_old (row ∷ rows) k w there = by (is_eq (key_cmp k row.0)) (length-without_old rows k w) there
    where
      by : (b : Bool) → (value_of rows k ≡ Some w → length (without_key rows k) + 1 ≡ length rows) → cond b (Some row.1) (value_of rows k) ≡ Some w → length (cond b rows (row ∷ without_key rows k)) + 1 ≡ length (row ∷ rows)
      by true rest h = omega arith
      by false rest h = omega (arith, rest h)

  -- ---- rows that rise are told by their look-ups

  module _ (x y : List ℕ × V) (xs ys : List (List ℕ × V)) (s : IsRising (x ∷ xs)) (t : IsRising (y ∷ ys)) (h : (q : List ℕ) → value_of (x ∷ xs) q ≡ value_of (y ∷ ys) q) where
    heads : key_cmp x.0 y.0 ≡ Equal
    heads = by (key_cmp x.0 y.0) refl
      where
        by : (o : Ordering) → key_cmp x.0 y.0 ≡ o → key_cmp x.0 y.0 ≡ Equal
        by Less e = let none : value_of (y ∷ ys) x.0 ≡ None = value-above x.0 (y ∷ ys) (e, above_lower x.0 y.0 ys e t.0) in let some = value-head x xs in let same = h x.0 in cc
        by Equal e = e
        by Greater e =
            let less = below_of_above x.0 y.0 e in
            let none : value_of (x ∷ xs) y.0 ≡ None = value-above y.0 (x ∷ xs) (less, above_lower y.0 x.0 xs less s.0) in
            let some = value-head y ys in let same = h y.0 in cc

    values : x.1 ≡ y.1
    values =
        let key : x.0 ≡ y.0 = same_key x.0 y.0 heads in
        let there : value_of (y ∷ ys) x.0 ≡ Some y.1 = subst (λ r. value_of (y ∷ ys) r ≡ Some y.1) (sym key) (value-head y ys) in
        let some = value-head x xs in let same = h x.0 in cc

    tails : (q : List ℕ) → value_of xs q ≡ value_of ys q
    tails q = by (key_cmp q x.0) refl
      where
        key : x.0 ≡ y.0
        key = same_key x.0 y.0 heads

        apart : is_eq (key_cmp q x.0) ≡ false → value_of xs q ≡ value_of ys q
        apart ne = sym (value-tail x xs q ne) ∙ h q ∙ value-tail y ys q (subst (λ r. is_eq (key_cmp q r) ≡ false) key ne)

        by : (o : Ordering) → key_cmp q x.0 ≡ o → value_of xs q ≡ value_of ys q
        by Less e = apart (rw e refl)
        by Equal e =
            let here : q ≡ x.0 = same_key q x.0 e in
            rw here (value-above x.0 xs s.0 ∙ sym (value-above x.0 ys (subst (λ r. IsAbove r ys) (sym key) t.0)))
        by Greater e = apart (rw e refl)

  pub same_map : (m n : List (List ℕ × V)) → IsRising m → IsRising n → ((q : List ℕ) → value_of m q ≡ value_of n q) → m ≡ n
  same_map [] [] s t h = refl
  same_map [] (y ∷ ys) s t h = let some = value-head y ys in let same = h y.0 in cc
  same_map (x ∷ xs) [] s t h = let some = value-head x xs in let same = h x.0 in cc
  same_map (x ∷ xs) (y ∷ ys) s t h =
      let rest = same_map xs ys s.1 t.1 (tails x y xs ys s t h) in
      let key = same_key x.0 y.0 (heads x y xs ys s t h) in
      let value = values x y xs ys s t h in
      λ i. (key i, value i) ∷ rest i
