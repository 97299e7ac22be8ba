-- Rows that rise: what stands below a key and above it, and what stays rising.
use Rattle.std.proofs.Common.{◌≡◌, ℕ, zero, suc, ◌+◌, ◌<◌, List, [], ◌∷◌, ◌++◌, length, get_or, take, drop, None, Some, cond, refl, sym, ap, ◌∙◌, add-one, arith, drop-cons, Ordering, Less, Equal, Greater, is_eq}
use Rattle.std.specs.List.{AllByRecursion}
use Rattle.std.specs.Ordering.{ordering_reverse, match_ordering}
use Rattle.std.specs.Cmp.Lexicographic.{nat_list_cmp_total}
use Rattle.std.proofs.lemmas.Cmp.{tied_itself}
use Rattle.std.proofs.lemmas.Map.Lookups.{exact_bytes}
use Rattle.vs_rows.specs.RowMap.{key_cmp, IsRising, value_of, with_value, without_key, rows_below, rows_from, rows_above}

-- ---- keys

pub below_of_above : (high low : List ℕ) → key_cmp high low ≡ Greater → key_cmp low high ≡ Less
below_of_above high low h = nat_list_cmp_total.antisymm low high ∙ ap ordering_reverse h

pub above_of_below : (low high : List ℕ) → key_cmp low high ≡ Less → key_cmp high low ≡ Greater
above_of_below low high h = nat_list_cmp_total.antisymm high low ∙ ap ordering_reverse h

pub same_key : (a b : List ℕ) → key_cmp a b ≡ Equal → a ≡ b
same_key a b h = exact_bytes a b h

pub key_itself : (a : List ℕ) → key_cmp a a ≡ Equal
key_itself a = tied_itself nat_list_cmp_total a

pub lower : (a b c : List ℕ) → key_cmp a b ≡ Less → key_cmp b c ≡ Less → key_cmp a c ≡ Less
lower a b c = nat_list_cmp_total.trans a b c

module _ {V : Type 0} where
  -- the key is below each of the rows
  abbrev pub IsAbove : List ℕ → List (List ℕ × V) → Type 0
  IsAbove key rows = AllByRecursion (λ row. key_cmp key row.0 ≡ Less) rows

  -- the key is above each of the rows
  abbrev pub IsBelow : List (List ℕ × V) → List ℕ → Type 0
  IsBelow rows key = AllByRecursion (λ row. key_cmp row.0 key ≡ Less) rows

  pub above_lower : (low key : List ℕ) (rows : List (List ℕ × V)) → key_cmp low key ≡ Less → IsAbove key rows → IsAbove low rows
  above_lower low key [] less above = tt
  above_lower low key (row ∷ rows) less above = (lower low key row.0 less above.0, above_lower low key rows less above.1)

  pub below_higher : (rows : List (List ℕ × V)) (key high : List ℕ) → IsBelow rows key → key_cmp key high ≡ Less → IsBelow rows high
  below_higher [] key high below less = tt
  below_higher (row ∷ rows) key high below less = (lower row.0 key high below.0 less, below_higher rows key high below.1 less)

  -- ---- a key below all rows

  pub value-above : (key : List ℕ) (rows : List (List ℕ × V)) → IsAbove key rows → value_of rows key ≡ None
  value-above key [] above = refl
  value-above key (row ∷ rows) above = rw above.0 (value-above key rows above.1)

  pub with-above : (key : List ℕ) (v : V) (rows : List (List ℕ × V)) → IsAbove key rows → with_value rows key v ≡ (key, v) ∷ rows
  with-above key v [] above = refl
  with-above key v (row ∷ rows) above = rw above.0 refl

  pub without-above : (key : List ℕ) (rows : List (List ℕ × V)) → IsAbove key rows → without_key rows key ≡ rows
  without-above key [] above = refl
  without-above key (row ∷ rows) above = rw above.0 (ap (λ (rs : List (List ℕ × V)). row ∷ rs) (without-above key rows above.1))

  pub from-above : (key : List ℕ) (rows : List (List ℕ × V)) → IsAbove key rows → rows_from rows key ≡ rows
  from-above key [] above = refl
  from-above key (row ∷ rows) above = rw (above_of_below key row.0 above.0) (ap (λ (rs : List (List ℕ × V)). row ∷ rs) (from-above key rows above.1))

  pub above-above : (key : List ℕ) (rows : List (List ℕ × V)) → IsAbove key rows → rows_above rows (Some key) ≡ rows
  above-above key [] above = refl
  above-above key (row ∷ rows) above = rw (above_of_below key row.0 above.0) (ap (λ (rs : List (List ℕ × V)). row ∷ rs) (above-above key rows above.1))

  pub below-above : (key : List ℕ) (rows : List (List ℕ × V)) → IsAbove key rows → rows_below rows key ≡ []
  below-above key [] above = refl
  below-above key (row ∷ rows) above = rw (above_of_below key row.0 above.0) (below-above key rows above.1)

  -- ---- a key above the first rows

  pub value-append : (key : List ℕ) (front back : List (List ℕ × V)) → IsBelow front key → value_of (front ++ back) key ≡ value_of back key
  value-append key [] back below = refl
  value-append key (row ∷ front) back below = rw (above_of_below row.0 key below.0) (value-append key front back below.1)

  pub with-append : (key : List ℕ) (v : V) (front back : List (List ℕ × V)) → IsBelow front key → with_value (front ++ back) key v ≡ front ++ with_value back key v
  with-append key v [] back below = refl
  with-append key v (row ∷ front) back below = rw (above_of_below row.0 key below.0) (ap (λ (rs : List (List ℕ × V)). row ∷ rs) (with-append key v front back below.1))

  pub without-append : (key : List ℕ) (front back : List (List ℕ × V)) → IsBelow front key → without_key (front ++ back) key ≡ front ++ without_key back key
  without-append key [] back below = refl
  without-append key (row ∷ front) back below = rw (above_of_below row.0 key below.0) (ap (λ (rs : List (List ℕ × V)). row ∷ rs) (without-append key front back below.1))

  pub below-append : (key : List ℕ) (front back : List (List ℕ × V)) → IsBelow front key → rows_below (front ++ back) key ≡ front ++ rows_below back key
  below-append key [] back below = refl
  below-append key (row ∷ front) back below = rw below.0 (ap (λ (rs : List (List ℕ × V)). row ∷ rs) (below-append key front back below.1))

  pub from-append : (key : List ℕ) (front back : List (List ℕ × V)) → IsBelow front key → rows_from (front ++ back) key ≡ rows_from back key
  from-append key [] back below = refl
  from-append key (row ∷ front) back below = rw below.0 (from-append key front back below.1)

  pub above-append : (key : List ℕ) (front back : List (List ℕ × V)) → IsBelow front key → rows_above (front ++ back) (Some key) ≡ rows_above back (Some key)
  above-append key [] back below = refl
  above-append key (row ∷ front) back below = rw below.0 (above-append key front back below.1)

  -- ---- parts of rows that rise

  pub rising_drop : (rows : List (List ℕ × V)) (i : ℕ) → IsRising rows → IsRising (drop i rows)
  rising_drop rows zero rising = rising
  rising_drop [] (suc i) rising = tt
  rising_drop (row ∷ rows) (suc i) rising = rising_drop rows i rising.1

  above-take : (key : List ℕ) (rows : List (List ℕ × V)) (i : ℕ) → IsAbove key rows → IsAbove key (take i rows)
  above-take key rows zero above = tt
  above-take key [] (suc i) above = tt
  above-take key (row ∷ rows) (suc i) above = (above.0, above-take key rows i above.1)

  pub rising_take : (rows : List (List ℕ × V)) (i : ℕ) → IsRising rows → IsRising (take i rows)
  rising_take rows zero rising = tt
  rising_take [] (suc i) rising = tt
  rising_take (row ∷ rows) (suc i) rising = (above-take row.0 rows i rising.0, rising_take rows i rising.1)

  above-front : (key : List ℕ) (front back : List (List ℕ × V)) → IsAbove key (front ++ back) → IsAbove key front
  above-front key [] back above = tt
  above-front key (row ∷ front) back above = (above.0, above-front key front back above.1)

  pub rising_front : (front back : List (List ℕ × V)) → IsRising (front ++ back) → IsRising front
  rising_front [] back rising = tt
  rising_front (row ∷ front) back rising = (above-front row.0 front back rising.0, rising_front front back rising.1)

  pub front_row : (rows : List (List ℕ × V)) (i : ℕ) (row : List ℕ × V) → i < length rows → row ≡ get_or rows i row → drop i rows ≡ row ∷ drop (i + 1) rows
  front_row rows i row lt is = rw add-one (drop-cons rows i row lt ∙ ap (λ (r : List ℕ × V). r ∷ drop (suc i) rows) (sym is))

  above-at : (key : List ℕ) (rows : List (List ℕ × V)) (i : ℕ) (row : List ℕ × V) → i < length rows → row ≡ get_or rows i row → IsAbove key rows → key_cmp key row.0 ≡ Less
  above-at key [] i row lt is above = absurd (omega arith)
  above-at key (first ∷ rows) zero row lt is above = rw is above.0
  above-at key (first ∷ rows) (suc i) row lt is above = above-at key rows i row (omega arith) is above.1

  -- the rows before one of them are below it
  pub below-row : (rows : List (List ℕ × V)) (i : ℕ) (row : List ℕ × V) → i < length rows → row ≡ get_or rows i row → IsRising rows → IsBelow (take i rows) row.0
  below-row [] i row lt is rising = absurd (omega arith)
  below-row (first ∷ rows) zero row lt is rising = tt
  below-row (first ∷ rows) (suc i) row lt is rising = (above-at first.0 rows i row (omega arith) is rising.0, below-row rows i row (omega arith) is rising.1)

  -- the rows after one of them are above it
  pub above-row : (rows : List (List ℕ × V)) (i : ℕ) (row : List ℕ × V) → i < length rows → row ≡ get_or rows i row → IsRising rows → IsAbove row.0 (drop (i + 1) rows)
  above-row rows i row lt is rising = (rw (front_row rows i row lt is) at (rising_drop rows i rising)).0

  -- ---- a row more, and a row less

  above_with : (low : List ℕ) (rows : List (List ℕ × V)) (key : List ℕ) (v : V) → IsAbove low rows → key_cmp low key ≡ Less → IsAbove low (with_value rows key v)
  above_with low [] key v above less = (less, tt)
  above_with low (row ∷ rows) key v above less =
      elim (key_cmp key row.0) as (λ o. IsAbove low (match_ordering o ((key, v) ∷ row ∷ rows) ((row.0, v) ∷ rows) (row ∷ with_value rows key v))) [
        | Less ↦ (less, above)
        | Equal ↦ above
        | Greater ↦ (above.0, above_with low rows key v above.1 less)
      ]

  pub rising_with : (rows : List (List ℕ × V)) (key : List ℕ) (v : V) → IsRising rows → IsRising (with_value rows key v)
  rising_with [] key v rising = (tt, tt)
  rising_with (row ∷ rows) key v rising =
      let cases : (o : Ordering) → key_cmp key row.0 ≡ o → IsRising (match_ordering o ((key, v) ∷ row ∷ rows) ((row.0, v) ∷ rows) (row ∷ with_value rows key v)) =
      λ o. elim o as (λ o. key_cmp key row.0 ≡ o → IsRising (match_ordering o ((key, v) ∷ row ∷ rows) ((row.0, v) ∷ rows) (row ∷ with_value rows key v))) [
        | Less ↦ λ h. ((h, above_lower key row.0 rows h rising.0), rising)
        | Equal ↦ λ h. rising
        | Greater ↦ λ h. (above_with row.0 rows key v rising.0 (below_of_above key row.0 h), rising_with rows key v rising.1)
      ]
      in cases (key_cmp key row.0) refl

  above_without : (low : List ℕ) (rows : List (List ℕ × V)) (key : List ℕ) → IsAbove low rows → IsAbove low (without_key rows key)
  above_without low [] key above = tt
  above_without low (row ∷ rows) key above =
      elim (key_cmp key row.0) as (λ o. IsAbove low (cond (is_eq o) rows (row ∷ without_key rows key))) [
        | Less ↦ (above.0, above_without low rows key above.1)
        | Equal ↦ above.1
        | Greater ↦ (above.0, above_without low rows key above.1)
      ]

  pub rising_without : (rows : List (List ℕ × V)) (key : List ℕ) → IsRising rows → IsRising (without_key rows key)
  rising_without [] key rising = tt
  rising_without (row ∷ rows) key rising =
      elim (key_cmp key row.0) as (λ o. IsRising (cond (is_eq o) rows (row ∷ without_key rows key))) [
        | Less ↦ (above_without row.0 rows key rising.0, rising_without rows key rising.1)
        | Equal ↦ rising.1
        | Greater ↦ (above_without row.0 rows key rising.0, rising_without rows key rising.1)
      ]
