-- Rows with changes, from a key on, read in order.
use Rattle.std.proofs.Common.{◌≡◌, ℕ, zero, suc, ◌+◌, ◌-◌, ◌<◌, ◌≤◌, Bool, true, false, List, [], ◌∷◌, ◌++◌, length, take, Option, Some, None, cond, refl, sym, ap, ◌∙◌, subst, arith, Ordering, Less, Equal, Greater, is_eq, is_lt, not, filter, unwrap_or, append_assoc, take_all, get_or, drop, length-take, min}
use Rattle.std.specs.List.{AllByRecursion}
use Rattle.std.proofs.lemmas.List.{drop_all, take_min}
use Rattle.std.proofs.lemmas.Map.Entries.{lookup-filter-keys}
use Rattle.vs_rows.specs.Pages.{IsPage}
use Rattle.vs_rows.specs.RowMap.{RowMap, key_cmp, IsRising, value_of, with_value, without_key, rows_below, rows_from, rows_above}
use Rattle.vs_rows.specs.Changes.{with_change, with_changes, row_of}
use Rattle.vs_rows.proofs.Rising.{IsAbove, IsBelow, above_lower, above_of_below, below_of_above, above-above, below-above, same_key, front_row, rising_drop, rising_take}
use Rattle.vs_rows.proofs.Values.{same_map}
use Rattle.vs_rows.proofs.Changed.{rising_changes, value-changes}

-- ---- lists of at most n

pub take-take_append : {A : Type 0} (n : ℕ) (xs ys : List A) → take n (take n xs ++ ys) ≡ take n (xs ++ ys)
take-take_append zero xs ys = refl
take-take_append (suc n) [] ys = refl
take-take_append (suc n) (x ∷ xs) ys = ap (λ (zs : List _). x ∷ zs) (take-take_append n xs ys)

pub append-take : {A : Type 0} (n : ℕ) (xs ys : List A) → length xs ≤ n → xs ++ take (n - length xs) ys ≡ take n (xs ++ ys)
append-take n [] ys le = let e : n - 0 ≡ n = omega arith in ap (λ k. take k ys) e
append-take zero (x ∷ xs) ys le = absurd (omega arith)
append-take (suc n) (x ∷ xs) ys le = let e : suc n - length (x ∷ xs) ≡ n - length xs = omega arith in ap (λ k. x ∷ (xs ++ take k ys)) e ∙ ap (λ (zs : List _). x ∷ zs) (append-take n xs ys (omega arith))

-- ---- rows whose keys pass a test

module _ {V : Type 0} (p : List ℕ → Bool) where
  above_filter : (low : List ℕ) (rows : List (List ℕ × V)) → IsAbove low rows → IsAbove low (filter (λ row. p row.0) rows)
  above_filter low [] above = tt
  above_filter low (row ∷ rows) above =
      elim (p row.0) as (λ b. IsAbove low (cond b (row ∷ filter (λ row. p row.0) rows) (filter (λ row. p row.0) rows))) [
        | true ↦ (above.0, above_filter low rows above.1)
        | false ↦ above_filter low rows above.1
      ]

  pub rising_filter : (rows : List (List ℕ × V)) → IsRising rows → IsRising (filter (λ row. p row.0) rows)
  rising_filter [] rising = tt
  rising_filter (row ∷ rows) rising =
      elim (p row.0) as (λ b. IsRising (cond b (row ∷ filter (λ row. p row.0) rows) (filter (λ row. p row.0) rows))) [
        | true ↦ (above_filter row.0 rows rising.0, rising_filter rows rising.1)
        | false ↦ rising_filter rows rising.1
      ]

equal_told : (o : Ordering) → is_eq o ≡ true → o ≡ Equal
equal_told Less h = cc
equal_told Equal h = refl
equal_told Greater h = cc

value-from : {V : Type 0} (rows : List (List ℕ × V)) (k q : List ℕ) → value_of (rows_from rows k) q ≡ cond (not (is_lt (key_cmp q k))) (value_of rows q) None
value-from rows k q =
    lookup-filter-keys (λ x. is_eq (key_cmp q x)) (λ x. not (is_lt (key_cmp x k))) (not (is_lt (key_cmp q k)))
    (λ x h. ap (λ r. not (is_lt (key_cmp r k))) (sym (same_key q x (equal_told (key_cmp q x) h)))) rows

-- the changes from a key on, made on the rows from that key on
pub from-changes : (m : RowMap) (cs : List (List ℕ × Option (List ℕ))) (k : List ℕ) → IsRising m → IsRising cs → rows_from (with_changes m cs) k ≡ with_changes (rows_from m k) (rows_from cs k)
from-changes m cs k rising up =
    let p : List ℕ → Bool = λ x. not (is_lt (key_cmp x k)) in
    let m_up = rising_filter p m rising in
    let cs_up = rising_filter p cs up in
    same_map (rows_from (with_changes m cs) k) (with_changes (rows_from m k) (rows_from cs k)) (rising_filter p (with_changes m cs) (rising_changes m cs rising)) (rising_changes (rows_from m k) (rows_from cs k) m_up)
    (λ q. value-from (with_changes m cs) k q
    ∙ ap (λ o. cond (p q) o None) (value-changes m cs q rising up)
    ∙ elim (p q) as (λ b. cond b (unwrap_or (value_of cs q) (value_of m q)) None ≡ unwrap_or (cond b (value_of cs q) None) (cond b (value_of m q) None)) [ true ↦ refl | false ↦ refl ]
    ∙ ap (λ o. unwrap_or o (cond (p q) (value_of m q) None)) (sym (value-from cs k q))
    ∙ ap (λ o. unwrap_or (value_of (rows_from cs k) q) o) (sym (value-from m k q))
    ∙ sym (value-changes (rows_from m k) (rows_from cs k) q m_up cs_up))

-- ---- the first change, and what stands below it and above it

below_below : {V : Type 0} (rows : List (List ℕ × V)) (k : List ℕ) → IsBelow (rows_below rows k) k
below_below [] k = tt
below_below (row ∷ rows) k =
    elim (key_cmp row.0 k) as (λ o. key_cmp row.0 k ≡ o → IsBelow (cond (is_lt o) (row ∷ rows_below rows k) (rows_below rows k)) k) [
      | Less ↦ λ h. (h, below_below rows k)
      | Equal ↦ λ h. below_below rows k
      | Greater ↦ λ h. below_below rows k
    ] refl

with-split : (m : RowMap) (k v : List ℕ) → IsRising m → with_value m k v ≡ rows_below m k ++ (k, v) ∷ rows_above m (Some k)
with-split [] k v rising = refl
with-split (row ∷ m) k v rising = by (key_cmp k row.0) refl (with-split m k v rising.1)
  where
    by : (o : Ordering) → key_cmp k row.0 ≡ o → with_value m k v ≡ rows_below m k ++ (k, v) ∷ rows_above m (Some k) → with_value (row ∷ m) k v ≡ rows_below (row ∷ m) k ++ (k, v) ∷ rows_above (row ∷ m) (Some k)
    by Less h rest =
        let higher = above_lower k row.0 m h rising.0 in
        rw (h, above_of_below k row.0 h, below-above k m higher) (ap (λ (rs : RowMap). (k, v) ∷ row ∷ rs) (sym (above-above k m higher)))
    by Equal h rest =
        let key : row.0 ≡ k = sym (same_key k row.0 h) in
        let higher : IsAbove k m = subst (λ r. IsAbove r m) key rising.0 in
        let back : key_cmp row.0 k ≡ Equal = rw key (subst (λ r. key_cmp k r ≡ Equal) key h) in
        rw (h, back, below-above k m higher) ((λ i. (key i, v) ∷ m) ∙ ap (λ (rs : RowMap). (k, v) ∷ rs) (sym (above-above k m higher)))
    by Greater h rest = rw (h, below_of_above k row.0 h) (ap (λ (rs : RowMap). row ∷ rs) rest)

without-split : (m : RowMap) (k : List ℕ) → IsRising m → without_key m k ≡ rows_below m k ++ rows_above m (Some k)
without-split [] k rising = refl
without-split (row ∷ m) k rising = by (key_cmp k row.0) refl (without-split m k rising.1)
  where
    by : (o : Ordering) → key_cmp k row.0 ≡ o → without_key m k ≡ rows_below m k ++ rows_above m (Some k) → without_key (row ∷ m) k ≡ rows_below (row ∷ m) k ++ rows_above (row ∷ m) (Some k)
    by Less h rest =
        let higher = above_lower k row.0 m h rising.0 in
        let none = below-above k m higher in
        let all = above-above k m higher in
        rw (h, above_of_below k row.0 h, none) (ap (λ (rs : RowMap). row ∷ rs) (rest ∙ ap (λ (bs : RowMap). bs ++ rows_above m (Some k)) none))
    by Equal h rest =
        let key : row.0 ≡ k = sym (same_key k row.0 h) in
        let higher : IsAbove k m = subst (λ r. IsAbove r m) key rising.0 in
        let back : key_cmp row.0 k ≡ Equal = rw key (subst (λ r. key_cmp k r ≡ Equal) key h) in
        rw (h, back, below-above k m higher) (sym (above-above k m higher))
    by Greater h rest = rw (h, below_of_above k row.0 h) (ap (λ (rs : RowMap). row ∷ rs) rest)

change-split : (m : RowMap) (c : List ℕ × Option (List ℕ)) → IsRising m → with_change m c ≡ rows_below m c.0 ++ (row_of c ++ rows_above m (Some c.0))
change-split m (k, None) rising = without-split m k rising
change-split m (k, Some v) rising = with-split m k v rising

change-cons : (row : List ℕ × List ℕ) (rows : RowMap) (c : List ℕ × Option (List ℕ)) → key_cmp row.0 c.0 ≡ Less → with_change (row ∷ rows) c ≡ row ∷ with_change rows c
change-cons row rows (k, None) less = rw (above_of_below row.0 k less) refl
change-cons row rows (k, Some v) less = rw (above_of_below row.0 k less) refl

changes-cons : (row : List ℕ × List ℕ) (rows : RowMap) (cs : List (List ℕ × Option (List ℕ))) → IsAbove row.0 cs → with_changes (row ∷ rows) cs ≡ row ∷ with_changes rows cs
changes-cons row rows [] above = refl
changes-cons row rows (c ∷ cs) above = ap (λ m. with_changes m cs) (change-cons row rows c above.0) ∙ changes-cons row (with_change rows c) cs above.1

-- rows below all changes stay
changes-append : (front back : RowMap) (cs : List (List ℕ × Option (List ℕ))) → AllByRecursion (λ row. IsAbove row.0 cs) front → with_changes (front ++ back) cs ≡ front ++ with_changes back cs
changes-append [] back cs above = refl
changes-append (row ∷ front) back cs above = changes-cons row (front ++ back) cs above.0 ∙ ap (λ (rs : RowMap). row ∷ rs) (changes-append front back cs above.1)

all_lower : (front : RowMap) (k : List ℕ) (cs : List (List ℕ × Option (List ℕ))) → IsBelow front k → IsAbove k cs → AllByRecursion (λ row. IsAbove row.0 cs) front
all_lower [] k cs below above = tt
all_lower (row ∷ front) k cs below above = (above_lower row.0 k cs below.0 above, all_lower front k cs below.1 above)

row_lower : (c : List ℕ × Option (List ℕ)) (cs : List (List ℕ × Option (List ℕ))) → IsAbove c.0 cs → AllByRecursion (λ row. IsAbove row.0 cs) (row_of c)
row_lower (k, None) cs above = tt
row_lower (k, Some v) cs above = (above, tt)

-- what stands below the first change, the row that it leaves, and the other changes made on what stands above
pub changes-split : (m : RowMap) (c : List ℕ × Option (List ℕ)) (cs : List (List ℕ × Option (List ℕ))) → IsRising m → IsRising (c ∷ cs) → with_changes m (c ∷ cs) ≡ rows_below m c.0 ++ (row_of c ++ with_changes (rows_above m (Some c.0)) cs)
changes-split m c cs rising up =
    ap (λ rs. with_changes rs cs) (change-split m c rising)
    ∙ changes-append (rows_below m c.0) (row_of c ++ rows_above m (Some c.0)) cs (all_lower (rows_below m c.0) c.0 cs (below_below m c.0) up.0)
    ∙ ap (λ (rs : RowMap). rows_below m c.0 ++ rs) (changes-append (row_of c) (rows_above m (Some c.0)) cs (row_lower c cs up.0))

-- reading a change: what stands below it, and the row that it leaves, up to n rows in all
pub read_more : (n : ℕ) (read m : RowMap) (cs : List (List ℕ × Option (List ℕ))) (j : ℕ) (c : List ℕ × Option (List ℕ)) (read1 read2 : RowMap) → j < length cs → c ≡ get_or cs j c → IsRising m → IsRising cs
    → read1 ≡ take n (read ++ rows_below m c.0) → read2 ≡ take n (read1 ++ row_of c)
    → take n (read2 ++ with_changes (rows_above m (Some c.0)) (drop (j + 1) cs)) ≡ take n (read ++ with_changes m (drop j cs))
read_more n read m cs j c read1 read2 lt is rising up one two =
    let later = drop (j + 1) cs in
    let rest = with_changes (rows_above m (Some c.0)) later in
    let front : drop j cs ≡ c ∷ later = front_row cs j c lt is in
    let up' : IsRising (c ∷ later) = subst IsRising front (rising_drop cs j up) in
    ap (λ rs. take n (rs ++ rest)) two
    ∙ take-take_append n (read1 ++ row_of c) rest
    ∙ ap (take n) (append_assoc read1 (row_of c) rest)
    ∙ ap (λ rs. take n (rs ++ (row_of c ++ rest))) one
    ∙ take-take_append n (read ++ rows_below m c.0) (row_of c ++ rest)
    ∙ ap (take n) (append_assoc read (rows_below m c.0) (row_of c ++ rest) ∙ ap (λ rs. read ++ rs) (sym (changes-split m c later rising up')))
    ∙ ap (λ ds. take n (read ++ with_changes m ds)) (sym front)

-- after the last change all rows that are left are read
pub read_all : (n : ℕ) (m : RowMap) (cs : List (List ℕ × Option (List ℕ))) (k : List ℕ) (read rest read1 : RowMap) (j : ℕ) → IsRising m → IsRising cs → length (rows_from cs k) ≤ j
    → take n (read ++ with_changes rest (drop j (rows_from cs k))) ≡ take n (with_changes (rows_from m k) (rows_from cs k))
    → read1 ≡ take n (read ++ rest) → read1 ≡ take n (rows_from (with_changes m cs) k)
read_all n m cs k read rest read1 j rising up le before is =
    is
    ∙ ap (λ ds. take n (read ++ with_changes rest ds)) (sym (drop_all j (rows_from cs k) le))
    ∙ before
    ∙ ap (take n) (sym (from-changes m cs k rising up))

-- so many rows make a page
pub page-from : (n : ℕ) (m : RowMap) (cs : List (List ℕ × Option (List ℕ))) (k : List ℕ) (read : RowMap) → n ≤ 1000 → IsRising m → read ≡ take n (rows_from (with_changes m cs) k) → IsPage read
page-from n m cs k read le rising is = subst IsPage (sym is) (record {
  rising = rising_take (rows_from (with_changes m cs) k) n (rising_filter (λ x. not (is_lt (key_cmp x k))) (with_changes m cs) (rising_changes m cs rising));
  short = omega (arith, length-take n (rows_from (with_changes m cs) k));
})

-- as many rows as there is place for
pub read_upto : (n : ℕ) (before rows : RowMap) (count : ℕ) (after : RowMap) (j : ℕ) → length before ≤ n → count ≡ min (length rows) (n - length before) → length (take count rows) ≤ j → after ≡ before ++ take j (take count rows) → after ≡ take n (before ++ rows)
read_upto n before rows count after j le is end read =
    let upto : count ≡ min (n - length before) (length rows) = omega arith in
    read
    ∙ ap (λ rs. before ++ rs) (take_all j (take count rows) end ∙ ap (λ k. take k rows) upto ∙ take_min (n - length before) rows)
    ∙ append-take n before rows le
