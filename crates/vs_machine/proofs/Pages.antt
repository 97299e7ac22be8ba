-- A page of rows joins the rows that were taken before.
use Rattle.std.proofs.Common.{◌≡◌, ℕ, refl, sym, ap, subst, ◌∙◌, arith, List, [], ◌∷◌, ◌++◌, length, take, drop, Option, Some, None, append_assoc, Ordering, Less, Equal, Greater}
use Rattle.std.specs.Prelude.{◌≢◌}
use Rattle.std.proofs.lemmas.List.{append-nil, take-append-drop, length-take}
use Rattle.vs_rows.specs.RowMap.{RowMap, IsRising, key_cmp, with_value, with_rows, rows_above}
use Rattle.vs_rows.proofs.Rising.{IsAbove, IsBelow, above_of_below, below_of_above, above_lower, key_itself, with-append, rising_front}
use Rattle.vs_rows.proofs.Pushed.{below_pushed}
use Rattle.vs_machine.specs.Kinds.Sender.{next_page, last_key}
use Rattle.vs_machine.specs.Inner.Copying.{rows_to}

abbrev Row : Type 0
Row = List ℕ × List ℕ

-- of rows above a key none is up to it
to-above : (k : List ℕ) (rows : RowMap) → IsAbove k rows → rows_to rows (Some k) ≡ []
to-above k [] above = refl
to-above k (row ∷ rows) above = rw (above_of_below k row.0 above.0) (to-above k rows above.1)

above-above' : (k : List ℕ) (rows : RowMap) → IsAbove k rows → rows_above rows (Some k) ≡ rows
above-above' k [] above = refl
above-above' k (row ∷ rows) above = rw (above_of_below k row.0 above.0) (ap (λ (rs : RowMap). row ∷ rs) (above-above' k rows above.1))

-- the rows up to a key and those above it are all rows
pub to_and_above : (k : List ℕ) (m : RowMap) → IsRising m → rows_to m (Some k) ++ rows_above m (Some k) ≡ m
to_and_above k [] rising = refl
to_and_above k (row ∷ rows) rising = by (to_and_above k rows rising.1) (key_cmp row.0 k) refl
  where
    by : rows_to rows (Some k) ++ rows_above rows (Some k) ≡ rows → (o : Ordering) → key_cmp row.0 k ≡ o → rows_to (row ∷ rows) (Some k) ++ rows_above (row ∷ rows) (Some k) ≡ row ∷ rows
    by rest Less is = rw is (ap (λ (rs : RowMap). row ∷ rs) rest)
    by rest Equal is = rw is (ap (λ (rs : RowMap). row ∷ rs) rest)
    by rest Greater is =
        let above : IsAbove k rows = above_lower k row.0 rows (below_of_above row.0 k is) rising.0 in
        rw (is, to-above k rows above, above-above' k rows above) refl

-- where none is above, all are up to it
pub all_to : (k : List ℕ) (m : RowMap) → IsRising m → rows_above m (Some k) ≡ [] → rows_to m (Some k) ≡ m
all_to k m rising none = sym (append-nil (rows_to m (Some k))) ∙ ap (λ (rs : RowMap). rows_to m (Some k) ++ rs) (sym none) ∙ to_and_above k m rising

-- rows that come after all others are added at the end
pub with_rows-after : (base page : RowMap) → IsRising (base ++ page) → with_rows base page ≡ base ++ page
with_rows-after base [] rising = sym (append-nil base)
with_rows-after base (row ∷ page) rising =
    let joined : (base ++ row ∷ []) ++ page ≡ base ++ row ∷ page = append_assoc base (row ∷ []) page in
    let rises : IsRising ((base ++ row ∷ []) ++ page) = subst IsRising (sym joined) rising in
    let below : IsBelow base row.0 = below_pushed base row (rising_front (base ++ row ∷ []) page rises) in
    let one : with_value base row.0 row.1 ≡ base ++ row ∷ [] = ap (λ (rs : RowMap). with_value rs row.0 row.1) (sym (append-nil base)) ∙ with-append row.0 row.1 base [] below in
    ap (λ (rs : RowMap). with_rows rs page) one ∙ with_rows-after (base ++ row ∷ []) page rises ∙ joined

-- ---- the last key of a page

-- a list with an item has a last one
pub record HasEnd (rows : RowMap) : Type 0 where
  pub front : RowMap
  pub end_row : Row
  pub split : rows ≡ front ++ end_row ∷ []
  pub key : last_key rows ≡ Some end_row.0

pub end_of : (row : Row) (rows : RowMap) → HasEnd (row ∷ rows)
end_of row [] = record { front = []; end_row = row; split = refl; key = refl }
end_of row (next ∷ rows) =
    let later = end_of next rows in
    record { front = row ∷ later.front; end_row = later.end_row; split = ap (λ (rs : RowMap). row ∷ rs) later.split; key = later.key }

above_in : (k : List ℕ) (front : RowMap) (row : Row) (back : RowMap) → IsAbove k (front ++ row ∷ back) → key_cmp k row.0 ≡ Less
above_in k [] row back above = above.0
above_in k (f ∷ front) row back above = above_in k front row back above.1

-- the rows up to the key of a row are those before it, and it
pub up_to_row : (front : RowMap) (row : Row) (back : RowMap) → IsRising (front ++ row ∷ back) → rows_to (front ++ row ∷ back) (Some row.0) ≡ front ++ row ∷ []
up_to_row [] row back rising = rw (key_itself row.0, to-above row.0 back rising.0) refl
up_to_row (f ∷ front) row back rising = rw (above_in f.0 front row back rising.0) (ap (λ (rs : RowMap). f ∷ rs) (up_to_row front row back rising.1))

-- all rows are those up to a key, or none, and those above
pub parts_of : (m : RowMap) (j : Option (List ℕ)) → IsRising m → rows_to m j ++ rows_above m j ≡ m
parts_of m None rising = refl
parts_of m (Some k) rising = to_and_above k m rising

-- once the next page is set, the rows up to its last key are there
pub page_joins : (m : RowMap) (j : Option (List ℕ)) (page : RowMap) → IsRising m → page ≡ next_page m j → page ≢ [] → with_rows (rows_to m j) page ≡ rows_to m (last_key page)
page_joins m j [] rising is some = absurd (some refl)
page_joins m j (row ∷ rows) rising is some =
    let page : RowMap = row ∷ rows in
    let base = rows_to m j in
    let rest = drop 1000 (rows_above m j) in
    let e = end_of row rows in
    let whole : base ++ (page ++ rest) ≡ m = ap (λ (rs : RowMap). base ++ rs) (ap (λ (rs : RowMap). rs ++ rest) is ∙ take-append-drop 1000 (rows_above m j)) ∙ parts_of m j rising in
    let joined : (base ++ page) ++ rest ≡ m = append_assoc base page rest ∙ whole in
    let rises : IsRising (base ++ page) = rising_front (base ++ page) rest (subst IsRising (sym joined) rising) in
    let ended : base ++ page ≡ (base ++ e.front) ++ e.end_row ∷ [] = ap (λ (rs : RowMap). base ++ rs) e.split ∙ sym (append_assoc base e.front (e.end_row ∷ [])) in
    let split : (base ++ e.front) ++ e.end_row ∷ rest ≡ m = sym (append_assoc (base ++ e.front) (e.end_row ∷ []) rest) ∙ ap (λ (rs : RowMap). rs ++ rest) (sym ended) ∙ joined in
    let up : rows_to m (Some e.end_row.0) ≡ (base ++ e.front) ++ e.end_row ∷ [] =
    subst (λ (rs : RowMap). rows_to rs (Some e.end_row.0) ≡ (base ++ e.front) ++ e.end_row ∷ []) split (up_to_row (base ++ e.front) e.end_row rest (subst IsRising (sym split) rising)) in
    with_rows-after base page rises ∙ ended ∙ sym up ∙ ap (rows_to m) (sym e.key)

-- an empty page says that nothing is above
pub no_more : (m : RowMap) (j : Option (List ℕ)) → next_page m j ≡ [] → rows_above m j ≡ []
no_more m j none = by (rows_above m j) none
  where
    by : (rows : RowMap) → take 1000 rows ≡ [] → rows ≡ []
    by [] e = refl
    by (r ∷ rows) e = absurd (omega (arith, ap length e, length-take 1000 (r ∷ rows)))
