-- Rows above those before them.
use Rattle.std.proofs.Common.{◌≡◌, ℕ, zero, suc, ◌+◌, ◌-◌, ◌<◌, ◌≤◌, Bool, true, false, List, [], ◌∷◌, ◌++◌, length, length-append, Some, get_or, refl, sym, ap, ◌∙◌, subst, arith, Ordering, Less, Equal, Greater, is_lt, slice_get}
use Rattle.std.specs.List.{AllByRecursion}
use Rattle.std.specs.Ordering.{ordering_reverse}
use Rattle.std.specs.Cmp.Lexicographic.{nat_list_cmp_total}
use Rattle.std.proofs.lemmas.Bool.{and_parts}
use Rattle.std.proofs.lemmas.List.Folds.{list_all_at}
use Rattle.std.proofs.lemmas.Option.{slice_get_within, get_or_from_slice_get}
use Rattle.vs_rows.specs.Pages.{IsPage}
use Rattle.vs_rows.specs.RowMap.{RowMap, key_cmp, IsRising, with_value, with_rows}
use Rattle.vs_audit.specs.Operations.{is_above}

lt_told : (o : Ordering) → is_lt o ≡ true → o ≡ Less
lt_told Less h = refl
lt_told Equal h = cc
lt_told Greater h = cc

-- ---- the last key tells of all

at_of : (low : List ℕ) (rows : RowMap) (i : ℕ) (row : List ℕ × List ℕ) → AllByRecursion (λ later. key_cmp low later.0 ≡ Less) rows → slice_get rows i ≡ Some row → key_cmp low row.0 ≡ Less
at_of low [] i row above at = cc
at_of low (first ∷ rows) zero row above at = let e : first ≡ row = cc in subst (λ r. key_cmp low r.0 ≡ Less) e above.0
at_of low (first ∷ rows) (suc i) row above at = at_of low rows i row above.1 at

above_all : (rows : RowMap) (key : List ℕ) (i : ℕ) (last : List ℕ × List ℕ) → IsRising rows → i + 1 ≡ length rows → slice_get rows i ≡ Some last → key_cmp last.0 key ≡ Less → is_above rows key ≡ true
above_all [] key i last rising end at less = absurd (omega arith)
above_all (row ∷ []) key zero last rising end at less =
    let e : row ≡ last = cc in
    rw (e, less) refl
above_all (row ∷ []) key (suc i) last rising end at less = absurd (omega arith)
above_all (row ∷ next ∷ rows) key zero last rising end at less = absurd (omega arith)
above_all (row ∷ next ∷ rows) key (suc i) last rising end at less =
    let others : is_above (next ∷ rows) key ≡ true = above_all (next ∷ rows) key i last rising.1 (omega arith) at less in
    let first : key_cmp row.0 key ≡ Less = nat_list_cmp_total.trans row.0 last.0 key (at_of row.0 (next ∷ rows) i last rising.0 at) less in
    rw first others

pub above_last : (rows : RowMap) (key : List ℕ) (last : List ℕ × List ℕ) (b : Bool) → IsRising rows → slice_get rows (length rows - 1) ≡ Some last → b ≡ is_lt (key_cmp last.0 key) → b ≡ is_above rows key
above_last rows key last true rising at is =
    let within = slice_get_within rows (length rows - 1) last at in
    sym (above_all rows key (length rows - 1) last rising (omega arith) at (lt_told (key_cmp last.0 key) (sym is)))
above_last rows key last false rising at is =
    let within = slice_get_within rows (length rows - 1) last at in
    let there : is_lt (key_cmp (get_or rows (length rows - 1) last).0 key) ≡ false = rw (get_or_from_slice_get rows (length rows - 1) last last at) (sym is) in
    sym (list_all_at (λ row. is_lt (key_cmp row.0 key)) rows (length rows - 1) last within there)

-- ---- a row above all others stands behind them

pub put_above : (rows : RowMap) (key : List ℕ) (value : List ℕ) → is_above rows key ≡ true → with_value rows key value ≡ rows ++ (key, value) ∷ []
put_above [] key value above = refl
put_above (row ∷ rows) key value above =
    let parts = and_parts (is_lt (key_cmp row.0 key)) (is_above rows key) above in
    let less = lt_told (key_cmp row.0 key) parts.0 in
    let greater : key_cmp key row.0 ≡ Greater = nat_list_cmp_total.antisymm key row.0 ∙ ap ordering_reverse less in
    rw greater (ap (λ (rs : RowMap). row ∷ rs) (put_above rows key value parts.1))

pub page_above : (old kept new page : RowMap) (row : List ℕ × List ℕ) → kept ≡ old → new ≡ with_rows kept page → page ≡ row ∷ [] → is_above old row.0 ≡ true → new ≡ old ++ row ∷ []
page_above old kept new page row same is one above =
    is ∙ ap (λ (r : RowMap). with_rows r page) same ∙ ap (λ (p : RowMap). with_rows old p) one ∙ put_above old row.0 row.1 above

-- ---- rows with one more above them rise

all_more : (P : List ℕ × List ℕ → Type 0) (rows : RowMap) (row : List ℕ × List ℕ) → AllByRecursion P rows → P row → AllByRecursion P (rows ++ row ∷ [])
all_more P [] row all is = (is, tt)
all_more P (first ∷ rows) row all is = (all.0, all_more P rows row all.1 is)

rising_more : (rows : RowMap) (row : List ℕ × List ℕ) → IsRising rows → is_above rows row.0 ≡ true → IsRising (rows ++ row ∷ [])
rising_more [] row rising above = (tt, tt)
rising_more (first ∷ rows) row rising above =
    let parts = and_parts (is_lt (key_cmp first.0 row.0)) (is_above rows row.0) above in
    (all_more (λ later. key_cmp first.0 later.0 ≡ Less) rows row rising.0 (lt_told (key_cmp first.0 row.0) parts.0), rising_more rows row rising.1 parts.1)

pub rising_with : (old new : RowMap) (row : List ℕ × List ℕ) → new ≡ old ++ row ∷ [] → IsRising old → is_above old row.0 ≡ true → IsRising new
rising_with old new row added rising above = subst (λ (rows : RowMap). IsRising rows) (sym added) (rising_more old row rising above)

pub page_with : (old kept : RowMap) (row : List ℕ × List ℕ) (n count : ℕ) → kept ≡ old → IsRising old → is_above old row.0 ≡ true → length old ≡ n → n < count → count ≤ 1000 → IsPage (kept ++ row ∷ [])
page_with old kept row n count same rising above short within most =
    subst (λ (rows : RowMap). IsPage (rows ++ row ∷ [])) (sym same) (record { rising = rising_more old row rising above; short = omega (arith, length-append old (row ∷ [])) })
