-- A pair more at the end of rows that rise.
use Rattle.std.proofs.Common.{◌≡◌, ℕ, zero, suc, ◌+◌, ◌-◌, ◌<◌, ◌≤◌, Bool, true, List, [], ◌∷◌, ◌++◌, length, take, Some, refl, sym, ap, ◌∙◌, subst, arith, length-append, take_all, Ordering, Less, Equal, Greater, is_lt, IsTrue, ◌↔◌, slice_get}
use Rattle.std.proofs.lemmas.Option.{slice_get_within, get_or_from_slice_get}
use Rattle.vs_rows.specs.RowMap.{RowMap, key_cmp, IsRising}
use Rattle.vs_rows.specs.Pages.{IsPage}
use Rattle.vs_rows.proofs.Rising.{IsAbove, IsBelow}
use Rattle.vs_rows.proofs.Placed.{below-upto}

module _ {V : Type 0} where
  above_push : (low : List ℕ) (rows : List (List ℕ × V)) (row : List ℕ × V) → IsAbove low rows → key_cmp low row.0 ≡ Less → IsAbove low (rows ++ row ∷ [])
  above_push low [] row above less = (less, tt)
  above_push low (first ∷ rows) row above less = (above.0, above_push low rows row above.1 less)

  pub rising_push : (rows : List (List ℕ × V)) (row : List ℕ × V) → IsRising rows → IsBelow rows row.0 → IsRising (rows ++ row ∷ [])
  rising_push [] row rising below = (tt, tt)
  rising_push (first ∷ rows) row rising below = (above_push first.0 rows row rising.0 below.0, rising_push rows row rising.1 below.1)

  above_pushed : (low : List ℕ) (rows : List (List ℕ × V)) (row : List ℕ × V) → IsAbove low (rows ++ row ∷ []) → key_cmp low row.0 ≡ Less
  above_pushed low [] row above = above.0
  above_pushed low (first ∷ rows) row above = above_pushed low rows row above.1

  pub below_pushed : (rows : List (List ℕ × V)) (row : List ℕ × V) → IsRising (rows ++ row ∷ []) → IsBelow rows row.0
  below_pushed [] row rising = tt
  below_pushed (first ∷ rows) row rising = (above_pushed first.0 rows row rising.0, below_pushed rows row rising.1)

  below_at : (rows : List (List ℕ × V)) (key : List ℕ) (i : ℕ) (row : List ℕ × V) → IsBelow rows key → slice_get rows i ≡ Some row → key_cmp row.0 key ≡ Less
  below_at [] key i row below at = cc
  below_at (first ∷ rows) key zero row below at = let e : first ≡ row = cc in subst (λ r. key_cmp r.0 key ≡ Less) e below.0
  below_at (first ∷ rows) key (suc i) row below at = below_at rows key i row below.1 at

  -- rows whose last key is below a key are below it
  below_last : (rows : List (List ℕ × V)) (key : List ℕ) (last : List ℕ × V) → IsRising rows → slice_get rows (length rows - 1) ≡ Some last → key_cmp last.0 key ≡ Less → IsBelow rows key
  below_last rows key last rising at less =
      let lt = slice_get_within rows (length rows - 1) last at in
      let all : take (length rows - 1 + 1) rows ≡ rows = take_all _ rows (omega arith) in
      subst (λ rs. IsBelow rs key) all (below-upto rows key (length rows - 1) last lt (sym (get_or_from_slice_get rows (length rows - 1) last last at)) less rising)

lt_told : (o : Ordering) → is_lt o ≡ true → o ≡ Less
lt_told Less h = refl
lt_told Equal h = cc
lt_told Greater h = cc

-- a pair fits at the end exactly where its key is above the last
pub fits_after : (pairs : RowMap) (key : List ℕ) (last : List ℕ × List ℕ) (b : Bool) → IsPage pairs → length pairs < 1000 → slice_get pairs (length pairs - 1) ≡ Some last → b ≡ is_lt (key_cmp last.0 key) → IsTrue b ↔ ((v : List ℕ) → IsPage (pairs ++ (key, v) ∷ []))
fits_after pairs key last b page short at is = (fits, told)
  where
    fits : IsTrue b → (v : List ℕ) → IsPage (pairs ++ (key, v) ∷ [])
    fits h v = record {
      rising = rising_push pairs (key, v) page.rising (below_last pairs key last page.rising at (lt_told (key_cmp last.0 key) (sym is ∙ h)));
      short = omega (arith, length-append pairs ((key, v) ∷ []));
    }

    told : ((v : List ℕ) → IsPage (pairs ++ (key, v) ∷ [])) → IsTrue b
    told h = is ∙ ap is_lt (below_at pairs key (length pairs - 1) last (below_pushed pairs (key, []) (h []).rising) at)

-- no pair fits after a thousand
pub full : (pairs : RowMap) (key : List ℕ) → 1000 ≤ length pairs → ((v : List ℕ) → IsPage (pairs ++ (key, v) ∷ [])) → ⊥
full pairs key long h = omega (arith, length-append pairs ((key, []) ∷ []), (h []).short)
