-- Rows with changes.
use Rattle.std.proofs.Common.{◌≡◌, ℕ, ◌+◌, ◌<◌, false, List, [], ◌∷◌, ◌++◌, length, get_or, take, Option, Some, None, cond, refl, sym, ap, ◌∙◌, arith, Less, Equal, Greater, is_eq, unwrap_or, append-nil, is_some}
use Rattle.std.proofs.lemmas.List.{take_more}
use Rattle.vs_rows.specs.RowMap.{RowMap, key_cmp, IsRising, value_of, with_value, without_key}
use Rattle.vs_rows.specs.Changes.{with_change, with_changes}
use Rattle.vs_rows.proofs.Rising.{rising_with, rising_without, value-above, value-append, same_key, below-row, rising_take}
use Rattle.vs_rows.proofs.Values.{value-with_same, value-with_other, value-without_same, value-without_other, same_map, length-with_new, length-with_old, length-without_old, without_absent}

-- a key, with the value that it gets
abbrev Change : Type 0
Change = List ℕ × Option (List ℕ)

pub rising_change : (m : RowMap) (c : Change) → IsRising m → IsRising (with_change m c)
rising_change m (k, None) rising = rising_without m k rising
rising_change m (k, Some v) rising = rising_with m k v rising

pub rising_changes : (m : RowMap) (cs : List Change) → IsRising m → IsRising (with_changes m cs)
rising_changes m [] rising = rising
rising_changes m (c ∷ cs) rising = rising_changes (with_change m c) cs (rising_change m c rising)

-- ---- look-ups

value-change_same : (m : RowMap) (c : Change) → IsRising m → value_of (with_change m c) c.0 ≡ c.1
value-change_same m (k, None) rising = value-without_same m k rising
value-change_same m (k, Some v) rising = value-with_same m k v

value-change_other : (m : RowMap) (c : Change) (q : List ℕ) → is_eq (key_cmp q c.0) ≡ false → value_of (with_change m c) q ≡ value_of m q
value-change_other m (k, None) q ne = value-without_other m k q ne
value-change_other m (k, Some v) q ne = value-with_other m k v q ne

-- a key has what its change gives it, and without a change what it had
pub value-changes : (m : RowMap) (cs : List Change) (q : List ℕ) → IsRising m → IsRising cs → value_of (with_changes m cs) q ≡ unwrap_or (value_of cs q) (value_of m q)
value-changes m [] q rising up = refl
value-changes m (c ∷ cs) q rising up =
    value-changes (with_change m c) cs q (rising_change m c rising) up.1
    ∙ elim (key_cmp q c.0) as (λ o. key_cmp q c.0 ≡ o → unwrap_or (value_of cs q) (value_of (with_change m c) q) ≡ unwrap_or (cond (is_eq o) (Some c.1) (value_of cs q)) (value_of m q)) [
      | Less ↦ λ e. ap (unwrap_or (value_of cs q)) (value-change_other m c q (rw e refl))
      | Equal ↦ λ e.
          let here : q ≡ c.0 = same_key q c.0 e in
          rw here (ap (λ o. unwrap_or o (value_of (with_change m c) c.0)) (value-above c.0 cs up.0) ∙ value-change_same m c rising)
      | Greater ↦ λ e. ap (unwrap_or (value_of cs q)) (value-change_other m c q (rw e refl))
    ] refl

pub value_changed : (m : RowMap) (cs : List Change) (q : List ℕ) (d : Option (List ℕ)) → IsRising m → IsRising cs → Some d ≡ value_of cs q → value_of (with_changes m cs) q ≡ d
value_changed m cs q d rising up is = value-changes m cs q rising up ∙ ap (λ o. unwrap_or o (value_of m q)) (sym is)

pub value_unchanged : (m : RowMap) (cs : List Change) (q : List ℕ) → IsRising m → IsRising cs → None ≡ value_of cs q → value_of (with_changes m cs) q ≡ value_of m q
value_unchanged m cs q rising up is = value-changes m cs q rising up ∙ ap (λ o. unwrap_or o (value_of m q)) (sym is)

-- a change set among the changes is made last
pub changes_set : (m : RowMap) (cs : List Change) (c : Change) → IsRising m → IsRising cs → with_changes m (with_value cs c.0 c.1) ≡ with_change (with_changes m cs) c
changes_set m cs c rising up =
    let after = rising_changes m cs rising in
    let set = rising_with cs c.0 c.1 up in
    same_map (with_changes m (with_value cs c.0 c.1)) (with_change (with_changes m cs) c) (rising_changes m (with_value cs c.0 c.1) rising) (rising_change (with_changes m cs) c after)
    (λ q. value-changes m (with_value cs c.0 c.1) q rising set
    ∙ elim (key_cmp q c.0) as (λ o. key_cmp q c.0 ≡ o → unwrap_or (value_of (with_value cs c.0 c.1) q) (value_of m q) ≡ value_of (with_change (with_changes m cs) c) q) [
      | Less ↦ λ e. other q (rw e refl)
      | Equal ↦ λ e.
          let here : q ≡ c.0 = same_key q c.0 e in
          rw here (ap (λ o. unwrap_or o (value_of m c.0)) (value-with_same cs c.0 c.1) ∙ sym (value-change_same (with_changes m cs) c after))
      | Greater ↦ λ e. other q (rw e refl)
    ] refl)
  where
    other : (q : List ℕ) → is_eq (key_cmp q c.0) ≡ false → unwrap_or (value_of (with_value cs c.0 c.1) q) (value_of m q) ≡ value_of (with_change (with_changes m cs) c) q
    other q ne =
        ap (λ o. unwrap_or o (value_of m q)) (value-with_other cs c.0 c.1 q ne)
        ∙ sym (value-changes m cs q rising up)
        ∙ sym (value-change_other (with_changes m cs) c q ne)

-- ---- how many rows

pub changes-push : (m : RowMap) (cs : List Change) (c : Change) → with_changes m (cs ++ c ∷ []) ≡ with_change (with_changes m cs) c
changes-push m [] c = refl
changes-push m (d ∷ cs) c = changes-push (with_change m d) cs c

-- the next change, made on the rows with those before it, finds what it would find on the rows alone
module _ (m : RowMap) (cs : List Change) (i : ℕ) (c : Change) (lt : i < length cs) (is : c ≡ get_or cs i c) (rising : IsRising m) (up : IsRising cs) where
  pub changes-more : with_changes m (take (i + 1) cs) ≡ with_change (with_changes m (take i cs)) c
  changes-more = ap (with_changes m) (take_more cs i c lt ∙ ap (λ d. take i cs ++ d ∷ []) (sym is)) ∙ changes-push m (take i cs) c

  none_before : value_of (take i cs) c.0 ≡ None
  none_before = ap (λ es. value_of es c.0) (sym append_nil) ∙ value-append c.0 (take i cs) [] (below-row cs i c lt is up)
    where
      append_nil : take i cs ++ [] ≡ take i cs
      append_nil = search append-nil

  pub found_before : value_of (with_changes m (take i cs)) c.0 ≡ value_of m c.0
  found_before = value-changes m (take i cs) c.0 rising (rising_take cs i up) ∙ ap (λ o. unwrap_or o (value_of m c.0)) none_before

length-change : (m : RowMap) (c : Change) → IsRising m → length (with_change m c) + cond (is_some (value_of m c.0)) 1 0 ≡ length m + cond (is_some c.1) 1 0
length-change m (k, None) rising = by (value_of m k) refl
  where
    by : (o : Option (List ℕ)) → value_of m k ≡ o → length (without_key m k) + cond (is_some o) 1 0 ≡ length m + 0
    by None e = omega (arith, ap length (without_absent m k e))
    by (Some w) e = omega (arith, length-without_old m k w e)
length-change m (k, Some v) rising = by (value_of m k) refl
  where
    by : (o : Option (List ℕ)) → value_of m k ≡ o → length (with_value m k v) + cond (is_some o) 1 0 ≡ length m + 1
    by None e = omega (arith, length-with_new m k v e)
    by (Some w) e = omega (arith, length-with_old m k v w rising e)

pub length-changes_more : (m : RowMap) (cs : List Change) (i : ℕ) (c : Change) → i < length cs → c ≡ get_or cs i c → IsRising m → IsRising cs
    → length (with_changes m (take (i + 1) cs)) + cond (is_some (value_of m c.0)) 1 0 ≡ length (with_changes m (take i cs)) + cond (is_some c.1) 1 0
length-changes_more m cs i c lt is rising up =
    ap (λ rs. length rs + cond (is_some (value_of m c.0)) 1 0) (changes-more m cs i c lt is rising up)
    ∙ ap (λ o. length (with_change (with_changes m (take i cs)) c) + cond (is_some o) 1 0) (sym (found_before m cs i c lt is rising up))
    ∙ length-change (with_changes m (take i cs)) c (rising_changes m (take i cs) rising)
