-- Where the search for a key ends.
use Rattle.std.proofs.Common.{◌≡◌, ℕ, ◌+◌, ◌<◌, ◌≤◌, List, [], ◌∷◌, ◌++◌, length, get_or, take, drop, Some, refl, sym, ap, ◌∙◌, subst, add-one, append-nil, take-append-drop, Less, Equal}
use Rattle.std.proofs.lemmas.List.{set_split, get_or_default, take_more}
use Rattle.vs_rows.specs.RowMap.{key_cmp, IsRising, value_of, with_value, without_key, rows_below, rows_from, rows_above}
use Rattle.vs_rows.specs.Place.{FoundAt, MissingAt}
use Rattle.vs_rows.proofs.Rising.{IsAbove, IsBelow, above_lower, below_higher, value-above, with-above, without-above, below-above, from-above, above-above, value-append, with-append, without-append, below-append, from-append, above-append, front_row, below-row, above-row, same_key, key_itself}

module _ {V : Type 0} where
  -- the first i rows are below the key, and the others above it
  pub missing : (rows : List (List ℕ × V)) (key : List ℕ) (i : ℕ) → i ≤ length rows → IsBelow (take i rows) key → IsAbove key (drop i rows) → MissingAt rows key i
  missing rows key i le below above =
      let split : rows ≡ take i rows ++ drop i rows = sym (take-append-drop i rows) in
      record {
        within = le;
        get = ap (λ rs. value_of rs key) split ∙ value-append key (take i rows) (drop i rows) below ∙ value-above key (drop i rows) above;
        put = λ v. ap (λ rs. with_value rs key v) split ∙ with-append key v (take i rows) (drop i rows) below ∙ ap (λ rs. take i rows ++ rs) (with-above key v (drop i rows) above);
        remove = ap (λ rs. without_key rs key) split ∙ without-append key (take i rows) (drop i rows) below ∙ ap (λ rs. take i rows ++ rs) (without-above key (drop i rows) above) ∙ sym split;
        below = ap (λ rs. rows_below rs key) split ∙ below-append key (take i rows) (drop i rows) below ∙ ap (λ rs. take i rows ++ rs) (below-above key (drop i rows) above) ∙ append-nil (take i rows);
        from = ap (λ rs. rows_from rs key) split ∙ from-append key (take i rows) (drop i rows) below ∙ from-above key (drop i rows) above;
        above = ap (λ rs. rows_above rs (Some key)) split ∙ above-append key (take i rows) (drop i rows) below ∙ above-above key (drop i rows) above;
      }

  same_row : (rows : List (List ℕ × V)) (i : ℕ) (row other : List ℕ × V) → i < length rows → row ≡ get_or rows i row → other ≡ get_or rows i other → other ≡ row
  same_row rows i row other lt is other-is = other-is ∙ get_or_default rows i other row lt ∙ sym is

  -- a row with the key
  pub found : (rows : List (List ℕ × V)) (key : List ℕ) (i : ℕ) (row : List ℕ × V) → i < length rows → row ≡ get_or rows i row → key_cmp key row.0 ≡ Equal → IsRising rows → FoundAt rows key i
  found rows key i row lt is same rising =
      let d : drop i rows ≡ row ∷ drop (i + 1) rows = front_row rows i row lt is in
      let split : rows ≡ take i rows ++ row ∷ drop (i + 1) rows = sym (take-append-drop i rows) ∙ ap (λ rs. take i rows ++ rs) d in
      let k : key ≡ row.0 = same_key key row.0 same in
      let below : IsBelow (take i rows) key = subst (IsBelow (take i rows)) (sym k) (below-row rows i row lt is rising) in
      let above : IsAbove key (drop (i + 1) rows) = subst (λ q. IsAbove q (drop (i + 1) rows)) (sym k) (above-row rows i row lt is rising) in
      let back : key_cmp row.0 key ≡ Equal = rw k (key_itself row.0) in
      record {
        within = lt;
        get = λ other other-is. rw (same_row rows i row other lt is other-is) (ap (λ rs. value_of rs key) split ∙ value-append key (take i rows) (row ∷ drop (i + 1) rows) below ∙ rw same refl);
        put = λ other v other-is. rw (same_row rows i row other lt is other-is) (ap (λ rs. with_value rs key v) split ∙ with-append key v (take i rows) (row ∷ drop (i + 1) rows) below ∙ rw (same, add-one) (sym (set_split rows i (row.0, v) lt)));
        remove = ap (λ rs. without_key rs key) split ∙ without-append key (take i rows) (row ∷ drop (i + 1) rows) below ∙ rw (same, add-one) refl;
        below = ap (λ rs. rows_below rs key) split ∙ below-append key (take i rows) (row ∷ drop (i + 1) rows) below ∙ rw back (ap (λ rs. take i rows ++ rs) (below-above key (drop (i + 1) rows) above)) ∙ append-nil (take i rows);
        from = ap (λ rs. rows_from rs key) split ∙ from-append key (take i rows) (row ∷ drop (i + 1) rows) below ∙ rw back (ap (λ rs. row ∷ rs) (from-above key (drop (i + 1) rows) above)) ∙ sym d;
        above = ap (λ rs. rows_above rs (Some key)) split ∙ above-append key (take i rows) (row ∷ drop (i + 1) rows) below ∙ rw back (above-above key (drop (i + 1) rows) above);
      }

  -- the rows from a greater one on are above the key
  pub above-from : (rows : List (List ℕ × V)) (key : List ℕ) (i : ℕ) (row : List ℕ × V) → i < length rows → row ≡ get_or rows i row → key_cmp key row.0 ≡ Less → IsRising rows → IsAbove key (drop i rows)
  above-from rows key i row lt is less rising = rw (front_row rows i row lt is) (less, above_lower key row.0 (drop (i + 1) rows) less (above-row rows i row lt is rising))

  below_push : (rows : List (List ℕ × V)) (row : List ℕ × V) (key : List ℕ) → IsBelow rows key → key_cmp row.0 key ≡ Less → IsBelow (rows ++ row ∷ []) key
  below_push [] row key below less = (less, tt)
  below_push (first ∷ rows) row key below less = (below.0, below_push rows row key below.1 less)

  -- the rows up to a lower one are below the key
  pub below-upto : (rows : List (List ℕ × V)) (key : List ℕ) (i : ℕ) (row : List ℕ × V) → i < length rows → row ≡ get_or rows i row → key_cmp row.0 key ≡ Less → IsRising rows → IsBelow (take (i + 1) rows) key
  below-upto rows key i row lt is less rising =
      let upto : take (i + 1) rows ≡ take i rows ++ row ∷ [] = take_more rows i row lt ∙ ap (λ r. take i rows ++ r ∷ []) (sym is) in
      rw upto (below_push (take i rows) row key (below_higher (take i rows) row.0 key (below-row rows i row lt is rising) less) less)
