-- Rows compared pair by pair.
use Rattle.std.proofs.Common.{◌≡◌, ℕ, Bool, true, ◌&&◌, List, nat_eq, Decides, refl, ap, sym, ◌∙◌, arith}
use Rattle.std.specs.Cmp.Lexicographic.{pointwise, bytes_decides}
use Rattle.std.proofs.lemmas.Slice.Eq.{slice_eq-Decides}
use Rattle.vs_rows.specs.RowMap.{RowMap}

abbrev pub same_row : List ℕ × List ℕ → List ℕ × List ℕ → Bool
same_row a b = pointwise nat_eq a.0 b.0 && pointwise nat_eq a.1 b.1

both : (s t : Bool) → (s && t) ≡ true → (s ≡ true) × (t ≡ true)
both s t h = grind arith

same_row_decides : (a b : List ℕ × List ℕ) → Decides (same_row a b) (a ≡ b)
same_row_decides a b = (told, found)
  where
    told : same_row a b ≡ true → a ≡ b
    told h =
        let p = both (pointwise nat_eq a.0 b.0) (pointwise nat_eq a.1 b.1) h in
        λ i. ((bytes_decides a.0 b.0).0 p.0 i, (bytes_decides a.1 b.1).0 p.1 i)

    found : a ≡ b → same_row a b ≡ true
    found e = ap (λ r. same_row a r) (sym e) ∙ (λ i. (bytes_decides a.0 a.0).1 refl i && (bytes_decides a.1 a.1).1 refl i)

pub same_rows : (a b : RowMap) (r : Bool) → r ≡ pointwise same_row a b → Decides r (a ≡ b)
same_rows a b r e = slice_eq-Decides same_row_decides a b r e
