-- Lines of the items of a list, one by one.
use Rattle.std.proofs.Common.{◌≡◌, ℕ, ◌+◌, List, [], ◌∷◌, ◌++◌, take, Some, ap, subst, sym, ◌∙◌, append_assoc}
use Rattle.std.specs.Prelude.{slice_get, codes}
use Rattle.std.proofs.lemmas.List.{append-nil, take_more}
use Rattle.std.proofs.lemmas.Option.{slice_get_within, get_or_from_slice_get}
use Rattle.std.proofs.lemmas.Grind.{flat_map-append}
use Rattle.vs_machine.specs.Report.{lines}

take_next : {A : Type 0} (xs : List A) (n : ℕ) (x : A) → slice_get xs n ≡ Some x → take (n + 1) xs ≡ take n xs ++ x ∷ []
take_next xs n x there =
    take_more xs n x (slice_get_within xs n x there) ∙ ap (λ y. take n xs ++ y ∷ []) (get_or_from_slice_get xs n x x there)

-- the line of one more is added to those of the first
pub lines_more : {A : Type 0} (text : A → List ℕ) (xs : List A) (n m : ℕ) (x : A) (before old new : List ℕ) → m ≡ n → slice_get xs m ≡ Some x
    → old ≡ before ++ lines text (take n xs) → new ≡ old ++ (text x ++ codes "\n") → new ≡ before ++ lines text (take (n + 1) xs)
lines_more {A} text xs n m x before old new same there so_far added =
    let here : slice_get xs n ≡ Some x = subst (λ k. slice_get xs k ≡ Some x) same there in
    let next : lines text (take (n + 1) xs) ≡ lines text (take n xs) ++ (text x ++ codes "\n") =
    ap (lines text) (take_next xs n x here) ∙ flat_map-append (λ (y : A). text y ++ codes "\n") (take n xs) (x ∷ [])
    ∙ ap (λ t. lines text (take n xs) ++ t) (append-nil (text x ++ codes "\n")) in
    added ∙ ap (λ t. t ++ (text x ++ codes "\n")) so_far ∙ append_assoc before (lines text (take n xs)) (text x ++ codes "\n")
    ∙ ap (λ t. before ++ t) (sym next)
