-- What was read ahead.
use Rattle.std.proofs.Common.{◌≡◌, ℕ, ◌+◌, ◌≤◌, List, take, drop, sym, ◌∙◌, ap}
use Rattle.std.proofs.lemmas.List.{take-take, drop-take, drop-drop}

-- bytes of a piece are those of the file
pub in_piece : (piece file : List ℕ) (start count at from size : ℕ) → take count piece ≡ take count (drop start file) → from + size ≤ count → at ≡ start + from → take size (drop from piece) ≡ take size (drop at file)
in_piece piece file start count at from size is within place =
    let front : take (from + size) piece ≡ take (from + size) (drop start file) = sym (take-take (from + size) count piece within) ∙ ap (λ (l : List ℕ). take (from + size) l) is ∙ take-take (from + size) count (drop start file) within in
    sym (drop-take from size piece) ∙ ap (λ (l : List ℕ). drop from l) front ∙ drop-take from size (drop start file) ∙ ap (λ (l : List ℕ). take size l) (drop-drop from start file) ∙ ap (λ (n : ℕ). take size (drop n file)) (sym place)
