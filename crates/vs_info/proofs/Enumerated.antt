-- Items with their numbers, one by one.
use Rattle.std.proofs.Common.{◌≡◌, ℕ, ◌+◌, ◌<◌, List, [], ◌∷◌, ◌++◌, length, take, get_or, map, ap, sym, ◌∙◌, arith}
use Rattle.std.specs.List.{flat_map, enumerate_from}
use Rattle.std.proofs.lemmas.List.{append-nil, take_more, length-take-le, map-append}
use Rattle.std.proofs.lemmas.Grind.{flat_map-append}

enumerate_from-push : {X : Type 0} (n : ℕ) (xs : List X) (x : X) → enumerate_from n (xs ++ x ∷ []) ≡ enumerate_from n xs ++ (n + length xs, x) ∷ []
enumerate_from-push n [] x = ap (λ k. (k, x) ∷ []) (omega arith)
enumerate_from-push n (y ∷ ys) x =
    ap (λ es. (n, y) ∷ es) (enumerate_from-push (n + 1) ys x ∙ ap (λ k. enumerate_from (n + 1) ys ++ (k, x) ∷ []) (omega arith))

enumerate_from_more : {X : Type 0} (n : ℕ) (xs : List X) (i : ℕ) (x : X) → i < length xs → x ≡ get_or xs i x
    → enumerate_from n (take (i + 1) xs) ≡ enumerate_from n (take i xs) ++ (n + i, x) ∷ []
enumerate_from_more {X} n xs i x within is =
    ap (enumerate_from n) (take_more xs i x within ∙ ap (λ (y : X). take i xs ++ y ∷ []) (sym is))
    ∙ enumerate_from-push n (take i xs) x
    ∙ ap (λ k. enumerate_from n (take i xs) ++ (n + k, x) ∷ []) (length-take-le i xs (omega arith))

-- what one item more adds to the lists of all
pub lists_more : {X A : Type 0} (f : ℕ × X → List A) (n : ℕ) (xs : List X) (i : ℕ) (x : X) → i < length xs → x ≡ get_or xs i x
    → flat_map f (enumerate_from n (take (i + 1) xs)) ≡ flat_map f (enumerate_from n (take i xs)) ++ f (n + i, x)
lists_more f n xs i x within is =
    ap (flat_map f) (enumerate_from_more n xs i x within is)
    ∙ flat_map-append f (enumerate_from n (take i xs)) ((n + i, x) ∷ [])
    ∙ ap (λ ys. flat_map f (enumerate_from n (take i xs)) ++ ys) (append-nil (f (n + i, x)))

-- and to the list of their values
pub values_more : {X A : Type 0} (f : ℕ × X → A) (n : ℕ) (xs : List X) (i : ℕ) (x : X) → i < length xs → x ≡ get_or xs i x
    → map f (enumerate_from n (take (i + 1) xs)) ≡ map f (enumerate_from n (take i xs)) ++ f (n + i, x) ∷ []
values_more f n xs i x within is =
    ap (map f) (enumerate_from_more n xs i x within is) ∙ map-append f (enumerate_from n (take i xs)) ((n + i, x) ∷ [])
