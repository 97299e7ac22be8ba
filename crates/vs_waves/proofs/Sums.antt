-- Sums over some of the items of a list.
use Rattle.std.proofs.Common.{◌≡◌, ℕ, ◌+◌, ◌<◌, ◌≤◌, Bool, true, false, cond, List, take, length, get_or, ap, ◌∙◌, arith}
use Rattle.std.specs.List.{sum_by}
use Rattle.std.proofs.lemmas.List.Sums.{sum_by_more, sum_by_more_le_part}

pub part_below : (b : Bool) (n : ℕ) → cond b n 0 ≤ n
part_below true n = omega arith
part_below false n = omega arith

module _ {X : Type 0} (p : X → Bool) (v : X → ℕ) where
  abbrev pub picked : List X → ℕ
  picked xs = sum_by (λ x. cond (p x) (v x) 0) xs

  pub picked_within : (xs : List X) (i : ℕ) (d : X) → i < length xs → picked (take i xs) + v (get_or xs i d) ≤ sum_by v xs
  picked_within xs i d inside = sum_by_more_le_part (λ x. cond (p x) (v x) 0) v xs i d inside (λ x. part_below (p x) (v x))

  pub picked_more_yes : (xs : List X) (i : ℕ) (d : X) → i < length xs → p (get_or xs i d) ≡ true → picked (take (i + 1) xs) ≡ picked (take i xs) + v (get_or xs i d)
  picked_more_yes xs i d inside is =
      sum_by_more (λ x. cond (p x) (v x) 0) xs i d inside ∙ ap (λ b. picked (take i xs) + cond b (v (get_or xs i d)) 0) is

  pub picked_more_no : (xs : List X) (i : ℕ) (d : X) → i < length xs → p (get_or xs i d) ≡ false → picked (take (i + 1) xs) ≡ picked (take i xs)
  picked_more_no xs i d inside is =
      sum_by_more (λ x. cond (p x) (v x) 0) xs i d inside ∙ ap (λ b. picked (take i xs) + cond b (v (get_or xs i d)) 0) is ∙ omega arith
