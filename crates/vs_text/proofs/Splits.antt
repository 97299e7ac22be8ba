-- The first part of a text.
use Rattle.std.proofs.Common.{◌≡◌, ℕ, ◌+◌, ◌-◌, ◌<◌, ◌≤◌, Bool, true, false, cond, List, [], ◌∷◌, length, take, drop, Some, None, refl, arith, ltb, ltb-true, ltb-false, not}
use Rattle.std.specs.Prelude.{position}
use Rattle.std.specs.List.{slice_split, onto_first, position_or_len}
use Rattle.std.proofs.lemmas.List.Splits.{slice_split_first}
use Rattle.std.proofs.lemmas.List.Sums.{prefix_len-le-length}
use Rattle.std.proofs.lemmas.List.{take_all, length-drop}

-- an option that a test gives
chosen : (b : Bool) (x y : ℕ) → cond b (Some x) None ≡ Some y → (b ≡ true) × (x ≡ y)
chosen true x y e = (refl, cc)
chosen false x y e = absurd cc

not_chosen : (b : Bool) (x : ℕ) → cond b (Some x) None ≡ None → b ≡ false
not_chosen true x e = absurd cc
not_chosen false x e = refl

-- the part before the first byte that passes, and those of what follows it
pub first_of_parts : (p : ℕ → Bool) (text : List ℕ) (end : ℕ) → position p text ≡ Some end → slice_split p text ≡ take end text ∷ slice_split p (drop (end + 1) text)
first_of_parts p text end e =
    let found = chosen (ltb (position_or_len p text) (length text)) (position_or_len p text) end e in
    let within : position_or_len p text < length text = ltb-true _ _ found.0 in
    rw (← found.1) (slice_split_first p text 0 within)

by_test : (p : ℕ → Bool) (b : ℕ) (bs : List ℕ) (test : Bool) → (position_or_len p bs ≡ length bs → slice_split p bs ≡ bs ∷ []) → cond (not test) (1 + position_or_len p bs) 0 ≡ length (b ∷ bs)
    → cond test ([] ∷ slice_split p bs) (onto_first b (slice_split p bs)) ≡ (b ∷ bs) ∷ []
by_test p b bs true rest e = absurd (omega arith)
by_test p b bs false rest e = rw (rest (omega arith)) refl

one_part : (p : ℕ → Bool) (text : List ℕ) → position_or_len p text ≡ length text → slice_split p text ≡ text ∷ []
one_part p [] e = refl
one_part p (b ∷ bs) e = by_test p b bs (p b) (one_part p bs) e

-- a text in which no byte passes is one part
pub only_part : (p : ℕ → Bool) (text : List ℕ) → position p text ≡ None → slice_split p text ≡ text ∷ []
only_part p text e =
    let none = not_chosen (ltb (position_or_len p text) (length text)) (position_or_len p text) e in
    let past : length text ≤ position_or_len p text = ltb-false _ _ none in
    let most : position_or_len p text ≤ length text = prefix_len-le-length _ text in
    one_part p text (omega arith)

pub rest_whole : (text : List ℕ) (end : ℕ) → take (length text - (end + 1)) (drop (end + 1) text) ≡ drop (end + 1) text
rest_whole text end = take_all (length text - (end + 1)) (drop (end + 1) text) (omega (arith, length-drop (end + 1) text))
