-- What is spelled of words is read as these words.
use Rattle.std.proofs.Common.{◌≡◌, ℕ, ◌+◌, ◌<◌, ◌≤◌, ◌^◌, ◌%◌, true, false, List, [], ◌∷◌, ◌++◌, map, refl, ap, ◌∙◌, arith, append_assoc, All}
use Rattle.std.specs.Prelude.{◌==◌, nat_lt, codes}
use Rattle.std.specs.Fmt.{decimal}
use Rattle.std.specs.List.{list_all}
use Rattle.std.proofs.lemmas.Bool.{and_parts}
use Rattle.std.proofs.lemmas.Bool.Decides.{nat_tests}
use Rattle.std.proofs.lemmas.Fmt.{decimal_by_steps}
use Rattle.std.proofs.lemmas.List.Elements.{All-nil, All-cons, All-append}
use Rattle.std.proofs.lemmas.List.Folds.{list_all-append}
use Rattle.std.proofs.lemmas.List.Splits.{slice_split_none, slice_split_at}
use Rattle.std.proofs.lemmas.Grind.{flat_map-append}
use Rattle.vs_text.specs.Split.{lines_of, words_of}
use Rattle.vs_legal.proofs.Words.Spelled.{is_word, are_words, spelled_on, spelled, text_of}

abbrev IsApart : ℕ → ℕ → Type 0
IsApart c x = (x == c) ≡ false

apart : (c x : ℕ) → c ≤ 32 → nat_lt 32 x ≡ true → IsApart c x
apart c x low above = grind (arith, nat_tests)

pub word_apart : (c : ℕ) (w : List ℕ) → c ≤ 32 → is_word w ≡ true → All (IsApart c) w
word_apart c [] low is = All-nil (IsApart c)
word_apart c (x ∷ xs) low is =
    let parts = and_parts (nat_lt 32 x) (is_word xs) is in
    All-cons (IsApart c) x xs (apart c x low parts.0) (word_apart c xs low parts.1)

pub append_nil : (xs : List ℕ) → xs ++ [] ≡ xs
append_nil [] = refl
append_nil (x ∷ xs) = ap (λ (r : List ℕ). x ∷ r) (append_nil xs)

-- the words of a line
pub words_read : (w : List ℕ) (ws : List (List ℕ)) → is_word w ≡ true → are_words ws ≡ true → words_of (spelled (w ∷ ws)) ≡ w ∷ ws
words_read w [] is are = rw (append_nil w) (slice_split_none (λ b. b == 32) w (word_apart 32 w (omega arith) is))
words_read w (v ∷ vs) is are =
    let parts = and_parts (is_word v) (are_words vs) are in
    slice_split_at (λ b. b == 32) w 32 (spelled (v ∷ vs)) (word_apart 32 w (omega arith) is) refl
    ∙ ap (λ (r : List (List ℕ)). w ∷ r) (words_read v vs parts.0 parts.1)

spelled_on_apart : (ws : List (List ℕ)) → are_words ws ≡ true → All (IsApart 10) (spelled_on ws)
spelled_on_apart [] are = All-nil (IsApart 10)
spelled_on_apart (w ∷ ws) are =
    let parts = and_parts (is_word w) (are_words ws) are in
    All-append (IsApart 10) (codes " " ++ w) (spelled_on ws) (All-cons (IsApart 10) 32 w refl (word_apart 10 w (omega arith) parts.0)) (spelled_on_apart ws parts.1)

pub spelled_apart : (ws : List (List ℕ)) → are_words ws ≡ true → All (IsApart 10) (spelled ws)
spelled_apart [] are = All-nil (IsApart 10)
spelled_apart (w ∷ ws) are =
    let parts = and_parts (is_word w) (are_words ws) are in
    All-append (IsApart 10) w (spelled_on ws) (word_apart 10 w (omega arith) parts.0) (spelled_on_apart ws parts.1)

-- the lines of a text
pub lines_read : (ls : List (List (List ℕ))) → list_all are_words ls ≡ true → lines_of (text_of ls) ≡ map spelled ls ++ [] ∷ []
lines_read [] are = refl
lines_read (l ∷ ls) are =
    let parts = and_parts (are_words l) (list_all are_words ls) are in
    rw (append_assoc (spelled l) (codes "\n") (text_of ls))
    (slice_split_at (λ b. b == 10) (spelled l) 10 (text_of ls) (spelled_apart l parts.0) refl
    ∙ ap (λ (r : List (List ℕ)). spelled l ∷ r) (lines_read ls parts.1))

-- ---- words

one_digit : (n : ℕ) → n < 10 → is_word ((48 + n) ∷ []) ≡ true
one_digit n small = grind (arith, nat_tests)

one_more : (n : ℕ) (ds : List ℕ) → 10 ≤ n → is_word ds ≡ true → is_word (ds ++ (48 + n % 10) ∷ []) ≡ true
one_more n ds big is = rw (list_all-append (λ b. nat_lt 32 b) ds ((48 + n % 10) ∷ []), is) (one_digit (n % 10) (omega arith))

pub decimal_word : (n : ℕ) → n < 2 ^ 64 → is_word (decimal n) ≡ true
decimal_word n fits = decimal_by_steps (λ _ ds. is_word ds ≡ true) one_digit one_more n fits

pub are_append : (vs ws : List (List ℕ)) → are_words vs ≡ true → are_words ws ≡ true → are_words (vs ++ ws) ≡ true
are_append vs ws are others = rw (list_all-append is_word vs ws, are, others) refl

pub spelled_append : (vs ws : List (List ℕ)) → spelled_on (vs ++ ws) ≡ spelled_on vs ++ spelled_on ws
spelled_append vs ws = flat_map-append (λ (w : List ℕ). codes " " ++ w) vs ws
