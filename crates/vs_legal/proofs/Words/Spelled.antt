-- Texts as lists of lines, and lines as lists of words.
use Rattle.std.specs.Prelude.{ℕ, nat_lt, Bool, List, [], ◌∷◌, ◌++◌, codes}
use Rattle.std.specs.List.{flat_map, list_all}

-- the bytes of a word are above the blank
abbrev pub is_word : List ℕ → Bool
is_word w = list_all (λ b. nat_lt 32 b) w

abbrev pub are_words : List (List ℕ) → Bool
are_words ws = list_all is_word ws

-- words behind others, each after a blank
abbrev pub spelled_on : List (List ℕ) → List ℕ
spelled_on ws = flat_map (λ w. codes " " ++ w) ws

-- a line of these words
abbrev pub spelled : List (List ℕ) → List ℕ
spelled [] = []
spelled (w ∷ ws) = w ++ spelled_on ws

-- lines, each ended by a line feed
abbrev pub ended : List (List ℕ) → List ℕ
ended ls = flat_map (λ l. l ++ codes "\n") ls

-- a text of lines of these words
abbrev pub text_of : List (List (List ℕ)) → List ℕ
text_of ls = flat_map (λ ws. spelled ws ++ codes "\n") ls
