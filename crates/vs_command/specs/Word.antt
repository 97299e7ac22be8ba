-- One word.
use Rattle.std.specs.Prelude.{ℕ, ◌==◌, ◌&&◌, Bool, false, not, nat_lt, nat_le, List, [], ◌∷◌, length, Option, Some, None, if◌then◌else◌}
use Rattle.std.specs.Char.{digit_value}
use Rattle.std.specs.List.{list_all}
use Rattle.std.specs.Str.Parse.{digits_value}
use Rattle.vs_command.specs.declared.word.TheConstants.{DASH}

abbrev pub Text : Type 0
Text = List ℕ

-- a word that may stand in a command isn't empty, and doesn't begin with a dash
abbrev pub is_plain : Text → Bool
is_plain [] = false
is_plain (b ∷ bs) = not (b == DASH)

-- the word has one to nine bytes, and each is a decimal digit
abbrev pub is_number : Text → Bool
is_number word =
    nat_lt 0 (length word) && nat_le (length word) 9
    && list_all (λ digit. nat_lt (digit_value digit) 10) word

-- the number that a word of one to nine decimal digits writes
abbrev pub number_in : Text → Option ℕ
number_in word = if is_number word then Some (digits_value 10 word) else None
