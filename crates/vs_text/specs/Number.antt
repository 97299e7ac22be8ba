-- Numbers as words.
use Rattle.std.specs.Prelude.{ℕ, ◌≡◌, ◌≢◌, ◌≤◌, ◌^◌, ◌+◌, ◌-◌, ◌*◌, ◌&&◌, nat_lt, ◌<◌, slice_index, if◌then◌else◌, List, [], ◌∷◌, length, Option, Some, None, MatchOption, option_and_then}
use Rattle.std.specs.Char.{is_ascii_digit}
use Rattle.std.specs.Fmt.{decimal}
use Rattle.std.specs.Str.Parse.{IsNumeral}

-- a value was read that has this spelling, or no value has it
abbrev pub Reads : {X T : Type 0} → (X → Type 0) → (X → T) → T → Option X → Type 0
Reads {X} {T} IsValue spelling text result =
    MatchOption result ((x : X) → IsValue x → text ≢ spelling x)
    (λ x. IsValue x × (text ≡ spelling x))

-- a number of a range was read from its decimal digits without leading zeros
abbrev pub ReadsNumber : (ℕ → Type 0) → List ℕ → Option ℕ → Type 0
ReadsNumber InRange word result = Reads InRange decimal word result

-- one to nine decimal digits
abbrev pub IsShortNumeral : List ℕ → Type 0
IsShortNumeral word = IsNumeral 10 word × (length word ≤ 9)

-- how a number is read: the steps of the reader

-- a number with one more decimal digit at its end, if that is a digit and the number is below 2^64
abbrev pub with_digit : ℕ → ℕ → Option ℕ
with_digit number digit =
    if is_ascii_digit digit && nat_lt (number * 10 + (digit - 48)) (2 ^ 64)
    then Some (number * 10 + (digit - 48)) else None

-- the number that these bytes write after the digits of another, if all are digits and it is
-- below 2^64
abbrev pub read_digits : ℕ → List ℕ → Option ℕ
read_digits number [] = Some number
read_digits number (digit ∷ digits) =
    option_and_then (λ longer. read_digits longer digits) (with_digit number digit)

-- a word that doesn't begin with a needless zero
pub record IsPlain (word : List ℕ) : Type 0 where
  pub some : 0 < length word
  pub no_zero : slice_index word 0 ≡ 48 → length word ≡ 1
