-- The words of a line of a report, and what is read of them.
use Rattle.std.specs.Prelude.{ℕ, ◌-◌, ◌^◌, ◌&&◌, Bool, not, nat_le, nat_lt, if◌then◌else◌, List, [], ◌∷◌, length, Option, Some, None, Result, Ok, Err}
use Rattle.std.specs.Fmt.{decimal}
use Rattle.std.specs.List.{list_all}
use Rattle.std.specs.Str.{bytes_eq}
use Rattle.std.specs.Str.Parse.{digits_value}
use Rattle.vs_base.specs.declared.numbers.CallId.{CallId}
use Rattle.vs_rows.specs.Names.{key_limit, value_limit}
use Rattle.vs_audit.specs.Reading.{◌>>=◌, ◌>>◌}

abbrev pub Words : Type 0
Words = List (List ℕ)

-- the line isn't in the grammar
pub data NotSo : Type 0 where
  Bad : NotSo

-- what is read of words alone
abbrev pub Told : Type 0 → Type 0
Told A = Result A NotSo

-- what is read at the first of some words, and the words after it
abbrev pub Read : Type 0 → Type 0
Read A = Told (A × Words)

abbrev pub only_if : Bool → Told (Unit {0})
only_if test = if test then Ok tt else Err Bad

abbrev pub known : {A : Type 0} → Option A → Told A
known (Some a) = Ok a
known None = Err Bad

abbrev pub word_at : Words → Read (List ℕ)
word_at [] = Err Bad
word_at (word ∷ words) = Ok (word, words)

-- the words after this one
abbrev pub after_word : List ℕ → Words → Told Words
after_word wanted words = do
  word ← word_at words
  only_if (bytes_eq word.0 wanted)
  Ok word.1

-- the words after this one, if it stands first
abbrev pub past_word : List ℕ → Words → Option Words
past_word wanted [] = None
past_word wanted (word ∷ words) = if bytes_eq word wanted then Some words else None

-- no word is left
abbrev pub end_at : Words → Told (Unit {0})
end_at [] = Ok tt
end_at (word ∷ words) = Err Bad

-- the word is a number of this range, in decimal digits and without leading zeros
abbrev pub is_number : ℕ → ℕ → List ℕ → Bool
is_number least most word =
    bytes_eq word (decimal (digits_value 10 word))
    && nat_le least (digits_value 10 word) && nat_le (digits_value 10 word) most

abbrev pub number_at : ℕ → ℕ → Words → Read ℕ
number_at least most words = do
  word ← word_at words
  only_if (is_number least most word.0)
  Ok (digits_value 10 word.0, word.1)

-- the words after this number, where it stands first
abbrev pub past_number : ℕ → Words → Option Words
past_number n [] = None
past_number n (word ∷ words) = if is_number n n word then Some words else None

abbrev pub any_number : Words → Read ℕ
any_number words = number_at 0 (2 ^ 64 - 1) words

-- a number of 32 bits
abbrev pub count_at : Words → Read ℕ
count_at words = number_at 0 (2 ^ 32 - 1) words

-- visible characters, so many at most, and not `;` alone
abbrev pub is_name : ℕ → List ℕ → Bool
is_name most word =
    nat_lt 0 (length word) && nat_le (length word) most
    && list_all (λ b. nat_le 0x21 b && nat_le b 0x7E) word && not (bytes_eq word (59 ∷ []))

abbrev pub name_at : ℕ → Words → Read (List ℕ)
name_at most words = do
  word ← word_at words
  only_if (is_name most word.0)
  Ok word

abbrev pub key_at : Words → Read (List ℕ)
key_at words = name_at key_limit words

abbrev pub value_at : Words → Read (List ℕ)
value_at words = name_at value_limit words

-- a call: a client, and a number from 1
abbrev pub id_at : Words → Read CallId
id_at words = do
  client ← number_at 1 64 words
  call ← number_at 1 (2 ^ 32 - 1) client.1
  Ok (record { client = client.0; call = call.0 }, call.1)
