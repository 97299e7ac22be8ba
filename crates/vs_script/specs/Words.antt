-- What stands at the next words of a line, or why it doesn't.
use Rattle.std.specs.Prelude.{ℕ, Bool, ◌&&◌, not, nat_le, nat_lt, min, if◌then◌else◌, List, [], ◌∷◌, length, Option, Some, None, Result, Ok, Err}
use Rattle.std.specs.List.{list_all}
use Rattle.std.specs.Str.{bytes_eq, all_ascii_digits}
use Rattle.std.specs.Str.Parse.{digits_value}
use Rattle.vs_rows.specs.Names.{key_limit, value_limit}
use Rattle.vs_script.specs.declared.fault.ScriptKind.{ScriptKind}
use Rattle.vs_script.specs.declared.fault.ScriptKind.TheVariants.{BadWord, BadNumber, BadBucket, BadSet, BadClient}

-- a step and those after it, up to the first fault
infixl 10 ◌>>=◌
abbrev pub ◌>>=◌ : {A B E : Type 0} → Result A E → (A → Result B E) → Result B E
Ok a >>= rest = rest a
Err fault >>= rest = Err fault

infixl 10 ◌>>◌
abbrev pub ◌>>◌ : {A B E : Type 0} → Result A E → Result B E → Result B E
step >> rest = step >>= (λ _. rest)

-- the value, or the fault where there is none
abbrev pub or_bad : {A E : Type 0} → Option A → E → Result A E
or_bad (Some a) fault = Ok a
or_bad None fault = Err fault

-- the fault, where the test holds
abbrev pub bad_if : {E : Type 0} → Bool → E → Result (Unit {0}) E
bad_if test fault = if test then Err fault else Ok tt

-- what was read at the first of some words, and the words after it
abbrev pub Read : Type 0 → Type 0
Read A = Result (A × List (List ℕ)) ScriptKind

abbrev pub word_at : List (List ℕ) → Read (List ℕ)
word_at [] = Err BadWord
word_at (word ∷ words) = Ok (word, words)

-- no word is left
abbrev pub end_at : List (List ℕ) → Result (Unit {0}) ScriptKind
end_at [] = Ok tt
end_at (word ∷ words) = Err BadWord

-- the word may be a key or a value of at most so many bytes: `IsName` as a test
abbrev pub is_name : ℕ → List ℕ → Bool
is_name most word =
    nat_lt 0 (length word) && nat_le (length word) most
    && list_all (λ b. nat_le 0x21 b && nat_le b 0x7E) word && not (bytes_eq word (59 ∷ []))

abbrev pub name_at : ℕ → List (List ℕ) → Read (List ℕ)
name_at most words = do
  word ← word_at words
  bad_if (not (is_name most word.0)) BadWord
  Ok word

abbrev pub key_at : List (List ℕ) → Read (List ℕ)
key_at words = name_at key_limit words

abbrev pub value_at : List (List ℕ) → Read (List ℕ)
value_at words = name_at value_limit words

-- the number that 1 to 9 decimal digits write
abbrev pub short_number : List ℕ → Option ℕ
short_number word =
    if nat_lt 0 (length word) && nat_le (length word) 9 && all_ascii_digits word
    then Some (digits_value 10 word) else None

abbrev pub number_at : List (List ℕ) → Read ℕ
number_at words = do
  word ← word_at words
  number ← or_bad (short_number word.0) BadNumber
  Ok (number, word.1)

-- a number from 1 to the most, and this fault else
abbrev pub number_to : ℕ → ScriptKind → List (List ℕ) → Read ℕ
number_to most fault words = do
  number ← number_at words
  bad_if (not (nat_le 1 number.0 && nat_le number.0 most)) fault
  Ok number

-- a bucket of m; no cluster has more than 30,000
abbrev pub bucket_at : ℕ → List (List ℕ) → Read ℕ
bucket_at m words = number_to (min m 30000) BadBucket words

-- a set of n
abbrev pub set_at : ℕ → List (List ℕ) → Read ℕ
set_at n words = number_to n BadSet words

abbrev pub client_at : List (List ℕ) → Read ℕ
client_at words = number_to 64 BadClient words
