-- A number of one to nine digits, by the test and by what it says.
use Rattle.std.proofs.Common.{◌≡◌, ℕ, true, false, ◌&&◌, [], ◌∷◌, length, Option, Some, None, refl}
use Rattle.std.specs.Char.{digit_value}
use Rattle.std.specs.List.{list_all}
use Rattle.std.specs.Option.{SomeIff}
use Rattle.std.specs.Prelude.{nat_le, nat_lt}
use Rattle.std.specs.Str.Parse.{AllDigits, digits_value}
use Rattle.std.proofs.lemmas.Bool.{and_parts, le-leb, leb-true, lt-ltb, ltb-true}
use Rattle.vs_text.specs.Number.{IsShortNumeral}
use Rattle.vs_command.specs.Word.{Text, is_number, number_in}

digits_pass : (word : Text) → AllDigits 10 word → list_all (λ digit. nat_lt (digit_value digit) 10) word ≡ true
digits_pass [] all = refl
digits_pass (c ∷ cs) all = let here : nat_lt (digit_value c) 10 ≡ true = lt-ltb (digit_value c) 10 all.0 in rw (here, digits_pass cs all.1) refl

pass_digits : (word : Text) → list_all (λ digit. nat_lt (digit_value digit) 10) word ≡ true → AllDigits 10 word
pass_digits [] h = tt
pass_digits (c ∷ cs) h =
    let (here, more) = and_parts (nat_lt (digit_value c) 10) (list_all (λ digit. nat_lt (digit_value digit) 10) cs) h in
    (ltb-true (digit_value c) 10 here, pass_digits cs more)

is_test : (word : Text) → IsShortNumeral word → is_number word ≡ true
is_test word short =
    let some : nat_lt 0 (length word) ≡ true = lt-ltb 0 (length word) short.0.0 in
    let few : nat_le (length word) 9 ≡ true = le-leb (length word) 9 short.1 in
    rw (some, few, digits_pass word short.0.1) refl

is_short : (word : Text) → is_number word ≡ true → IsShortNumeral word
is_short word h =
    let (sizes, digits) = and_parts (nat_lt 0 (length word) && nat_le (length word) 9) (list_all (λ digit. nat_lt (digit_value digit) 10) word) h in
    let (some, few) = and_parts (nat_lt 0 (length word)) (nat_le (length word) 9) sizes in
    ((ltb-true 0 (length word) some, pass_digits word digits), leb-true (length word) 9 few)

pub number_is : (o : Option ℕ) (word : Text) → SomeIff o (IsShortNumeral word) (digits_value 10 word) → o ≡ number_in word
number_is None word none = elim (is_number word) as (λ b. is_number word ≡ b → None ≡ number_in word) [
  | true ↦ λ is. absurd (none (is_short word is))
  | false ↦ λ is. rw is refl
] refl
number_is (Some n) word some = let is = is_test word some.0 in rw (is, some.1) refl
