-- Words that are numbers of 1 to 9 digits.
use Rattle.std.proofs.Common.{◌≡◌, ℕ, nat_le, nat_lt, List, length, Option, Some, None, true, ◌&&◌, refl}
use Rattle.std.specs.Bool.{Decides}
use Rattle.std.specs.Option.{SomeIff}
use Rattle.std.specs.Str.{all_ascii_digits}
use Rattle.std.specs.Str.Parse.{digits_value}
use Rattle.std.proofs.lemmas.Bool.{leb-true, le-leb, false_from_ne_true}
use Rattle.std.proofs.lemmas.Bool.Decides.{Decides-and, Decides-like, Decides-ltb}
use Rattle.std.proofs.lemmas.Str.Parse.{IsNumeralModel, numerals_by_value, tells_all_ascii_digits}
use Rattle.vs_text.specs.Number.{IsShortNumeral}
use Rattle.vs_script.specs.Words.{short_number}

own : IsNumeralModel (λ ds. all_ascii_digits ds ≡ true) (digits_value 10)
own = numerals_by_value (λ ds. all_ascii_digits ds ≡ true) tells_all_ascii_digits

short_decides : (word : List ℕ) → Decides (nat_lt 0 (length word) && nat_le (length word) 9 && all_ascii_digits word) (IsShortNumeral word)
short_decides word =
    let some = nat_lt 0 (length word) in
    let short = nat_le (length word) 9 in
    let lengths = Decides-and some short (Decides-ltb 0 (length word)) (leb-true (length word) 9, le-leb (length word) 9) in
    let digits : Decides (all_ascii_digits word) (all_ascii_digits word ≡ true) = (λ e. e, λ e. e) in
    let all = Decides-and (some && short) (all_ascii_digits word) lengths digits in
    Decides-like (some && short && all_ascii_digits word)
    (λ p. ((p.0.0, own.to word p.1), p.0.1))
    (λ (s : IsShortNumeral word). ((s.0.0, s.1), own.from word s.0.1)) all

-- what `number` reads
pub short_number_is : (word : List ℕ) (r : Option ℕ) → SomeIff r (IsShortNumeral word) (digits_value 10 word) → short_number word ≡ r
short_number_is word None isnt =
    let test = false_from_ne_true (nat_lt 0 (length word) && nat_le (length word) 9 && all_ascii_digits word) (λ t. isnt ((short_decides word).0 t)) in
    rw test refl
short_number_is word (Some n) is =
    let test = (short_decides word).1 is.0 in
    rw (test, is.1) refl
