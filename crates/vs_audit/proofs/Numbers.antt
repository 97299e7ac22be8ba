-- Words that are numbers.
use Rattle.std.proofs.Common.{◌≡◌, ℕ, ◌<◌, ◌≤◌, ◌^◌, ◌&&◌, nat_le, List, ◌∷◌, Some, None, Ok, Err, true, false, refl, sym, ap, ◌∙◌, arith}
use Rattle.std.specs.Fmt.{decimal}
use Rattle.std.specs.Str.{bytes_eq}
use Rattle.std.specs.Str.Parse.{digits_value}
use Rattle.std.proofs.lemmas.Bool.{and_parts, leb-true, le-leb, false_from_ne_true}
use Rattle.std.proofs.lemmas.Fmt.{decimal_is_IsNumeral}
use Rattle.std.proofs.lemmas.Slice.Eq.{bytes_eq-Decides}
use Rattle.vs_text.specs.Number.{ReadsNumber}
use Rattle.vs_audit.specs.Outcomes.{maybe_set_at}
use Rattle.vs_audit.specs.Words.{Words, Bad, is_number, number_at, word_at, past_number}

abbrev IsWithin : ℕ → ℕ → ℕ → Type 0
IsWithin least most n = (least ≤ n) × (n ≤ most)

value_is : (word : List ℕ) (n : ℕ) → n < 2 ^ 64 → word ≡ decimal n → digits_value 10 word ≡ n
value_is word n fits is = ap (digits_value 10) is ∙ (decimal_is_IsNumeral n fits).1

-- the digits of a number of the range pass
passes : (least most : ℕ) (word : List ℕ) (n : ℕ) → most < 2 ^ 64 → IsWithin least most n → word ≡ decimal n → is_number least most word ≡ true
passes least most word n fits within is =
    let value : digits_value 10 word ≡ n = value_is word n (omega (arith, within.1)) is in
    let spelled : bytes_eq word (decimal (digits_value 10 word)) ≡ true =
    (bytes_eq-Decides word (decimal (digits_value 10 word))).1 (is ∙ ap decimal (sym value)) in
    let low : nat_le least (digits_value 10 word) ≡ true = le-leb least (digits_value 10 word) (omega (arith, value, within.0)) in
    let high : nat_le (digits_value 10 word) most ≡ true = le-leb (digits_value 10 word) most (omega (arith, value, within.1)) in
    rw (spelled, low, high) refl

-- what passes is the digits of a number of the range
passed : (least most : ℕ) (word : List ℕ) → is_number least most word ≡ true → IsWithin least most (digits_value 10 word) × (word ≡ decimal (digits_value 10 word))
passed least most word test =
    let front = and_parts (bytes_eq word (decimal (digits_value 10 word)) && nat_le least (digits_value 10 word)) (nat_le (digits_value 10 word) most) test in
    let parts = and_parts (bytes_eq word (decimal (digits_value 10 word))) (nat_le least (digits_value 10 word)) front.0 in
    ((leb-true least (digits_value 10 word) parts.1, leb-true (digits_value 10 word) most front.1), (bytes_eq-Decides word (decimal (digits_value 10 word))).0 parts.0)

fails : (least most : ℕ) (word : List ℕ) → ReadsNumber (IsWithin least most) word None → is_number least most word ≡ false
fails least most word none =
    false_from_ne_true (is_number least most word) (λ test.
    let p = passed least most word test in
    none (digits_value 10 word) p.0 p.1)

pub number_read : (least most : ℕ) (words rest : Words) (word : List ℕ) (n : ℕ) → most < 2 ^ 64 → word_at words ≡ Ok (word, rest)
    → ReadsNumber (IsWithin least most) word (Some n) → number_at least most words ≡ Ok (n, rest)
number_read least most words rest word n fits first is =
    let test = passes least most word n fits is.0 is.1 in
    let value = value_is word n (omega (arith, is.0.1)) is.1 in
    rw (first, test, value) refl

pub number_refused : (least most : ℕ) (words rest : Words) (word : List ℕ) → word_at words ≡ Ok (word, rest)
    → ReadsNumber (IsWithin least most) word None → number_at least most words ≡ Err Bad
number_refused least most words rest word first none =
    let test = fails least most word none in
    rw (first, test) refl

pub number_past : (n : ℕ) (words rest : Words) (word : List ℕ) (m : ℕ) → n < 2 ^ 64 → words ≡ word ∷ rest
    → ReadsNumber (IsWithin n n) word (Some m) → past_number n words ≡ Some rest
number_past n words rest word m fits first is =
    let test = passes n n word m fits is.0 is.1 in
    rw (first, test) refl

pub no_number_past : (n : ℕ) (words rest : Words) (word : List ℕ) → words ≡ word ∷ rest
    → ReadsNumber (IsWithin n n) word None → past_number n words ≡ None
no_number_past n words rest word first none =
    let test = fails n n word none in
    rw (first, test) refl

-- a set behind a name, or nothing

pub set_read : (sets : ℕ) (words rest : Words) (word : List ℕ) (n : ℕ) → sets < 2 ^ 64 → words ≡ word ∷ rest
    → ReadsNumber (IsWithin 1 sets) word (Some n) → maybe_set_at sets words ≡ Ok rest
set_read sets words rest word n fits first is =
    let test = passes 1 sets word n fits is.0 is.1 in
    rw (first, test) refl

pub set_refused : (sets : ℕ) (words rest : Words) (word : List ℕ) → words ≡ word ∷ rest
    → ReadsNumber (IsWithin 1 sets) word None → maybe_set_at sets words ≡ Err Bad
set_refused sets words rest word first none =
    let test = fails 1 sets word none in
    rw (first, test) refl
