-- Decimal digits and the number that they write.
use Rattle.std.proofs.Common.{◌≡◌, ◌≢◌, ℕ, ◌+◌, ◌-◌, ◌*◌, ◌<◌, ◌≤◌, ◌^◌, Bool, true, false, cond, List, [], ◌∷◌, length, get_or, Option, Some, None, refl, sym, ◌∙◌, ap, subst, arith, inl, inr, lit<}
use Rattle.std.specs.Prelude.{◌&&◌, nat_lt, option_and_then}
use Rattle.std.specs.Char.{is_ascii_digit, digit_value}
use Rattle.std.specs.Fmt.{decimal}
use Rattle.std.specs.Option.{SomeIff}
use Rattle.std.specs.Str.Parse.{AllDigits, digits_value, digits_value_after}
use Rattle.std.proofs.lemmas.Bool.{and_parts, cases_lt}
use Rattle.std.proofs.lemmas.Bool.Decides.{nat_tests}
use Rattle.std.proofs.lemmas.Fmt.{decimal_is_IsNumeral, decimal_digit, decimal_nonempty, first_decimal, length-decimal-le, decimal-digits_value, decimal_injective}
use Rattle.std.proofs.lemmas.Str.{digit_value_digit}
use Rattle.std.proofs.lemmas.Str.Parse.{IsNumeralModel, numerals_by_value, tells_digits, digit_from_value, digits_value_short}
use Rattle.vs_text.specs.Number.{IsShortNumeral, IsPlain, ReadsNumber, with_digit, read_digits}

own : IsNumeralModel (AllDigits 10) (digits_value 10)
own = numerals_by_value (AllDigits 10) tells_digits

-- one more digit

first_read : (b : Bool) (x m : ℕ) (f : ℕ → Option ℕ) → option_and_then f (cond b (Some x) None) ≡ Some m → (b ≡ true) × (f x ≡ Some m)
first_read true x m f e = (refl, e)
first_read false x m f e = absurd cc

in_range : (c : ℕ) → is_ascii_digit c ≡ true → (48 ≤ c) × (c ≤ 57)
in_range c e = grind (arith, nat_tests)

value_of_digit : (c : ℕ) → (48 ≤ c) × (c ≤ 57) → digit_value c ≡ c - 48
value_of_digit c range = omega (arith, digit_value_digit c range)

fits : (n c : ℕ) → (48 ≤ c) × (c ≤ 57) → n * 10 + (c - 48) < 2 ^ 64 → with_digit n c ≡ Some (n * 10 + (c - 48))
fits n c range small = grind (arith, nat_tests)

-- what was read is the value of digits
pub read_is_value : (n : ℕ) (ds : List ℕ) (m : ℕ) → n < 2 ^ 64 → read_digits n ds ≡ Some m → AllDigits 10 ds × (digits_value_after 10 n ds ≡ m) × (m < 2 ^ 64)
read_is_value n [] m small e = (tt, (let is : n ≡ m = cc in is), (let is : n ≡ m = cc in subst (λ k. k < 2 ^ 64) is small))
read_is_value n (d ∷ ds) m small e =
    let step = first_read (is_ascii_digit d && nat_lt (n * 10 + (d - 48)) (2 ^ 64)) (n * 10 + (d - 48)) m (λ longer. read_digits longer ds) e in
    let tests = and_parts (is_ascii_digit d) (nat_lt (n * 10 + (d - 48)) (2 ^ 64)) step.0 in
    let range = in_range d tests.0 in
    let longer : n * 10 + (d - 48) < 2 ^ 64 = grind (arith, nat_tests) in
    let rest = read_is_value (n * 10 + (d - 48)) ds m longer step.1 in
    let value : digit_value d ≡ d - 48 = value_of_digit d range in
    ((omega arith, rest.0), rw value rest.1, rest.2)

longer_is_more : (n : ℕ) (ds : List ℕ) → n ≤ digits_value_after 10 n ds
longer_is_more n [] = omega arith
longer_is_more n (d ∷ ds) = omega (arith, longer_is_more (n * 10 + digit_value d) ds)

-- digits are read
pub value_is_read : (n : ℕ) (ds : List ℕ) → AllDigits 10 ds → digits_value_after 10 n ds < 2 ^ 64 → read_digits n ds ≡ Some (digits_value_after 10 n ds)
value_is_read n [] digits small = refl
value_is_read n (d ∷ ds) digits small =
    let range = digit_from_value d digits.0 in
    let value : digit_value d ≡ d - 48 = value_of_digit d range in
    let longer : n * 10 + (d - 48) < 2 ^ 64 = omega (arith, longer_is_more (n * 10 + digit_value d) ds) in
    let rest = value_is_read (n * 10 + digit_value d) ds digits.1 small in
    (ap (option_and_then (λ longer. read_digits longer ds)) (fits n d range longer) ∙ ap (λ k. read_digits (n * 10 + k) ds) (sym value)) ∙ rest

-- one to nine digits

pub short_value : (word : List ℕ) → IsShortNumeral word → digits_value 10 word < 10 ^ 9
short_value word short = digits_value_short own word 9 short.0.1 short.1

pub short_is_read : (word : List ℕ) → IsShortNumeral word → read_digits 0 word ≡ Some (digits_value 10 word)
short_is_read word short = value_is_read 0 word short.0.1 (omega (arith, short_value word short))

-- the digits of a number

zero_alone : (n : ℕ) → n < 2 ^ 64 → get_or (decimal n) 0 0 ≡ 48 → length (decimal n) ≡ 1
zero_alone n fits first =
    elim (cases_lt 0 n) [
      | inl above ↦ absurd (omega (arith, first_decimal n above fits))
      | inr none ↦ (let is : n ≡ 0 = omega arith in rw (is, decimal_digit 0 (lit< tt)) refl)
    ]

pub plain_decimal : (n : ℕ) → n < 2 ^ 64 → IsPlain (decimal n)
plain_decimal n fits = record { some = decimal_nonempty n fits; no_zero = zero_alone n fits }

pub decimal_is_read : (n : ℕ) → n < 2 ^ 64 → read_digits 0 (decimal n) ≡ Some n
decimal_is_read n fits =
    let is = decimal_is_IsNumeral n fits in
    let value : digits_value 10 (decimal n) ≡ n = is.1 in
    rw value at (value_is_read 0 (decimal n) is.0.1 (rw value fits))

-- digits that begin with no needless zero are those of the number that was read
pub read_is_decimal : (word : List ℕ) (n : ℕ) → IsPlain word → read_digits 0 word ≡ Some n → (word ≡ decimal n) × (n < 2 ^ 64)
read_is_decimal word n plain e =
    let is = read_is_value 0 word n (lit< tt) e in
    let value : digits_value 10 word ≡ n = is.1 in
    let below : digits_value 10 word < 2 ^ 64 = rw value is.2 in
    (sym (decimal-digits_value own word is.0 plain.some plain.no_zero below) ∙ ap decimal value, is.2)

-- a word is the digits of one number
pub same_number : (word : List ℕ) (m n : ℕ) → m < 2 ^ 64 → n < 2 ^ 64 → word ≡ decimal m → word ≡ decimal n → m ≡ n
same_number word m n m-fits n-fits m-is n-is = decimal_injective m n m-fits n-fits (sym m-is ∙ n-is)

-- what put_number writes is read again

pub short_again : (word : List ℕ) (r : Option ℕ) → SomeIff r (IsShortNumeral word) (digits_value 10 word) → (n : ℕ) → n < 10 ^ 9 → word ≡ decimal n → r ≡ Some n
short_again word None not n below is =
    let fits : n < 2 ^ 64 = omega arith in
    let digits = decimal_is_IsNumeral n fits in
    let short : IsShortNumeral (decimal n) = (digits.0, length-decimal-le 9 n (omega arith) below fits) in
    absurd (not (subst IsShortNumeral (sym is) short))
short_again word (Some m) gives n below is =
    let value : digits_value 10 (decimal n) ≡ n = (decimal_is_IsNumeral n (omega arith)).1 in
    ap Some (gives.1 ∙ ap (digits_value 10) is ∙ value)

pub between_again : (least most : ℕ) (word : List ℕ) (r : Option ℕ) → most < 2 ^ 64 → ReadsNumber (λ n. (least ≤ n) × (n ≤ most)) word r → (n : ℕ) → least ≤ n → n ≤ most → word ≡ decimal n → r ≡ Some n
between_again least most word None fits reads n low high is = absurd (reads n (low, high) is)
between_again least most word (Some m) fits reads n low high is =
    ap Some (same_number word m n (omega (arith, reads.0)) (omega arith) reads.1 is)

-- what a reader of a range refuses

pub not_plain : (least most : ℕ) (word : List ℕ) → most < 2 ^ 64 → ¬ IsPlain word → (n : ℕ) → (least ≤ n) × (n ≤ most) → word ≢ decimal n
not_plain least most word fits not n range is = not (subst IsPlain (sym is) (plain_decimal n (omega (arith, range.1))))

pub not_read : (least most : ℕ) (word : List ℕ) → most < 2 ^ 64 → read_digits 0 word ≡ None → (n : ℕ) → (least ≤ n) × (n ≤ most) → word ≢ decimal n
not_read least most word fits none n range is =
    let read : read_digits 0 word ≡ Some n = ap (read_digits 0) is ∙ decimal_is_read n (omega (arith, range.1)) in
    cc

pub not_in_range : (least most : ℕ) (word : List ℕ) (m : ℕ) → most < 2 ^ 64 → m < 2 ^ 64 → word ≡ decimal m → ¬ ((least ≤ m) × (m ≤ most)) → (n : ℕ) → (least ≤ n) × (n ≤ most) → word ≢ decimal n
not_in_range least most word m fits m-fits m-is out n range is =
    let same : n ≡ m = same_number word n m (omega (arith, range.1)) m-fits is m-is in
    out (subst (λ k. (least ≤ k) × (k ≤ most)) same range)
