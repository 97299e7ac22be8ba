-- Words without spaces, and lines without line feeds.
use Rattle.std.proofs.Common.{◌≡◌, ◌≢◌, ℕ, ◌<◌, ◌≤◌, ◌^◌, Bool, true, false, List, [], ◌∷◌, ◌++◌, length, get_or, Option, Some, None, sym, ap, ◌∙◌, arith}
use Rattle.std.specs.Prelude.{◌==◌, nat_lt}
use Rattle.std.specs.Fmt.{decimal}
use Rattle.std.specs.List.{All, AllByRecursion, join_with_byte, list_all}
use Rattle.std.proofs.lemmas.Bool.Decides.{nat_tests}
use Rattle.std.proofs.lemmas.Fmt.{decimal_is_IsNumeral}
use Rattle.std.proofs.lemmas.List.Elements.{All-from_get_or}
use Rattle.std.proofs.lemmas.List.Splits.{join_with_byte-slice_split, length-slice_split, slice_split_at, slice_split_none}
use Rattle.std.proofs.lemmas.List.Sums.{AllPass-from_list_all, list_all-from_AllPass}
use Rattle.std.proofs.lemmas.Str.Parse.{digit_at}
use Rattle.vs_text.specs.Number.{Reads, ReadsNumber}
use Rattle.vs_text.specs.Split.{parts, words_of}

-- each byte is above this one
abbrev pub is_above : ℕ → List ℕ → Bool
is_above c bytes = list_all (λ b. nat_lt c b) bytes

not_this : (c b : ℕ) → nat_lt c b ≡ true → (b == c) ≡ false
not_this c b above = grind (arith, nat_tests)

none_is : (c : ℕ) (bytes : List ℕ) → is_above c bytes ≡ true → All (λ b. (b == c) ≡ false) bytes
none_is c bytes above =
    let all = AllPass-from_list_all (λ b. nat_lt c b) bytes above in
    λ k d within. not_this c (get_or bytes k d) (all k d within)

-- a text without this byte is one part
pub one_part : (c : ℕ) (bytes : List ℕ) → is_above c bytes ≡ true → parts c bytes ≡ bytes ∷ []
one_part c bytes above = slice_split_none (λ b. b == c) bytes (none_is c bytes above)

same_byte : (c : ℕ) → (c == c) ≡ true
same_byte c = grind (arith, nat_tests)

-- and ends where the byte follows
pub first_part : (c : ℕ) (bytes more : List ℕ) → is_above c bytes ≡ true → parts c (bytes ++ c ∷ more) ≡ bytes ∷ parts c more
first_part c bytes more above = slice_split_at (λ b. b == c) bytes c more (none_is c bytes above) (same_byte c)

pub some_parts : (c : ℕ) (text : List ℕ) → parts c text ≢ []
some_parts c text none = absurd (omega (arith, length-slice_split (λ b. b == c) text, ap length none))

-- a text is its parts
pub joined : (c : ℕ) (text : List ℕ) → join_with_byte c (parts c text) ≡ text
joined c text = join_with_byte-slice_split c text

pub whole : (c : ℕ) (text part : List ℕ) → parts c text ≡ part ∷ [] → text ≡ part
whole c text part e = sym (joined c text) ∙ ap (join_with_byte c) e

-- words as a line, and back
pub words_of_joined : (word : List ℕ) (words : List (List ℕ)) → AllByRecursion (λ w. is_above 32 w ≡ true) (word ∷ words) → words_of (join_with_byte 32 (word ∷ words)) ≡ word ∷ words
words_of_joined word [] plain = one_part 32 word plain.0
words_of_joined word (next ∷ words) plain =
    first_part 32 word (join_with_byte 32 (next ∷ words)) plain.0 ∙ ap (λ (ws : List (List ℕ)). word ∷ ws) (words_of_joined next words plain.1)

-- digits

digit_above : (digits : List ℕ) (i : ℕ) → 48 ≤ get_or digits i 0 → nat_lt 32 (get_or digits i 0) ≡ true
digit_above digits i least = grind (arith, nat_tests)

pub decimal_above : (n : ℕ) → n < 2 ^ 64 → is_above 32 (decimal n) ≡ true
decimal_above n fits =
    let digits = (decimal_is_IsNumeral n fits).0.1 in
    list_all-from_AllPass (λ b. nat_lt 32 b) (decimal n)
    (All-from_get_or (λ b. nat_lt 32 b ≡ true) (decimal n) 0 (λ i within. digit_above (decimal n) i (digit_at (decimal n) i digits within).0))

-- a number that is all of these words
pub last_number : (InRange : ℕ → Type 0) → ((n : ℕ) → InRange n → n < 2 ^ 64) → (words : List ℕ) (result : Option ℕ) → ReadsNumber InRange words result → Reads InRange (λ n. decimal n ∷ []) (words_of words) result
last_number InRange fits words None reads = λ n range is. reads n range (whole 32 words (decimal n) is)
last_number InRange fits words (Some n) reads =
    (reads.0, ap words_of reads.1 ∙ one_part 32 (decimal n) (decimal_above n (fits n reads.0)))
