-- The words of a line, which blanks separate.
use Rattle.std.proofs.Common.{◌≡◌, ℕ, ◌+◌, ◌<◌, true, false, not, List, [], ◌∷◌, length, take, drop, get_or, Some, None, refl, sym, ap, ◌∙◌, arith, inl, inr}
use Rattle.std.specs.Prelude.{◌==◌, filter, position}
use Rattle.std.specs.List.{slice_split}
use Rattle.std.proofs.lemmas.Bool.{cases_lt}
use Rattle.std.proofs.lemmas.Bool.Decides.{nat_tests}
use Rattle.std.proofs.lemmas.List.{length-take-le}
use Rattle.std.proofs.lemmas.List.Quantifiers.{position-Some}
use Rattle.vs_text.specs.Lines.{is_blank, words_in}
use Rattle.vs_text.proofs.Splits.{first_of_parts, only_part}

kept : (word : List ℕ) (others : List (List ℕ)) → 0 < length word → filter (λ word. not (length word == 0)) (word ∷ others) ≡ word ∷ filter (λ word. not (length word == 0)) others
kept word others some =
    let test : (length word == 0) ≡ false = grind (arith, nat_tests) in
    rw test refl

blank_after_first : (line : List ℕ) (end : ℕ) → is_blank (get_or line 0 0) ≡ false → position is_blank line ≡ Some end → (0 < end) × (end < length line)
blank_after_first line end first e =
    let found = position-Some is_blank line end 0 e in
    elim (cases_lt 0 end) [
      | inl above ↦ (above, found.0)
      | inr none ↦
          let is : end ≡ 0 = omega arith in
          let blank : is_blank (get_or line 0 0) ≡ true = ap (λ i. is_blank (get_or line i 0)) (sym is) ∙ found.1 in
          absurd cc
    ]

-- the line begins with a word, which ends at a blank
pub first_word : (line : List ℕ) (end : ℕ) → is_blank (get_or line 0 0) ≡ false → position is_blank line ≡ Some end → words_in line ≡ take end line ∷ words_in (drop (end + 1) line)
first_word line end first e =
    let within = blank_after_first line end first e in
    let some : 0 < length (take end line) = omega (arith, length-take-le end line (omega arith)) in
    rw (first_of_parts is_blank line end e) (kept (take end line) (slice_split is_blank (drop (end + 1) line)) some)

-- the line is one word
pub one_word : (line : List ℕ) → 0 < length line → position is_blank line ≡ None → words_in line ≡ line ∷ []
one_word line some e = rw (only_part is_blank line e) (kept line [] some)
