-- The words of a short line are short.
use Rattle.std.proofs.Common.{◌≡◌, ℕ, ◌+◌, ◌≤◌, Bool, true, false, cond, not, List, [], ◌∷◌, length, refl, subst, arith}
use Rattle.std.specs.Prelude.{◌==◌, nat_le, filter, ⊤}
use Rattle.std.specs.List.{list_all, slice_split, onto_first}
use Rattle.std.proofs.lemmas.Bool.{and_parts}
use Rattle.std.proofs.lemmas.Bool.Decides.{nat_tests}
use Rattle.vs_text.specs.Lines.{is_blank, words_in}

-- the first part has at most this many bytes, and the others have at most that many
abbrev Fit : ℕ → ℕ → List (List ℕ) → Type 0
Fit long most [] = ⊤
Fit long most (part ∷ parts) = (length part ≤ long) × (list_all (λ word. nat_le (length word) most) parts ≡ true)

all_short : (long most : ℕ) (parts : List (List ℕ)) → long ≤ most → Fit long most parts → list_all (λ word. nat_le (length word) most) parts ≡ true
all_short long most [] within fit = refl
all_short long most (part ∷ parts) within fit =
    let first : nat_le (length part) most ≡ true = grind (arith, nat_tests) in
    rw (first, fit.1) refl

longer : (b : ℕ) (long most : ℕ) (parts : List (List ℕ)) → Fit long most parts → Fit (long + 1) most (onto_first b parts)
longer b long most [] fit = (omega arith, refl)
longer b long most (part ∷ parts) fit = (omega (arith, fit.0), fit.1)

by_test : (b long most : ℕ) (parts : List (List ℕ)) (test : Bool) → long ≤ most → Fit long most parts → Fit (long + 1) most (cond test ([] ∷ parts) (onto_first b parts))
by_test b long most parts true within fit = (omega arith, all_short long most parts within fit)
by_test b long most parts false within fit = longer b long most parts fit

parts_fit : (p : ℕ → Bool) (line : List ℕ) (most : ℕ) → length line ≤ most → Fit (length line) most (slice_split p line)
parts_fit p [] most within = (omega arith, refl)
parts_fit p (b ∷ bs) most within =
    let fit = by_test b (length bs) most (slice_split p bs) (p b) (omega arith) (parts_fit p bs most (omega arith)) in
    let same : length bs + 1 ≡ length (b ∷ bs) = omega arith in
    subst (λ (n : ℕ). Fit n most (slice_split p (b ∷ bs))) same fit

one_kept : (p : List ℕ → Bool) (word : List ℕ) (kept : List (List ℕ)) (test : Bool) → p word ≡ true → list_all p kept ≡ true → list_all p (cond test (word ∷ kept) kept) ≡ true
one_kept p word kept true passes all = rw (passes, all) refl
one_kept p word kept false passes all = all

among_kept : (p keep : List ℕ → Bool) (words : List (List ℕ)) → list_all p words ≡ true → list_all p (filter keep words) ≡ true
among_kept p keep [] all = refl
among_kept p keep (word ∷ words) all =
    let passes = and_parts (p word) (list_all p words) all in
    one_kept p word (filter keep words) (keep word) passes.0 (among_kept p keep words passes.1)

-- a line of at most this many bytes has no longer word
pub short_line : (line : List ℕ) (most : ℕ) → length line ≤ most → list_all (λ word. nat_le (length word) most) (words_in line) ≡ true
short_line line most within =
    among_kept (λ word. nat_le (length word) most) (λ word. not (length word == 0)) (slice_split is_blank line) (all_short (length line) most (slice_split is_blank line) within (parts_fit is_blank line most within))
