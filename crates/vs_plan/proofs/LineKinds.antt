-- What a line gives, by its fault, if it has one, and by its words.
use Rattle.std.proofs.Common.{◌≡◌, ℕ, Bool, true, false, List, [], ◌∷◌, Option, Some, None, Result, Ok, Err, ap, ◌∙◌, refl}
use Rattle.std.specs.Prelude.{not, if◌then◌else◌, option_and_then, is_some, MatchOption}
use Rattle.std.specs.List.{list_all}
use Rattle.vs_script.specs.Lines.{is_skipped}
use Rattle.vs_script.specs.Words.{◌>>=◌, or_bad, bad_if, short_number}
use Rattle.vs_text.specs.Lines.{has_short_words, is_text_byte, line_fault, words_in}
use Rattle.vs_text.specs.declared.fault.TextFault.{TextFault}
use Rattle.vs_text.specs.declared.fault.TextFault.TheVariants as text
use Rattle.vs_plan.specs.declared.counts.SetCount.{SetCount}
use Rattle.vs_plan.specs.declared.fault.CountsFault.TheVariants.{Line}
use Rattle.vs_plan.specs.declared.fault.LineKind.{LineKind}
use Rattle.vs_plan.specs.declared.fault.LineKind.TheVariants.{BadByte, LongWord, BadCounts}
use Rattle.vs_plan.specs.Reading.{at_line, count_of, line_of, set_count}

abbrev by_tests : Bool → Bool → Result (Option SetCount) LineKind → Result (Option SetCount) LineKind
by_tests is_text is_short rest = bad_if (not is_text) BadByte >>= (λ _. bad_if (not is_short) LongWord >>= (λ _. rest))

abbrev fault_by : ℕ → Bool → Bool → Option TextFault
fault_by number is_text is_short = if not is_text then Some (text.BadByte number) else (if not is_short then Some (text.LongWord number) else None)

abbrev counted : List (List ℕ) → Result (Option SetCount) LineKind
counted words = or_bad (count_of words) BadCounts >>= (λ count. Ok (Some count))

abbrev by_words : List (List ℕ) → Result (Option SetCount) LineKind
by_words words = if is_skipped words then Ok None else counted words

clean_by : (number : ℕ) (a b : Bool) (rest : Result (Option SetCount) LineKind) → fault_by number a b ≡ None → by_tests a b rest ≡ rest
clean_by number true true rest e = refl
clean_by number true false rest e = cc
clean_by number false b rest e = cc

clean : (number : ℕ) (line : List ℕ) → line_fault number line ≡ None → at_line number (line_of line) ≡ at_line number (by_words (words_in line))
clean number line e = ap (at_line number) (clean_by number (list_all is_text_byte line) (has_short_words line) (by_words (words_in line)) e)

skipped_words : (words : List (List ℕ)) (b : Bool) → b ≡ true → (if b then Ok None else counted words) ≡ Ok None
skipped_words words true e = refl
skipped_words words false e = cc

counted_words : (words : List (List ℕ)) (b : Bool) → b ≡ false → (if b then Ok None else counted words) ≡ counted words
counted_words words true e = cc
counted_words words false e = refl

module _ (number : ℕ) (line : List ℕ) (clear : line_fault number line ≡ None) where
  pub skipped : is_skipped (words_in line) ≡ true → at_line number (line_of line) ≡ Ok None
  skipped e = clean number line clear ∙ ap (at_line number) (skipped_words (words_in line) (is_skipped (words_in line)) e)

  here : is_skipped (words_in line) ≡ false → at_line number (line_of line) ≡ at_line number (counted (words_in line))
  here e = clean number line clear ∙ ap (at_line number) (counted_words (words_in line) (is_skipped (words_in line)) e)

  pub of_set : (c : SetCount) → is_skipped (words_in line) ≡ false → count_of (words_in line) ≡ Some c → at_line number (line_of line) ≡ Ok (Some c)
  of_set c e is = here e ∙ ap (λ (o : Option SetCount). at_line number (or_bad o BadCounts >>= (λ count. Ok (Some count)))) is

  pub of_none : is_skipped (words_in line) ≡ false → count_of (words_in line) ≡ None → at_line number (line_of line) ≡ Err (Line number BadCounts)
  of_none e is = here e ∙ ap (λ (o : Option SetCount). at_line number (or_bad o BadCounts >>= (λ count. Ok (Some count)))) is

bad_byte_by : (number m : ℕ) (a b : Bool) (rest : Result (Option SetCount) LineKind) → fault_by number a b ≡ Some (text.BadByte m) → at_line number (by_tests a b rest) ≡ Err (Line m BadByte)
bad_byte_by number m true true rest e = cc
bad_byte_by number m true false rest e = cc
bad_byte_by number m false b rest e = cc

pub bad_byte : (number m : ℕ) (line : List ℕ) → line_fault number line ≡ Some (text.BadByte m) → at_line number (line_of line) ≡ Err (Line m BadByte)
bad_byte number m line e = bad_byte_by number m (list_all is_text_byte line) (has_short_words line) (by_words (words_in line)) e

long_word_by : (number m : ℕ) (a b : Bool) (rest : Result (Option SetCount) LineKind) → fault_by number a b ≡ Some (text.LongWord m) → at_line number (by_tests a b rest) ≡ Err (Line m LongWord)
long_word_by number m true true rest e = cc
long_word_by number m true false rest e = cc
long_word_by number m false b rest e = cc

pub long_word : (number m : ℕ) (line : List ℕ) → line_fault number line ≡ Some (text.LongWord m) → at_line number (line_of line) ≡ Err (Line m LongWord)
long_word number m line e = long_word_by number m (list_all is_text_byte line) (has_short_words line) (by_words (words_in line)) e

no_memory_by : (number : ℕ) (a b : Bool) → fault_by number a b ≡ Some text.NoMemory → ⊥
no_memory_by number true true e = cc
no_memory_by number true false e = cc
no_memory_by number false b e = cc

pub no_memory : (number : ℕ) (line : List ℕ) → line_fault number line ≡ Some text.NoMemory → ⊥
no_memory number line e = no_memory_by number (list_all is_text_byte line) (has_short_words line) e

-- ---- two words

pub two_words : (words more rest : List (List ℕ)) (count pinned : List ℕ) → words ≡ count ∷ more → more ≡ pinned ∷ rest → rest ≡ [] → (a b : Option ℕ) → short_number count ≡ a → short_number pinned ≡ b
    → count_of words ≡ option_and_then (λ c. option_and_then (set_count c) b) a
two_words words more rest count pinned first second none a b is_a is_b =
    let all : words ≡ count ∷ pinned ∷ [] = first ∙ ap (λ (r : List (List ℕ)). count ∷ r) (second ∙ ap (λ (r : List (List ℕ)). pinned ∷ r) none) in
    ap count_of all ∙ ap (λ (o : Option ℕ). option_and_then (λ c. option_and_then (set_count c) (short_number pinned)) o) is_a ∙ ap (λ (o : Option ℕ). option_and_then (λ c. option_and_then (set_count c) o) a) is_b

-- where no word was found, there is none
pub none_told : {A : Type 0} (P : Type 0) (Q : A → Type 0) (o : Option A) → MatchOption o P Q → false ≡ is_some o → P
none_told P Q None told isnt = told
none_told P Q (Some a) told isnt = cc
