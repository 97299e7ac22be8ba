-- Lines, one after the other.
use Rattle.std.proofs.Common.{◌≡◌, ℕ, ◌+◌, ◌<◌, Bool, true, false, List, [], ◌∷◌, length, Option, Some, None, Result, Ok, Err, refl, sym, ap, ◌∙◌, subst, arith}
use Rattle.std.specs.Prelude.{◌==◌, if◌then◌else◌}
use Rattle.std.specs.Str.{bytes_eq}
use Rattle.std.proofs.lemmas.List.Splits.{length-slice_split}
use Rattle.vs_text.specs.Split.{lines_of, words_of}
use Rattle.vs_audit.specs.Given.{IsNext, MayTell, MayRead, told_at}
use Rattle.vs_audit.specs.Report.{Rest, ReadLines, begins, nothing_at, line_at, told}
use Rattle.vs_audit.specs.Words.{Words, Told, past_word}
use Rattle.vs_audit.specs.declared.line_fault.LineFault.{LineFault}
use Rattle.vs_audit.specs.declared.line_fault.LineFault.TheVariants as fault

pub some_line : (text : List ℕ) → 0 < length (lines_of text)
some_line text = omega (arith, length-slice_split (λ b. b == 10) text)

-- whether a word was passed over
abbrev pub was_passed : Option Words → Bool
was_passed (Some rest) = true
was_passed None = false

begins_words : (name : List ℕ) (lines : List (List ℕ)) (number : ℕ) (line next : List ℕ) (more : List (List ℕ)) (words : Words) → words_of line ≡ words → lines ≡ line ∷ next ∷ more
    → begins name (record { number = number; lines = lines }) ≡ was_passed (past_word name words)
begins_words name lines number line next more [] is all = rw (all, is) refl
begins_words name lines number line next more (word ∷ words) is all = rw (all, is) (by_test (bytes_eq word name))
  where
    by_test : (b : Bool) → b ≡ was_passed (if b then Some words else None)
    by_test true = refl
    by_test false = refl

begins_more : (name : List ℕ) (lines : List (List ℕ)) (number : ℕ) (line : List ℕ) (more : List (List ℕ)) → 0 < length more → lines ≡ line ∷ more
    → begins name (record { number = number; lines = lines }) ≡ was_passed (past_word name (words_of line))
begins_more name lines number line [] some all = absurd (omega arith)
begins_more name lines number line (next ∷ more) some all = begins_words name lines number line next more (words_of line) refl all

told_passed : (b : Bool) (o : Option Words) (rest : Words) → o ≡ (if b then Some rest else None) → b ≡ was_passed o
told_passed true o rest is = rw is refl
told_passed false o rest is = rw is refl

-- what a reader of the first word tells
pub begins_by : (name : List ℕ) (old : Rest) (line more : List ℕ) (b : Bool) (rest : Words) → old.lines ≡ line ∷ lines_of more
    → past_word name (words_of line) ≡ (if b then Some rest else None) → b ≡ begins name old
begins_by name old line more b rest all is =
    told_passed b (past_word name (words_of line)) rest is ∙ sym (begins_more name old.lines old.number line (lines_of more) (some_line more) all)

-- the next line, as a reader of its bytes sees it
pub line_is : (old : Rest) (number : ℕ) (line text more : List ℕ) (words : Words) → record { number = number; lines = lines_of text } ≡ old
    → lines_of text ≡ line ∷ lines_of more → words ≡ words_of line → IsNext old number words (record { number = number + 1; lines = lines_of more })
line_is old number line text more words seen all is =
    subst (λ (r : Rest). IsNext r number words (record { number = number + 1; lines = lines_of more })) seen
    (record { line = line; first = all; is_words = is; more = some_line more; is_number = refl; next = refl })

-- ---- the end

ends_not : (number : ℕ) (lines : List (List ℕ)) (byte : ℕ) (bytes : List ℕ) → lines ≡ (byte ∷ bytes) ∷ [] → nothing_at (record { number = number; lines = lines }) ≡ Err number
ends_not number lines byte bytes all = rw all refl

goes_on : (number : ℕ) (lines : List (List ℕ)) (line : List ℕ) (more : List (List ℕ)) → lines ≡ line ∷ more → 0 < length more → nothing_at (record { number = number; lines = lines }) ≡ Err number
goes_on number lines line [] all some = absurd (omega arith)
goes_on number lines [] (next ∷ more) all some = rw all refl
goes_on number lines (byte ∷ bytes) (next ∷ more) all some = rw all refl

pub line_left : (old : Rest) (number : ℕ) (line text more : List ℕ) → record { number = number; lines = lines_of text } ≡ old → lines_of text ≡ line ∷ lines_of more → nothing_at old ≡ Err number
line_left old number line text more seen all =
    subst (λ (r : Rest). nothing_at r ≡ Err number) seen (goes_on number (lines_of text) line (lines_of more) all (some_line more))

pub bytes_left : (old : Rest) (number : ℕ) (text : List ℕ) → record { number = number; lines = lines_of text } ≡ old → lines_of text ≡ text ∷ [] → false ≡ (length text == 0) → nothing_at old ≡ Err number
bytes_left old number [] seen all some = cc
bytes_left old number (byte ∷ bytes) seen all some =
    subst (λ (r : Rest). nothing_at r ≡ Err number) seen (ends_not number (lines_of (byte ∷ bytes)) byte bytes all)

-- ---- a line less

abbrev rest_of : {A : Type 0} → Rest → ReadLines A → Rest
rest_of default (Ok read) = read.1
rest_of default (Err line) = default

told_rest : {A : Type 0} (number : ℕ) (r : Told A) (left rest : Rest) (a : A) → told number r left ≡ Ok (a, rest) → left ≡ rest
told_rest {A} number (Ok x) left rest a is = ap (λ (r : ReadLines A). rest_of left r) is
told_rest {A} number (Err bad) left rest a is = cc

shorter : {A : Type 0} (read : ℕ → Words → Told A) (number : ℕ) (lines : List (List ℕ)) (rest : Rest) (a : A) → line_at read (record { number = number; lines = lines }) ≡ Ok (a, rest) → length lines ≡ length rest.lines + 1
shorter read number [] rest a is = cc
shorter read number (last ∷ []) rest a is = cc
shorter read number (line ∷ more ∷ lines) rest a is =
    let e = told_rest number (read number (words_of line)) (record { number = number + 1; lines = more ∷ lines }) rest a is in
    let l : length (more ∷ lines) ≡ length rest.lines = ap (λ (r : Rest). length r.lines) e in
    omega arith

pub line_less : {A : Type 0} (read : ℕ → Words → Told A) (old rest : Rest) (a : A) → line_at read old ≡ Ok (a, rest) → length old.lines ≡ length rest.lines + 1
line_less read old rest a is = shorter read old.number old.lines rest a is

begins_some : (name : List ℕ) (number : ℕ) (lines : List (List ℕ)) → begins name (record { number = number; lines = lines }) ≡ true → 0 < length lines
begins_some name number [] is = cc
begins_some name number (line ∷ lines) is = omega arith

pub begins_within : (name : List ℕ) (old : Rest) → begins name old ≡ true → 0 < length old.lines
begins_within name old is = begins_some name old.number old.lines is

-- ---- a line that is told with its number

next_told : {A : Type 0} (read : ℕ → Words → Told A) (first number next : ℕ) (lines left : List (List ℕ)) (line : List ℕ) (words : Words)
    → lines ≡ line ∷ left → words ≡ words_of line → 0 < length left → number ≡ first → next ≡ first + 1
    → line_at read (record { number = first; lines = lines }) ≡ told number (read number words) (record { number = next; lines = left })
next_told read first number next lines [] line words all is some same step = absurd (omega arith)
next_told read first number next lines (other ∷ left) line words all is some same step = rw (all, is, same, step) refl

pub told_line : {X Y : Type 0} (view : X → Y) (read : ℕ → Words → Told Y) (old new : Rest) (number : ℕ) (words : Words) (r : Result X LineFault)
    → IsNext old number words new → MayTell view r (read number words) → MayRead view (told_at number r) new (line_at read old)
told_line {X} {Y} view read old new number words (Ok x) next is =
    next_told read old.number number new.number old.lines new.lines next.line words next.first next.is_words next.more next.is_number next.next ∙ ap (λ (t : Told Y). told number t new) is
told_line {X} {Y} view read old new number words (Err fault.Bad) next is =
    next_told read old.number number new.number old.lines new.lines next.line words next.first next.is_words next.more next.is_number next.next ∙ ap (λ (t : Told Y). told number t new) is
told_line view read old new number words (Err fault.NoMemory) next is = tt
