-- Texts as numbered lines of words.
use Rattle.std.specs.Prelude.{ℕ, ◌≡◌, ◌+◌, Bool, ◌==◌, ◌&&◌, ◌||◌, not, nat_le, if◌then◌else◌, List, [], ◌∷◌, length, map, filter, Option, Some, None, ⊤}
use Rattle.std.specs.Option.{option_or}
use Rattle.std.specs.List.{list_all, slice_split}
use Rattle.std.specs.Str.Lines.{lines}
use Rattle.vs_text.specs.declared.fault.TextFault.{TextFault}
use Rattle.vs_text.specs.declared.fault.TextFault.TheVariants.{BadByte, LongWord, NoMemory}
use Rattle.vs_text.specs.declared.lines.Line.{Line}

-- a space or a tab
abbrev pub is_blank : ℕ → Bool
is_blank byte = (byte == 32) || (byte == 9)

-- a byte that may stand in a line: a tab, or one from 0x20 to 0x7E
abbrev pub is_text_byte : ℕ → Bool
is_text_byte byte = (byte == 9) || (nat_le 32 byte && nat_le byte 126)

-- the words of a line, which one blank or more separate
abbrev pub words_in : List ℕ → List (List ℕ)
words_in line = filter (λ word. not (length word == 0)) (slice_split is_blank line)

-- the most bytes of a word
abbrev pub word_limit : ℕ
word_limit = 256

-- whether no word of a line is longer
abbrev pub has_short_words : List ℕ → Bool
has_short_words line = list_all (λ word. nat_le (length word) word_limit) (words_in line)

-- the fault of a line of this number, if it has one: a byte that may not stand there, or else
-- a long word
abbrev pub line_fault : ℕ → List ℕ → Option TextFault
line_fault number line =
    if not (list_all is_text_byte line) then Some (BadByte number)
    else (if not (has_short_words line) then Some (LongWord number) else None)

-- the fault of the first of these lines that has one, the first being of this number
abbrev pub first_fault : ℕ → List (List ℕ) → Option TextFault
first_fault number [] = None
first_fault number (line ∷ lines) =
    option_or (line_fault number line) (first_fault (number + 1) lines)

-- the text has this fault first, or memory was wanted
abbrev pub IsFirstFault : List ℕ → TextFault → Type 0
IsFirstFault text (BadByte number) = first_fault 1 (lines text) ≡ Some (BadByte number)
IsFirstFault text (LongWord number) = first_fault 1 (lines text) ≡ Some (LongWord number)
IsFirstFault text NoMemory = ⊤

-- a line as its number and its words
pub record Numbered : Type 0 where
  pub number : ℕ
  pub words : List (List ℕ)

-- the lines with their numbers, the first being of this number
abbrev pub numbered : ℕ → List (List ℕ) → List Numbered
numbered number [] = []
numbered number (line ∷ lines) =
    record { number = number; words = words_in line } ∷ numbered (number + 1) lines

-- a line without the room that its words have
abbrev pub seen : Line → Numbered
seen line = record { number = line.number; words = map (λ word. word.items) line.words.items }
