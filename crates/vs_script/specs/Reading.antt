-- The script that a text gives, or its first bad line with its first fault.
use Rattle.std.specs.Prelude.{ℕ, ◌+◌, not, if◌then◌else◌, List, [], ◌∷◌, Option, Some, None, Result, Ok, Err}
use Rattle.std.specs.List.{list_all}
use Rattle.std.specs.Str.Lines.{lines}
use Rattle.vs_text.specs.Lines.{has_short_words, is_text_byte, words_in}
use Rattle.vs_script.specs.declared.fault.ScriptFault.{ScriptFault}
use Rattle.vs_script.specs.declared.fault.ScriptFault.TheVariants.{Bad}
use Rattle.vs_script.specs.declared.fault.ScriptKind.{ScriptKind}
use Rattle.vs_script.specs.declared.fault.ScriptKind.TheVariants.{BadByte, LongWord, BadHeader}
use Rattle.vs_script.specs.declared.header.Header.{Header}
use Rattle.vs_script.specs.declared.header.Header.TheVariants as header
use Rattle.vs_script.specs.Scripts.{Script, Client, Operator}
use Rattle.vs_script.specs.Words.{◌>>=◌, ◌>>◌, or_bad, bad_if}
use Rattle.vs_script.specs.Lines.{is_skipped, header_of, call_of, command_of}

-- the words of a line, of whatever kind, also of one that is skipped
abbrev pub line_words : List ℕ → Result (List (List ℕ)) ScriptKind
line_words line = do
  bad_if (not (list_all is_text_byte line)) BadByte
  bad_if (not (has_short_words line)) LongWord
  Ok (words_in line)

-- what a line of this number gives
abbrev pub at_line : {A : Type 0} → ℕ → Result A ScriptKind → Result A ScriptFault
at_line number (Ok a) = Ok a
at_line number (Err kind) = Err (Bad kind number)

-- the first of these lines that isn't skipped: its number, its words, and the lines after it
abbrev pub first_entry : ℕ → List (List ℕ)
    → Result (Option (ℕ × List (List ℕ) × List (List ℕ))) ScriptFault
first_entry number [] = Ok None
first_entry number (line ∷ lines) = do
  words ← at_line number (line_words line)
  if is_skipped words then first_entry (number + 1) lines else Ok (Some (number, words, lines))

-- what `read` gives for each line that isn't skipped, the first line being of this number
abbrev pub entries_of : {A : Type 0} → (List (List ℕ) → Result A ScriptKind) → ℕ → List (List ℕ)
    → Result (List A) ScriptFault
entries_of read number [] = Ok []
entries_of read number (line ∷ lines) = do
  words ← at_line number (line_words line)
  if is_skipped words then entries_of read (number + 1) lines else (do
    entry ← at_line number (read words)
    entries ← entries_of read (number + 1) lines
    Ok (entry ∷ entries))

-- the script whose lines after the header are these
abbrev pub body_of : ℕ → ℕ → Header → ℕ → List (List ℕ) → Result Script ScriptFault
body_of m n header.Client number lines = do
  calls ← entries_of (call_of m) number lines
  Ok (Client calls)
body_of m n header.Operator number lines = do
  commands ← entries_of (command_of m n) number lines
  Ok (Operator commands)

-- the script that a text gives over m buckets and n sets; lines are numbered from 1
unfoldable pub reading_of : ℕ → ℕ → List ℕ → Result Script ScriptFault
reading_of m n text = do
  first ← first_entry 1 (lines text)
  line ← or_bad first (Bad BadHeader 1)
  header ← at_line line.0 (header_of line.1)
  body_of m n header (line.0 + 1) line.2
