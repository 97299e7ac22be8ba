-- Texts as lines and words that one byte separates.
use Rattle.std.specs.Prelude.{ℕ, List, ◌==◌}
use Rattle.std.specs.List.{slice_split}

-- the parts of a text between the bytes of this value
abbrev pub parts : ℕ → List ℕ → List (List ℕ)
parts byte text = slice_split (λ b. b == byte) text

-- what stands between the line feeds of a text: its lines, and what follows the last line feed
abbrev pub lines_of : List ℕ → List (List ℕ)
lines_of text = parts 10 text

-- what stands between the spaces of a line
abbrev pub words_of : List ℕ → List (List ℕ)
words_of line = parts 32 line
