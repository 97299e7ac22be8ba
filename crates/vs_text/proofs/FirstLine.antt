-- The first line of a text.
use Rattle.std.proofs.Common.{◌≡◌, ℕ, ◌<◌, List, [], ◌∷◌, length, refl, ap, ◌∙◌, arith}
use Rattle.std.specs.Prelude.{◌==◌}
use Rattle.std.specs.Str.Lines.{lines, lines_of_parts, strip_carriage_return}
use Rattle.std.proofs.lemmas.List.Splits.{length-slice_split}
use Rattle.vs_text.specs.Split.{lines_of}

before_others : (line : List ℕ) (parts : List (List ℕ)) → 0 < length parts → lines_of_parts (line ∷ parts) ≡ strip_carriage_return line ∷ lines_of_parts parts
before_others line [] some = absurd (omega arith)
before_others line (part ∷ parts) some = refl

-- a line that ends by a line feed comes first, without a carriage return at its end
pub line_first : (text line more : List ℕ) → lines_of text ≡ line ∷ lines_of more → lines text ≡ strip_carriage_return line ∷ lines more
line_first text line more e =
    let some : 0 < length (lines_of more) = omega (arith, length-slice_split (λ b. b == 10) more) in
    ap lines_of_parts e ∙ before_others line (lines_of more) some
