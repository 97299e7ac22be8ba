use Rattle.std.proofs.Common.{◌≡◌, ◌<◌, false, length, get_or, sym, ◌∙◌, rules}
use Rattle.vs_text.specs.Lines.{is_blank}
use Rattle.vs_text.proofs.Splits.{rest_whole}
use Rattle.vs_text.proofs.FirstWord.{first_word, one_word}
use Rattle.vs_text.proofs.words.next_word.Goals as goal

pub returns-in-Some : goal.returns-in-Some
returns-in-Some c =
    let line = c.without_blanks-line.result.now in
    let some : 0 < length line = search rules in
    let first : is_blank (get_or line 0 0) ≡ false = c.without_blanks-line.ensures.first some in
    rw (rest_whole line c.in-Some.end) (sym c.without_blanks-line.ensures.words ∙ first_word line c.in-Some.end first (sym c.in-Some.ensures))

pub returns-in-None : goal.returns-in-None
returns-in-None c =
    let line = c.without_blanks-line.result.now in
    let some : 0 < length line = search rules in
    sym c.without_blanks-line.ensures.words ∙ one_word line some (sym c.in-None.ensures)
