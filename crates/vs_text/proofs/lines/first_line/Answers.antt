use Rattle.vs_text.proofs.FirstLine.{line_first}
use Rattle.vs_text.proofs.lines.first_line.Goals as goal

pub returns-in-Some : goal.returns-in-Some
returns-in-Some c = rw c.without_return.ensures (line_first c.args.text.now c.in-Some.line.now c.in-Some.more.now c.in-Some.ensures)
