use Rattle.std.proofs.Common.{ap, sym, ◌∙◌}
use Rattle.vs_audit.specs.Report.{Rest}
use Rattle.vs_audit.specs.Words.{past_word}
use Rattle.vs_audit.proofs.LineEnds.{begins_by}
use Rattle.vs_audit.proofs.lines.Lines.begin.Goals as goal

pub returns-in-Some : goal.returns-in-Some
returns-in-Some c =
    begins_by c.args.name.now c.args.self.now c.in-Some.line.now c.in-Some.field-0-1.now c.passes_word.result c.passes_word.new.self
    (ap (λ (r : Rest). r.lines) (sym c.self.view_is) ∙ c.in-Some.ensures)
    (ap (past_word c.args.name.now) (sym c.of-words.ensures) ∙ c.passes_word.ensures.past)
