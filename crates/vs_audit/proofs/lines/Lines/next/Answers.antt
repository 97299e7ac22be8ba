use Rattle.vs_audit.proofs.LineEnds.{line_is}
use Rattle.vs_audit.proofs.lines.Lines.next.Goals as goal

pub returns-else-number : goal.returns-else-number
returns-else-number c = line_is c.args.self.now c.self.inside.number c.in-Some.line.now c.self.inside.rest.now c.in-Some.rest.now c.of.result c.self.view_is c.in-Some.ensures c.of.ensures
