use Rattle.vs_audit.proofs.LineEnds.{line_left, bytes_left}
use Rattle.vs_audit.proofs.lines.Lines.end.Goals as goal

pub returns-in-Some : goal.returns-in-Some
returns-in-Some c = line_left c.args.self.now c.self.inside.number c.in-Some.field-0.0.now c.self.inside.rest.now c.in-Some.field-0.1.now c.self.view_is c.in-Some.ensures

pub returns-else-is_empty : goal.returns-else-is_empty
returns-else-is_empty c = bytes_left c.args.self.now c.self.inside.number c.self.inside.rest.now c.self.view_is c.in-None.ensures c.if-is_empty.ensures
