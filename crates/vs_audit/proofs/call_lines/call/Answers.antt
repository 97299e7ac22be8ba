use Rattle.vs_audit.specs.Account.{call}
use Rattle.vs_audit.specs.ReportLines.{call_line}
use Rattle.vs_audit.proofs.LineEnds.{told_line}
use Rattle.vs_audit.proofs.call_lines.call.Goals as goal

pub returns-clause-read : goal.returns-clause-read
returns-clause-read c = rw c.told.ensures (told_line call (call_line c.args.sets c.args.last) c.args.lines.now c.next.new.self c.in_ok-line.line.number c.in_ok-line.line.words c.call_line.result c.in_ok-line.ensures c.call_line.ensures.read)
