use Rattle.vs_audit.specs.Account.{entry}
use Rattle.vs_audit.specs.ReportLines.{entry_line}
use Rattle.vs_audit.proofs.LineEnds.{told_line}
use Rattle.vs_audit.proofs.histories.entry.Goals as goal

pub returns : goal.returns
returns c n = rw c.told.ensures (told_line entry (entry_line c.args.name.now) c.args.lines.now c.next.new.self c.in_ok-line.line.number c.in_ok-line.line.words c.entry_line.result c.in_ok-line.ensures c.entry_line.ensures)
