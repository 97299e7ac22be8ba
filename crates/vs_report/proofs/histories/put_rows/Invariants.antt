use Rattle.std.proofs.Common.{◌≡◌, ◌++◌, take}
use Rattle.vs_machine.specs.Report.{lines, row_line}
use Rattle.vs_report.proofs.histories.put_rows.Given as goal

abbrev pub invariant-loop-key : goal.invariant-loop-key
invariant-loop-key l = l.out.items ≡ l.initial.out.items ++ lines row_line (take l.key-index l.rows)
