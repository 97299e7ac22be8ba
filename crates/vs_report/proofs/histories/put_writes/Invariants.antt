use Rattle.std.proofs.Common.{◌≡◌, ◌++◌, take}
use Rattle.std.specs.Prelude.{codes}
use Rattle.vs_history.specs.Means.{means}
use Rattle.vs_machine.specs.Report.{lines, history_entry}
use Rattle.vs_report.proofs.histories.put_writes.Given as goal

abbrev pub invariant-loop-n : goal.invariant-loop-n
invariant-loop-n l = l.out.items ≡ l.initial.out.items ++ lines (history_entry (codes "write")) (take l.n (means l.history).writes)
