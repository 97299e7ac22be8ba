use Rattle.std.proofs.Common.{arith}
use Rattle.std.specs.Prelude.{codes}
use Rattle.vs_machine.specs.Report.{history_entry}
use Rattle.vs_report.proofs.Listed.{lines_more}
use Rattle.vs_report.proofs.histories.put_writes.Goals as goal

pub loop-n-preserved : goal.loop-n-preserved
loop-n-preserved c =
    lines_more (history_entry (codes "write")) _ c.loop-n.n _ _ _ _ _ (omega arith) c.write_entry.ensures c.loop-n.invariant c.in_ok-put_entry.ensures
