use Rattle.std.proofs.Common.{◌≡◌, ◌-◌}
use Rattle.vs_audit.proofs.Lists.{front}
use Rattle.vs_rows.specs.RowMap.{IsRising}
use Rattle.vs_audit.specs.Operations.{with_row}
use Rattle.vs_audit.specs.Reading.{many_at}
use Rattle.vs_audit.specs.Report.{row_at, rows_at}
use Rattle.vs_audit.proofs.histories.rows.Given as goal

abbrev pub invariant-loop-n : goal.invariant-loop-n
invariant-loop-n l = record {
  so_far : rows_at l.count l.fn.lines ≡ front l.rows.items (many_at row_at with_row (l.count - l.n) l.rows.items l.lines);
  rising : IsRising l.rows.items;
}
