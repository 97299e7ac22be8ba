use Rattle.std.proofs.Common.{◌≡◌, ◌≤◌, ◌++◌, length, take, drop}
use Rattle.vs_rows.specs.RowMap.{IsRising, rows_from}
use Rattle.vs_rows.specs.Changes.{with_changes}
use Rattle.vs_rows.proofs.scan.scan.Given as goal

abbrev pub invariant-loop-change : goal.invariant-loop-change
invariant-loop-change l = record {
  read : take l.n (l.read.items ++ with_changes l.rest (drop l.change-index l.change-items)) ≡ take l.n (with_changes (rows_from l.rows l.from) (rows_from l.changes l.from));
  short : length l.read.items ≤ l.n;
  rising : IsRising l.rest;
  changes : IsRising l.change-items;
}
