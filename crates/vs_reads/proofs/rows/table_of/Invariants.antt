use Rattle.std.proofs.Common.{◌≡◌}
use Rattle.vs_reads.proofs.rows.table_of.Given as goal

abbrev pub invariant-loop-rows : goal.invariant-loop-rows
invariant-loop-rows l = l.table.items ≡ l.yielded
