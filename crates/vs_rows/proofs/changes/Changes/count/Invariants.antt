use Rattle.std.proofs.Common.{◌≡◌, ◌≤◌, ◌+◌, take, length}
use Rattle.vs_rows.specs.Changes.{with_changes}
use Rattle.vs_rows.proofs.changes.Changes.count.Given as goal

abbrev pub invariant-loop-key : goal.invariant-loop-key
invariant-loop-key l = record {
  count : l.count ≡ length (with_changes l.rows (take l.key-index l.key-items));
  small : l.count ≤ length l.rows + l.key-index;
}
