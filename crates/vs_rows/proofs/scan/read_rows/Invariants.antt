use Rattle.std.proofs.Common.{◌≡◌, ◌≤◌, ◌+◌, ◌++◌, take, length}
use Rattle.vs_rows.proofs.scan.read_rows.Given as goal

abbrev pub invariant-loop-key : goal.invariant-loop-key
invariant-loop-key l = record {
  read : l.read.items ≡ l.fn.read.items ++ take l.key-index l.key-items;
  room : length l.key-items ≤ l.key-index + l.read.room;
}
