use Rattle.std.proofs.Common.{◌≡◌, ◌+◌, ◌≤◌, take, length}
use Rattle.vs_rows.proofs.page.Page.of.Given as goal

abbrev pub invariant-loop-key : goal.invariant-loop-key
invariant-loop-key l = record {
  copied : l.copied.items ≡ take l.key-index l.pairs;
  room : length l.pairs ≤ l.key-index + l.copied.room;
}
