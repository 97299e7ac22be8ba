use Rattle.std.proofs.Common.{◌-◌, ◌≤◌, length, take, drop}
use Rattle.vs_rows.proofs.Rising.{IsAbove, IsBelow}
use Rattle.vs_rows.proofs.sorted.place.Given as goal

abbrev pub invariant-loop-low : goal.invariant-loop-low
invariant-loop-low g l = record {
  order : l.low ≤ l.high;
  within : l.high ≤ length l.rows;
  below : IsBelow (take l.low l.rows) l.key;
  above : IsAbove l.key (drop l.high l.rows);
}

abbrev pub decreases-loop-low : goal.decreases-loop-low
decreases-loop-low g l = l.high - l.low
