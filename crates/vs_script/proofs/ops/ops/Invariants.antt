use Rattle.std.proofs.Common.{◌-◌, ◌≤◌, length}
use Rattle.vs_script.proofs.OpLists.{ReadSoFar}
use Rattle.vs_script.proofs.ops.ops.Given as goal

abbrev pub invariant-loop-mark : goal.invariant-loop-mark
invariant-loop-mark l = record {
  count : length l.ops.items ≤ 16;
  so_far : ReadSoFar l.mode l.fn.words l.ops.items l.words;
}

abbrev pub decreases-loop-mark : goal.decreases-loop-mark
decreases-loop-mark l = 16 - length l.ops.items
