use Rattle.std.proofs.Common.{◌≡◌, ◌≤◌, ◌-◌, length}
use Rattle.vs_audit.proofs.Lists.{front}
use Rattle.vs_audit.specs.Operations.{op_at, after_op, ops_at}
use Rattle.vs_audit.specs.Reading.{listed_at}
use Rattle.vs_audit.specs.Words.{Bad}
use Rattle.vs_audit.proofs.ops.ops.Given as goal

abbrev pub invariant-loop-mark : goal.invariant-loop-mark
invariant-loop-mark l = record {
  count : length l.ops.items ≤ 16;
  so_far : ops_at 16 l.fn.words ≡ front l.ops.items (after_op (listed_at Bad op_at after_op (16 - length l.ops.items)) l.words);
}

abbrev pub decreases-loop-mark : goal.decreases-loop-mark
decreases-loop-mark l = 16 - length l.ops.items
