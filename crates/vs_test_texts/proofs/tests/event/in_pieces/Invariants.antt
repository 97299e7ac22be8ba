use Rattle.std.proofs.Common.{◌≤◌, ◌-◌, length}
use Rattle.vs_test_texts.proofs.tests.event.in_pieces.Given as goal

abbrev pub invariant-loop-next : goal.invariant-loop-next
invariant-loop-next l = l.next ≤ length l.trace.items

abbrev pub decreases-loop-next : goal.decreases-loop-next
decreases-loop-next l = length l.trace.items - l.next
