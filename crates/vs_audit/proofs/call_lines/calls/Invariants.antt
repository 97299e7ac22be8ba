use Rattle.std.proofs.Common.{◌≡◌, ◌≤◌, ◌+◌, ◌-◌, length, map}
use Rattle.std.specs.Prelude.{codes}
use Rattle.vs_audit.proofs.Lists.{front}
use Rattle.vs_audit.proofs.Rising.{RiseTo}
use Rattle.vs_audit.specs.Account.{call}
use Rattle.vs_audit.specs.Legal.{number_of}
use Rattle.vs_audit.specs.Reading.{all_at}
use Rattle.vs_audit.specs.Report.{begins, call_at, calls_at}
use Rattle.vs_audit.proofs.call_lines.calls.Given as goal

abbrev pub invariant-loop-alloc : goal.invariant-loop-alloc
invariant-loop-alloc l = record {
  so_far : calls_at l.sets l.fn.lines ≡ front (map call l.calls.items) (all_at (begins (codes "call")) (call_at l.sets) (λ _ c. number_of c.id) (length l.fn.lines.lines - length l.calls.items) l.last l.lines);
  fewer : length l.lines.lines + length l.calls.items ≤ length l.fn.lines.lines;
  rises : RiseTo (map call l.calls.items) l.last;
}

abbrev pub decreases-loop-alloc : goal.decreases-loop-alloc
decreases-loop-alloc l = length l.lines.lines
