use Rattle.std.proofs.Common.{◌≡◌, ◌++◌}
use Rattle.vs_machine.specs.Report.{lines, bucket_line, numbers_to}
use Rattle.vs_state.specs.Plain.{plain}
use Rattle.vs_report.proofs.buckets.put_buckets.Given as goal

abbrev pub invariant-loop-i : goal.invariant-loop-i
invariant-loop-i l = l.out.items ≡ l.initial.out.items ++ lines (bucket_line (plain l.state)) (numbers_to l.i)
