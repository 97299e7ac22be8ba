use Rattle.std.proofs.Common.{◌≡◌, ◌++◌, map, take}
use Rattle.vs_machine.specs.Report.{lines}
use Rattle.vs_reads.specs.Jobs.{read_in, rows_of}
use Rattle.vs_reads.specs.Reads.{read_text}
use Rattle.vs_reads.proofs.text.put_reads.Given as goal

abbrev pub invariant-loop-i : goal.invariant-loop-i
invariant-loop-i l = l.out.items ≡ l.fn.out.items ++ lines (read_text (rows_of l.maps)) (map read_in (take l.i l.jobs))
