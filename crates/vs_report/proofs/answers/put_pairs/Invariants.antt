use Rattle.std.proofs.Common.{◌≡◌, ◌++◌, take}
use Rattle.vs_machine.specs.Report.{pairs_text}
use Rattle.vs_report.proofs.answers.put_pairs.Given as goal

abbrev pub invariant-loop-key : goal.invariant-loop-key
invariant-loop-key l = l.out.items ≡ l.initial.out.items ++ pairs_text (take l.key-index l.pairs)
