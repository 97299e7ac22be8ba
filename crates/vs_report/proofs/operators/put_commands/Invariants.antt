use Rattle.std.proofs.Common.{◌≡◌, ◌++◌, ◌+◌, drop}
use Rattle.std.specs.Prelude.{codes}
use Rattle.std.specs.List.{enumerate_from}
use Rattle.vs_machine.specs.Report.{lines, numbered_line, command_text}
use Rattle.vs_report.proofs.operators.put_commands.Given as goal

abbrev pub invariant-loop-i : goal.invariant-loop-i
invariant-loop-i l = l.out.items ++ lines (λ c. numbered_line (codes "command") l.who c.0 (command_text c.1)) (enumerate_from (l.i + 1) (drop l.i l.answers))
    ≡ l.initial.out.items ++ lines (λ c. numbered_line (codes "command") l.who c.0 (command_text c.1)) (enumerate_from 1 l.answers)
