use Rattle.std.proofs.Common.{◌≡◌, ◌++◌, ◌+◌, drop}
use Rattle.std.specs.Prelude.{codes}
use Rattle.std.specs.List.{enumerate_from}
use Rattle.vs_calls.specs.Outcomes.{outcomes}
use Rattle.vs_machine.specs.Report.{lines, numbered_line, outcome_text}
use Rattle.vs_report.proofs.clients.put_calls.Given as goal

abbrev pub invariant-loop-i : goal.invariant-loop-i
invariant-loop-i l = l.out.items ++ lines (λ o. numbered_line (codes "call") l.who o.0 (outcome_text o.1)) (enumerate_from (l.i + 1) (outcomes (drop l.i l.answers)))
    ≡ l.initial.out.items ++ lines (λ o. numbered_line (codes "call") l.who o.0 (outcome_text o.1)) (enumerate_from 1 (outcomes l.answers))
