use Rattle.std.proofs.Common.{◌≡◌, ◌++◌, take}
use Rattle.std.specs.List.{flat_map}
use Rattle.std.specs.Prelude.{codes}
use Rattle.vs_rows.specs.Said.{said_all}
use Rattle.vs_machine.specs.Report.{answer_text}
use Rattle.vs_report.proofs.answers.put_answers.Given as goal

abbrev pub invariant-loop-answer : goal.invariant-loop-answer
invariant-loop-answer l = l.out.items ≡ l.initial.out.items ++ flat_map (λ a. codes " ; " ++ answer_text a) (said_all (take l.answer-index l.rest))
