use Rattle.std.proofs.Common.{◌≡◌, ◌++◌}
use Rattle.std.specs.List.{flat_map}
use Rattle.vs_machine.specs.Report.{history_lines, numbers_to}
use Rattle.vs_state.specs.Plain.{plain}
use Rattle.vs_report.proofs.histories.put_histories.Given as goal

abbrev pub invariant-loop-index : goal.invariant-loop-index
invariant-loop-index l = l.out.items ≡ l.initial.out.items ++ flat_map (λ b. history_lines b ((plain l.state).bucket b).history) (numbers_to l.index)
