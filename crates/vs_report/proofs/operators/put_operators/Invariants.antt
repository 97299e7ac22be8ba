use Rattle.std.proofs.Common.{◌≡◌, ◌++◌}
use Rattle.std.specs.List.{flat_map}
use Rattle.vs_machine.specs.Report.{command_lines, numbers_to}
use Rattle.vs_state.specs.Plain.{plain}
use Rattle.vs_report.proofs.operators.put_operators.Given as goal

abbrev pub invariant-loop-i : goal.invariant-loop-i
invariant-loop-i l = l.out.items ≡ l.initial.out.items ++ flat_map (λ k. command_lines k ((plain l.state).operator k)) (numbers_to l.i)
