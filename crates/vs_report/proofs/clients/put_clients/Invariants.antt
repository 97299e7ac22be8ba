use Rattle.std.proofs.Common.{◌≡◌, ◌++◌}
use Rattle.std.specs.List.{flat_map}
use Rattle.vs_machine.specs.Report.{call_lines, numbers_to}
use Rattle.vs_state.specs.Plain.{plain}
use Rattle.vs_report.proofs.clients.put_clients.Given as goal

abbrev pub invariant-loop-i : goal.invariant-loop-i
invariant-loop-i l = l.out.items ≡ l.initial.out.items ++ flat_map (λ c. call_lines c ((plain l.state).client c)) (numbers_to l.i)
