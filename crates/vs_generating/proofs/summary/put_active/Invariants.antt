use Rattle.std.proofs.Common.{◌≡◌, ◌++◌}
use Rattle.std.specs.List.{flat_map}
use Rattle.vs_machine.specs.Report.{kind_count, number, numbers_to}
use Rattle.vs_space.specs.declared.status.StatusKind.TheVariants.{Active}
use Rattle.vs_state.specs.Plain.{plain}
use Rattle.vs_generating.proofs.summary.put_active.Given as goal

abbrev pub invariant-loop-i : goal.invariant-loop-i
invariant-loop-i l = l.out.items ≡ l.initial.out.items ++ flat_map (λ x. number (kind_count (plain l.state) x Active)) (numbers_to l.i)
