use Rattle.std.proofs.Common.{◌≡◌, ◌++◌, take}
use Rattle.std.specs.List.{flat_map}
use Rattle.std.specs.Prelude.{codes}
use Rattle.vs_machine.specs.Report.{op_text}
use Rattle.vs_report.proofs.ops.put_ops.Given as goal

abbrev pub invariant-loop-op : goal.invariant-loop-op
invariant-loop-op l = l.out.items ≡ l.initial.out.items ++ flat_map (λ o. codes " ; " ++ op_text o) (take l.op-index l.rest)
