use Rattle.std.proofs.Common.{◌≡◌, ◌++◌, take}
use Rattle.std.specs.List.{flat_map, AllByRecursion}
use Rattle.vs_record.specs.Body.{op_text, IsOp}
use Rattle.vs_record.specs.declared.version.Version.TheVariants.{Two}
use Rattle.vs_record.proofs.write.put_ops.Given as goal

abbrev pub invariant-loop-op : goal.invariant-loop-op
invariant-loop-op l = record {
  so_far : l.out.items ≡ l.initial.out.items ++ flat_map (op_text Two) (take l.op-index l.op-items);
  each : AllByRecursion (IsOp Two) (take l.op-index l.op-items);
}
