use Rattle.std.proofs.Common.{◌≡◌, ◌++◌, take}
use Rattle.std.specs.List.{flat_map, AllByRecursion}
use Rattle.vs_record.specs.Body.{row_text, IsRow}
use Rattle.vs_record.specs.declared.version.Version.TheVariants.{Two}
use Rattle.vs_record.proofs.write.put_page.Given as goal

abbrev pub invariant-loop-key : goal.invariant-loop-key
invariant-loop-key l = record {
  so_far : l.out.items ≡ l.initial.out.items ++ flat_map (row_text Two) (take l.key-index l.key-items);
  each : AllByRecursion (IsRow Two) (take l.key-index l.key-items);
}
