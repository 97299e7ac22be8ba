use Rattle.std.proofs.Common.{◌≡◌, ◌≤◌, length}
use Rattle.vs_state.specs.declared.tables.SetTables.{SetTables}
use Rattle.vs_state.specs.Plain.{plain}
use Rattle.vs_core.specs.Keeps.{IsSound}
use Rattle.vs_core.proofs.Roomed.{HoldsTo}
use Rattle.vs_core.proofs.reserving.reserve_references.Given as goal

abbrev pub invariant-loop-index : goal.invariant-loop-index
invariant-loop-index l = record {
  count : length l.state.sets.items ≡ length l.initial.state.sets.items;
  room : HoldsTo (λ (t : SetTables). 1 ≤ t.refs.room) l.state.sets.items l.index;
  same : plain l.state ≡ plain l.initial.state;
  sound : IsSound l.state;
}
