use Rattle.std.proofs.Common.{◌≡◌, ◌≤◌, length}
use Rattle.vs_state.specs.declared.actors.ClientTables.{ClientTables}
use Rattle.vs_state.specs.Plain.{plain}
use Rattle.vs_core.specs.Keeps.{IsSound}
use Rattle.vs_core.proofs.Roomed.{HoldsTo}
use Rattle.vs_core.proofs.reserving.reserve_outcomes.Given as goal

abbrev pub invariant-loop-index : goal.invariant-loop-index
invariant-loop-index l = record {
  count : length l.state.clients.items ≡ length l.initial.state.clients.items;
  room : HoldsTo (λ (t : ClientTables). 1 ≤ t.outcomes.room) l.state.clients.items l.index;
  rest : l.state ≡ record l.initial.state { clients = l.state.clients };
  same : plain l.state ≡ plain l.initial.state;
  sound : IsSound l.state;
}
