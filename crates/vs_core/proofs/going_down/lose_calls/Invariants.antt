use Rattle.std.proofs.Common.{◌≡◌, [], length}
use Rattle.vs_machine.specs.Opening.{client_at}
use Rattle.vs_machine.specs.Kinds.Stops.{lost_at}
use Rattle.vs_state.specs.Plain.{client}
use Rattle.vs_core.proofs.Made.{AreMade}
use Rattle.vs_core.proofs.going_down.lose_calls.Given as goal

abbrev pub invariant-loop-index : goal.invariant-loop-index
invariant-loop-index l = record {
  count : length l.state.clients.items ≡ length l.initial.state.clients.items;
  made : AreMade client (client_at []) (lost_at l.set) l.initial.state.clients.items l.state.clients.items l.index;
  rest : l.state ≡ record l.initial.state { clients = l.state.clients };
}
