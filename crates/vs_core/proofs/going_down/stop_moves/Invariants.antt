use Rattle.std.proofs.Common.{◌≡◌, [], length}
use Rattle.vs_machine.specs.Opening.{operator_at}
use Rattle.vs_machine.specs.Kinds.Stops.{stopped_move}
use Rattle.vs_state.specs.Plain.{operator}
use Rattle.vs_core.proofs.GoingDown.{AreAhead, AreIdleKept}
use Rattle.vs_core.proofs.Made.{AreMade}
use Rattle.vs_core.proofs.going_down.stop_moves.Given as goal

abbrev pub invariant-loop-index : goal.invariant-loop-index
invariant-loop-index l = record {
  count : length l.state.operators.items ≡ length l.initial.state.operators.items;
  made : AreMade operator (operator_at []) (stopped_move l.set) l.initial.state.operators.items l.state.operators.items l.index;
  ahead : AreAhead l.initial.state.operators.items l.state.operators.items l.index;
  idle : AreIdleKept l.set l.initial.state.operators.items l.state.operators.items;
  rest : l.state ≡ record l.initial.state { operators = l.state.operators };
}
