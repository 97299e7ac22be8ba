use Rattle.std.proofs.Common.{◌≡◌, length}
use Rattle.vs_state.specs.Plain.{plain}
use Rattle.vs_core.specs.Keeps.{IsSound}
use Rattle.vs_core.proofs.GoingDown.{HasRoom}
use Rattle.vs_core.proofs.Roomed.{HoldsTo}
use Rattle.vs_core.proofs.going_down.reserve_answers.Given as goal

abbrev pub invariant-loop-index : goal.invariant-loop-index
invariant-loop-index l = record {
  count : length l.state.operators.items ≡ length l.initial.state.operators.items;
  room : HoldsTo HasRoom l.state.operators.items l.index;
  same : plain l.state ≡ plain l.initial.state;
  rest : l.state ≡ record l.initial.state { operators = l.state.operators };
  sound : IsSound l.state;
}
