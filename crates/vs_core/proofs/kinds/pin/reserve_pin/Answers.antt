use Rattle.vs_state.specs.Plain.{plain}
use Rattle.vs_core.proofs.Turned.{pin_operator}
use Rattle.vs_core.proofs.kinds.pin.reserve_pin.Goals as goal

pub reserve_answer-requires-clause-operator : goal.reserve_answer-requires-clause-operator
reserve_answer-requires-clause-operator c = pin_operator (plain c.args.state.now) c.args.operator c.requires.possible
