use Rattle.vs_state.specs.Plain.{plain}
use Rattle.vs_core.proofs.Hearing.{hear_to}
use Rattle.vs_core.proofs.kinds.hear.reserve_hear.Goals as goal

pub reserve_reference-requires-clause-set : goal.reserve_reference-requires-clause-set
reserve_reference-requires-clause-set c = hear_to (plain c.args.state.now) c.args.set c.args.from c.requires.possible
