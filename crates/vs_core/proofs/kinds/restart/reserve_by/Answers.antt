use Rattle.std.proofs.Common.{◌≡◌, Ok, subst}
use Rattle.vs_event.specs.declared.event.RestartBy.{RestartBy}
use Rattle.vs_machine.specs.Kinds.Stops.{restart}
use Rattle.vs_state.specs.Guard.{verdict}
use Rattle.vs_state.specs.Plain.{plain}
use Rattle.vs_core.proofs.Restarting.{line_operator}
use Rattle.vs_core.proofs.kinds.restart.reserve_by.Goals as goal

pub reserve_answer-requires-clause-operator : goal.reserve_answer-requires-clause-operator
reserve_answer-requires-clause-operator c =
    let s = plain c.args.state.now in
    line_operator s c.args.set c.in-Line.operator c.args.kept (subst (λ (by : RestartBy). verdict (restart s c.args.set c.args.kept by) ≡ Ok tt) c.in-Line.is c.requires.possible)
