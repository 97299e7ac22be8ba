use Rattle.std.proofs.Common.{ap, ◌∙◌}
use Rattle.vs_machine.specs.State.{State}
use Rattle.vs_state.specs.Plain.{plain}
use Rattle.vs_settle.proofs.reads.is_up.Goals as goal

pub returns : goal.returns
returns g c = c.up.ensures ∙ ap (λ (s : State). s.up c.args.set) (ap plain c.state.ensures.value ∙ c.core.ensures.state)
