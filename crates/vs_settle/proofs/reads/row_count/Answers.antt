use Rattle.std.proofs.Common.{length, ap, ◌∙◌}
use Rattle.vs_machine.specs.State.{State}
use Rattle.vs_state.specs.Plain.{plain}
use Rattle.vs_settle.proofs.reads.row_count.Goals as goal

pub returns : goal.returns
returns g c = c.row_count.ensures ∙ ap (λ (s : State). length ((s.bucket c.args.bucket).rows c.args.set)) (ap plain c.state.ensures.value ∙ c.core.ensures.state)
