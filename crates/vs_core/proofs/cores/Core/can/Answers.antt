use Rattle.std.proofs.Common.{ap, ◌∙◌}
use Rattle.vs_machine.specs.Step.{step}
use Rattle.vs_state.specs.Guard.{verdict}
use Rattle.vs_core.specs.Core.{Shown, means}
use Rattle.vs_core.proofs.cores.Core.can.Goals as goal

pub returns : goal.returns
returns c = c.guard.ensures ∙ ap (λ (v : Shown). verdict (step (means v) c.args.event.now)) c.self.view_is
