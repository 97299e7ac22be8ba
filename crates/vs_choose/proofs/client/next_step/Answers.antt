use Rattle.std.proofs.Common.{◌≡◌, subst}
use Rattle.vs_state.specs.declared.state.State as tables
use Rattle.vs_state.specs.Plain.{plain}
use Rattle.vs_core.specs.Core.{means}
use Rattle.vs_choose.proofs.Clients.{step_choice, step_none}
use Rattle.vs_choose.proofs.client.next_step.Goals as goal

pub returns-then-is_possible-clause-choice : goal.returns-then-is_possible-clause-choice
returns-then-is_possible-clause-choice c =
    step_choice (means c.args.core.now) c.args.client c.args.to c.stage.result c.in_ok-event.event c.in_ok-event.ensures (c.is_possible.ensures.0 c.if-is_possible.true)

pub returns-else-is_possible-clause-none : goal.returns-else-is_possible-clause-none
returns-else-is_possible-clause-none c =
    let here = subst (λ (t : tables.State). c.stage.result ≡ ((plain t).client c.args.client).present.stage) c.state.ensures.value c.stage.ensures in
    step_none (means c.args.core.now) c.args.client c.stage.result c.in_ok-event.event here c.in_ok-event.ensures
    (λ h. let possible = c.is_possible.ensures.1 h in absurd (cc (possible, c.if-is_possible.false)))
