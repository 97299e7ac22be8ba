use Rattle.std.proofs.Common.{sym, ap, ◌∙◌}
use Rattle.vs_machine.specs.Kinds.Pinning.{Pinning, after_pin}
use Rattle.vs_machine.specs.State as machine
use Rattle.vs_machine.specs.declared.outcome.CommandOutcome.TheVariants.{Done}
use Rattle.vs_state.specs.Plain.{plain}
use Rattle.vs_core.proofs.kinds.pin.pin_to.Goals as goal

pub returns-in-Some-clause-step : goal.returns-in-Some-clause-step
returns-in-Some-clause-step c =
    let p : Pinning = record { bucket = c.args.bucket; at = c.args.set; status = c.args.status } in
    c.answer.ensures.answered ∙ ap (after_pin (plain c.args.state.now) c.args.operator p) (sym c.in-Some.is)

pub returns-clause-step : goal.returns-clause-step
returns-clause-step c =
    let p : Pinning = record { bucket = c.args.bucket; at = c.args.set; status = c.args.status } in
    let o = c.args.operator in
    c.answer-2.ensures.answered
    ∙ ap (λ (m : machine.State). machine.put_operator m o (machine.answer (m.operator o) Done)) c.turn.ensures.turned
    ∙ ap (after_pin (plain c.args.state.now) o p) (sym c.in_default.is)
