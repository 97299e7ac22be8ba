use Rattle.std.proofs.Common.{Ok, sym, ap, ◌∙◌}
use Rattle.vs_machine.specs.State as machine
use Rattle.vs_state.specs.Plain.{plain}
use Rattle.vs_core.specs.Planning.{after}
use Rattle.vs_core.proofs.kinds.plan.plan.Goals as goal

pub returns-in-Answer-clause-step : goal.returns-in-Answer-clause-step
returns-in-Answer-clause-step c =
    let s = plain c.args.state.now in
    let o = c.args.operator in
    c.requires.ready.planned
    ∙ ap (λ p. Ok (machine.put_operator s o (after (s.operator o) p))) c.in-Answer.is
    ∙ ap Ok (sym c.answer.ensures.answered)

pub returns-in-Round-clause-step : goal.returns-in-Round-clause-step
returns-in-Round-clause-step c =
    let s = plain c.args.state.now in
    let o = c.args.operator in
    c.requires.ready.planned
    ∙ ap (λ p. Ok (machine.put_operator s o (after (s.operator o) p))) c.in-Round.is
    ∙ ap Ok (sym c.begin_round.ensures.begun)
