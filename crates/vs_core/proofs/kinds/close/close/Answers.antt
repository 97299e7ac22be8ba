use Rattle.std.proofs.Common.{Ok, Some, sym, ap, ◌∙◌}
use Rattle.std.specs.Option.{option_copied}
use Rattle.vs_machine.specs.declared.outcome.CommandOutcome.TheVariants.{Done}
use Rattle.vs_machine.specs.State as machine
use Rattle.vs_state.specs.Plain.{plain}
use Rattle.vs_core.proofs.Closing.{close_is, close_operator, closed_link}
use Rattle.vs_core.proofs.kinds.close.close.Goals as goal

pub close-requires-clause-link : goal.close-requires-clause-link
close-requires-clause-link c =
    let next = sym c.next_command.ensures ∙ ap option_copied c.in-Some-Close.is ∙ ap Some c.in-Some-Close.field-0-is in
    closed_link (plain c.args.state.now) c.args.operator c.in-Some-Close.from c.in-Some-Close.to next c.requires.known

pub close-requires-clause-epoch : goal.close-requires-clause-epoch
close-requires-clause-epoch c =
    let next = sym c.next_command.ensures ∙ ap option_copied c.in-Some-Close.is ∙ ap Some c.in-Some-Close.field-0-is in
    c.requires.ready.epoch c.in-Some-Close.from c.in-Some-Close.to next

pub answer-requires-clause-operator : goal.answer-requires-clause-operator
answer-requires-clause-operator c =
    ap (λ m. machine.has_operator m c.args.operator) c.close.ensures.closed
    ∙ close_operator (plain c.args.state.now) c.args.operator c.requires.possible

pub returns-clause-step : goal.returns-clause-step
returns-clause-step c =
    let s = plain c.args.state.now in
    let o = c.args.operator in
    let next = sym c.next_command.ensures ∙ ap option_copied c.in-Some-Close.is ∙ ap Some c.in-Some-Close.field-0-is in
    close_is s o c.in-Some-Close.from c.in-Some-Close.to next c.requires.possible
    ∙ ap Ok (sym (
    c.answer.ensures.answered
    ∙ ap (λ (m : machine.State). machine.put_operator m o (machine.answer (m.operator o) Done)) c.close.ensures.closed
    ))
