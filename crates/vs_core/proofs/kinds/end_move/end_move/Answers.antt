use Rattle.std.proofs.Common.{◌+◌, Ok, None, sym, ap, ◌∙◌}
use Rattle.std.specs.Option.{option_copied}
use Rattle.vs_send.specs.declared.transfer.By.TheVariants.{Command, Haul}
use Rattle.vs_machine.specs.declared.outcome.CommandOutcome.TheVariants as outcome
use Rattle.vs_machine.specs.State as machine
use Rattle.vs_machine.specs.Kinds.Sender.{moved_by}
use Rattle.vs_state.specs.Plain.{plain}
use Rattle.vs_core.proofs.Ending.{mover, end_move_is}
use Rattle.vs_core.proofs.kinds.end_move.end_move.Goals as goal

pub answer-requires-clause-operator : goal.answer-requires-clause-operator
answer-requires-clause-operator c =
    ap (λ m. machine.has_operator m c.in-Command.operator) c.end.ensures.gone
    ∙ mover (plain c.args.state.now) c.args.set c.args.bucket c.in-Some.transfer.now (sym c.transfer.ensures ∙ ap option_copied c.in-Some.is) c.requires.known (Command c.in-Command.operator) c.in-Command.is

pub count_moved-requires-clause-operator : goal.count_moved-requires-clause-operator
count_moved-requires-clause-operator c =
    ap (λ m. machine.has_operator m c.in-Haul.operator) c.end.ensures.gone
    ∙ mover (plain c.args.state.now) c.args.set c.args.bucket c.in-Some.transfer.now (sym c.transfer.ensures ∙ ap option_copied c.in-Some.is) c.requires.known (Haul c.in-Haul.operator) c.in-Haul.is

pub returns-in-Command-clause-step : goal.returns-in-Command-clause-step
returns-in-Command-clause-step c =
    let s = plain c.args.state.now in
    let x = c.args.set in
    let b = c.args.bucket in
    let o = c.in-Command.operator in
    let t = c.in-Some.transfer.now in
    let is = sym c.transfer.ensures ∙ ap option_copied c.in-Some.is in
    let gone = machine.put_bucket s b (machine.with_transfer (s.bucket b) x None) in
    end_move_is s x b t is c.requires.possible
    ∙ ap (λ by. Ok (record gone { operator = moved_by by s.operator })) c.in-Command.is
    ∙ ap Ok (sym (
    c.answer.ensures.answered
    ∙ ap (λ m. machine.put_operator m o (machine.answer (m.operator o) outcome.Moved)) c.end.ensures.gone
    ))

pub returns-in-Haul-clause-step : goal.returns-in-Haul-clause-step
returns-in-Haul-clause-step c =
    let s = plain c.args.state.now in
    let x = c.args.set in
    let b = c.args.bucket in
    let o = c.in-Haul.operator in
    let t = c.in-Some.transfer.now in
    let is = sym c.transfer.ensures ∙ ap option_copied c.in-Some.is in
    let gone = machine.put_bucket s b (machine.with_transfer (s.bucket b) x None) in
    end_move_is s x b t is c.requires.possible
    ∙ ap (λ by. Ok (record gone { operator = moved_by by s.operator })) c.in-Haul.is
    ∙ ap Ok (sym (
    c.count_moved.ensures.moved
    ∙ ap (λ (m : machine.State). machine.put_operator m o (record (m.operator o) { moved = (m.operator o).moved + 1 })) c.end.ensures.gone
    ))
