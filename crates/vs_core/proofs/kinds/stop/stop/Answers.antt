use Rattle.std.proofs.Common.{ℕ, Bool, Ok, Some, sym, ap, ◌∙◌}
use Rattle.std.specs.Option.{option_copied}
use Rattle.std.specs.Prelude.{if◌then◌else◌}
use Rattle.vs_machine.specs.declared.outcome.CommandOutcome.TheVariants.{Done, WasDown}
use Rattle.vs_machine.specs.State as machine
use Rattle.vs_machine.specs.Kinds.Stops.{gone_down, set_to_stop}
use Rattle.vs_state.specs.Plain.{plain}
use Rattle.vs_core.proofs.Stopping.{stop_idle, stop_is, stop_operator, stop_set, stop_stays}
use Rattle.vs_core.proofs.kinds.stop.stop.Goals as goal

-- what a stop makes of the state, by whether the set is up
abbrev stop_by : machine.State → ℕ → ℕ → Bool → machine.State
stop_by s o x up =
    if up then machine.put_operator (gone_down s x) o (machine.answer (s.operator o) Done)
    else machine.put_operator s o (machine.answer (s.operator o) WasDown)

pub returns-then-not-up-clause-step : goal.returns-then-not-up-clause-step
returns-then-not-up-clause-step c =
    let s = plain c.args.state.now in
    let o = c.args.operator in
    let x = c.in-Some-Stop.set in
    let next = sym c.next_command.ensures ∙ ap option_copied c.in-Some-Stop.is ∙ ap Some c.in-Some-Stop.field-0-is in
    stop_is s o x next c.requires.possible
    ∙ ap (λ up. Ok (stop_by s o x up)) (sym c.up.ensures ∙ c.if-not-up.true)
    ∙ ap Ok (sym c.answer.ensures.answered)

pub go_down-requires-clause-set : goal.go_down-requires-clause-set
go_down-requires-clause-set c =
    let next = sym c.next_command.ensures ∙ ap option_copied c.in-Some-Stop.is ∙ ap Some c.in-Some-Stop.field-0-is in
    stop_set (plain c.args.state.now) c.args.operator c.in-Some-Stop.set next c.requires.known

pub go_down-requires-clause-ready : goal.go_down-requires-clause-ready
go_down-requires-clause-ready c =
    let next = sym c.next_command.ensures ∙ ap option_copied c.in-Some-Stop.is ∙ ap Some c.in-Some-Stop.field-0-is in
    c.requires.ready c.in-Some-Stop.set (ap set_to_stop next)

pub answer-requires-2-clause-operator : goal.answer-requires-2-clause-operator
answer-requires-2-clause-operator c =
    ap (λ (m : machine.State). machine.has_operator m c.args.operator) c.go_down.ensures.down ∙ stop_operator (plain c.args.state.now) c.args.operator c.requires.possible

pub answer-requires-2-clause-room : goal.answer-requires-2-clause-room
answer-requires-2-clause-room c =
    let next = sym c.next_command.ensures ∙ ap option_copied c.in-Some-Stop.is ∙ ap Some c.in-Some-Stop.field-0-is in
    let x = c.in-Some-Stop.set in
    c.go_down.ensures.idle c.args.operator (stop_idle (plain c.args.state.now) c.args.operator x next x)

pub returns-clause-step : goal.returns-clause-step
returns-clause-step c =
    let s = plain c.args.state.now in
    let o = c.args.operator in
    let x = c.in-Some-Stop.set in
    let next = sym c.next_command.ensures ∙ ap option_copied c.in-Some-Stop.is ∙ ap Some c.in-Some-Stop.field-0-is in
    stop_is s o x next c.requires.possible
    ∙ ap (λ up. Ok (stop_by s o x up)) (sym c.up.ensures ∙ c.if-not-up.false)
    ∙ ap Ok (sym (
    c.answer-2.ensures.answered
    ∙ ap (λ (n : machine.State). machine.put_operator n o (machine.answer (n.operator o) Done)) c.go_down.ensures.down
    ∙ ap (λ (v : machine.Operator). machine.put_operator (gone_down s x) o (machine.answer v Done)) (stop_stays s o x next x)
    ))
