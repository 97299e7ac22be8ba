use Rattle.std.proofs.Common.{ℕ, Bool, Ok, sym, ap, ◌∙◌}
use Rattle.std.specs.Prelude.{if◌then◌else◌}
use Rattle.vs_machine.specs.declared.outcome.CommandOutcome.TheVariants.{Done, WasUp}
use Rattle.vs_machine.specs.Kinds.Stops.{restarted}
use Rattle.vs_machine.specs.State as machine
use Rattle.vs_state.specs.Plain.{plain}
use Rattle.vs_core.proofs.Restarting.{answered_up, line_is}
use Rattle.vs_core.proofs.kinds.restart.restart_by.Goals as goal

-- what the command makes of the state, by whether the set is up
abbrev restart_if : machine.State → ℕ → Bool → ℕ → Bool → machine.State
restart_if s x kept o up =
    if up then machine.put_operator s o (machine.answer (s.operator o) WasUp)
    else machine.put_operator (restarted s x kept (s.pending x)) o (machine.answer (s.operator o) Done)

pub returns-then-up-clause-step : goal.returns-then-up-clause-step
returns-then-up-clause-step c =
    let s = plain c.args.state.now in
    let x = c.args.set in
    let o = c.args.operator in
    line_is s x o c.args.kept c.requires.possible
    ∙ ap (λ up. Ok (restart_if s x c.args.kept o up)) (sym c.up.ensures ∙ c.if-up.true)
    ∙ ap Ok (sym c.answer.ensures.answered)

pub returns-clause-step : goal.returns-clause-step
returns-clause-step c =
    let s = plain c.args.state.now in
    let x = c.args.set in
    let o = c.args.operator in
    line_is s x o c.args.kept c.requires.possible
    ∙ ap (λ up. Ok (restart_if s x c.args.kept o up)) (sym c.up.ensures ∙ c.if-up.false)
    ∙ ap Ok (sym (
    c.answer-2.ensures.answered
    ∙ ap (λ (m : machine.State). machine.put_operator m o (machine.answer (m.operator o) Done)) c.bring_up.ensures.up
    ∙ answered_up s x o c.args.kept (s.pending x)
    ))
