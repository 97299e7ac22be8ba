use Rattle.std.proofs.Common.{ℕ, Bool, Some, Ok, sym, ap, ◌∙◌}
use Rattle.std.specs.Option.{option_copied}
use Rattle.std.specs.Prelude.{if◌then◌else◌}
use Rattle.vs_calls.specs.Progress.{cut}
use Rattle.vs_machine.specs.declared.outcome.CommandOutcome.TheVariants.{Done, Late}
use Rattle.vs_machine.specs.State as machine
use Rattle.vs_state.specs.Plain.{plain}
use Rattle.vs_core.proofs.Calls.{cut_client, cut_is}
use Rattle.vs_core.proofs.kinds.cut.cut.Goals as goal

-- what a cut makes of the state, by whether the call is answered
abbrev cut_by : machine.State → ℕ → ℕ → Bool → machine.State
cut_by s o c late =
    let old = s.client c in
    if late then machine.put_operator s o (machine.answer (s.operator o) Late)
    else machine.put_operator (machine.put_client s c (machine.with_progress old (cut old.present))) o (machine.answer (s.operator o) Done)

pub cut_present-requires-clause-client : goal.cut_present-requires-clause-client
cut_present-requires-clause-client c =
    let next = sym c.next_command.ensures ∙ ap option_copied c.in-Some-Cut.is ∙ ap Some c.in-Some-Cut.field-0-is in
    cut_client (plain c.args.state.now) c.args.operator c.in-Some-Cut.client c.in-Some-Cut.number c.requires.possible next c.requires.known (sym c.is_answered.ensures ∙ c.if-is_answered.false)

pub returns-then-is_answered-clause-step : goal.returns-then-is_answered-clause-step
returns-then-is_answered-clause-step c =
    let s = plain c.args.state.now in
    let next = sym c.next_command.ensures ∙ ap option_copied c.in-Some-Cut.is ∙ ap Some c.in-Some-Cut.field-0-is in
    let o = c.args.operator in
    let client = c.in-Some-Cut.client in
    cut_is s o client c.in-Some-Cut.number c.requires.possible next
    ∙ ap (λ late. Ok (cut_by s o client late)) (sym c.is_answered.ensures ∙ c.if-is_answered.true)
    ∙ ap Ok (sym c.answer.ensures.answered)

pub returns-clause-step : goal.returns-clause-step
returns-clause-step c =
    let s = plain c.args.state.now in
    let next = sym c.next_command.ensures ∙ ap option_copied c.in-Some-Cut.is ∙ ap Some c.in-Some-Cut.field-0-is in
    let o = c.args.operator in
    let client = c.in-Some-Cut.client in
    cut_is s o client c.in-Some-Cut.number c.requires.possible next
    ∙ ap (λ late. Ok (cut_by s o client late)) (sym c.is_answered.ensures ∙ c.if-is_answered.false)
    ∙ ap Ok (sym (c.answer-2.ensures.answered ∙ ap (λ (n : machine.State). machine.put_operator n o (machine.answer (n.operator o) Done)) c.cut_present.ensures.cut))
