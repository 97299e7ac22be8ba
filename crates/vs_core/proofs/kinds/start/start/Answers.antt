use Rattle.std.proofs.Common.{true, Option, Ok, Some, sym, ap, ◌∙◌, arith}
use Rattle.std.specs.Option.{option_copied}
use Rattle.vs_machine.specs.declared.outcome.CommandFault.{CommandFault}
use Rattle.vs_machine.specs.State as machine
use Rattle.vs_machine.specs.Kinds.Sender.{move_of, after_start}
use Rattle.vs_state.specs.Plain.{plain}
use Rattle.vs_core.proofs.Starting.{few_hauls, no_transfer, sent_bucket, sent_from, start_is, start_active, start_still}
use Rattle.vs_core.proofs.kinds.start.start.Goals as goal

pub returns-in-Some-clause-step : goal.returns-in-Some-clause-step
returns-in-Some-clause-step c =
    let s = plain c.args.state.now in
    let o = c.args.operator in
    let b = c.in-Some-Send.bucket in
    let x = c.in-Some-Send.from in
    let d = c.in-Some-Send.to in
    let next = sym c.next_command.ensures ∙ ap option_copied c.in-Some-Send.is ∙ ap Some c.in-Some-Send.field-0-is in
    start_is s o b x d next c.requires.possible
    ∙ ap (λ (f : Option CommandFault). Ok (after_start s o (record { bucket = b; from = x; to = d }) f)) (sym c.send_fault.ensures ∙ c.in-Some.is)
    ∙ ap Ok (sym c.answer.ensures.answered)

pub begin-requires-clause-set : goal.begin-requires-clause-set
begin-requires-clause-set c =
    let next = sym c.next_command.ensures ∙ ap option_copied c.in-Some-Send.is ∙ ap Some c.in-Some-Send.field-0-is in
    sent_from (plain c.args.state.now) c.args.operator c.in-Some-Send.bucket c.in-Some-Send.from c.in-Some-Send.to next c.requires.known

pub begin-requires-clause-bucket : goal.begin-requires-clause-bucket
begin-requires-clause-bucket c =
    let next = sym c.next_command.ensures ∙ ap option_copied c.in-Some-Send.is ∙ ap Some c.in-Some-Send.field-0-is in
    sent_bucket (plain c.args.state.now) c.args.operator c.in-Some-Send.bucket c.in-Some-Send.from c.in-Some-Send.to next c.requires.known

pub begin-requires-clause-room : goal.begin-requires-clause-room
begin-requires-clause-room c =
    let next = sym c.next_command.ensures ∙ ap option_copied c.in-Some-Send.is ∙ ap Some c.in-Some-Send.field-0-is in
    c.requires.ready.move (record { bucket = c.in-Some-Send.bucket; from = c.in-Some-Send.from; to = c.in-Some-Send.to }) (ap move_of next)

pub begin-requires-clause-none : goal.begin-requires-clause-none
begin-requires-clause-none c =
    let s = plain c.args.state.now in
    let b = c.in-Some-Send.bucket in
    let x = c.in-Some-Send.from in
    let d = c.in-Some-Send.to in
    let allowed = sym c.send_fault.ensures ∙ c.in_default-send_fault.is in
    no_transfer s c.requires.known x b (start_active s b x d allowed) (start_still s b x d allowed)

pub begin-requires-clause-hauls : goal.begin-requires-clause-hauls
begin-requires-clause-hauls c =
    let few = few_hauls (plain c.args.state.now) c.requires.known c.in-Some-Send.from in
    omega (arith, few)

pub returns-clause-step : goal.returns-clause-step
returns-clause-step c =
    let s = plain c.args.state.now in
    let o = c.args.operator in
    let b = c.in-Some-Send.bucket in
    let x = c.in-Some-Send.from in
    let d = c.in-Some-Send.to in
    let next = sym c.next_command.ensures ∙ ap option_copied c.in-Some-Send.is ∙ ap Some c.in-Some-Send.field-0-is in
    start_is s o b x d next c.requires.possible
    ∙ ap (λ (f : Option CommandFault). Ok (after_start s o (record { bucket = b; from = x; to = d }) f)) (sym c.send_fault.ensures ∙ c.in_default-send_fault.is)
    ∙ ap Ok (sym (
    c.mark_moving.ensures.moving
    ∙ ap (λ (m : machine.State). machine.put_operator m o (record (m.operator o) { moving = true })) c.begin.ensures.begun
    ))
