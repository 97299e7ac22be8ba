use Rattle.std.proofs.Common.{sym, ap, subst, ◌∙◌}
use Rattle.std.specs.Option.{option_copied}
use Rattle.vs_send.specs.declared.transfer.By.TheVariants.{Command}
use Rattle.vs_machine.specs.State as machine
use Rattle.vs_state.specs.Plain.{plain}
use Rattle.vs_core.specs.Rooms.{HasAnswerRoom}
use Rattle.vs_core.specs.Sending.{HasEndRoom, IsEndReady}
use Rattle.vs_core.proofs.Ending.{mover, on_ok, end_ready}
use Rattle.vs_core.proofs.kinds.end_move.reserve_end_move.Goals as goal

pub reserve_answer-requires-clause-operator : goal.reserve_answer-requires-clause-operator
reserve_answer-requires-clause-operator c =
    mover (plain c.args.state.now) c.args.set c.args.bucket c.in-Some.transfer.now (sym c.transfer.ensures ∙ ap option_copied c.in-Some.is) c.requires.known (Command c.in-Command.operator) c.in-Command.is

pub returns-in-Command-clause-ready : goal.returns-in-Command-clause-ready
returns-in-Command-clause-ready c =
    let new = c.reserve_answer.new.state in
    let o = c.in-Command.operator in
    let there = ap (λ (m : machine.State). (m.bucket c.args.bucket).transfer c.args.set) c.reserve_answer.ensures.same ∙ sym c.transfer.ensures ∙ ap option_copied c.in-Some.is in
    on_ok c.reserve_answer.result (HasAnswerRoom new o) (IsEndReady new c.args.set c.args.bucket)
    (λ room. end_ready new c.args.set c.args.bucket c.in-Some.transfer.now there (subst (HasEndRoom new) (sym c.in-Command.is) room)) c.reserve_answer.ensures.room
