use Rattle.std.proofs.Common.{◌-◌, ◌<◌, Some, sym, ap, subst, ◌∙◌}
use Rattle.std.specs.Option.{option_copied}
use Rattle.std.specs.Prelude.{◌^◌}
use Rattle.vs_state.specs.Plain.{plain}
use Rattle.vs_core.specs.Closing.{IsCloseReady}
use Rattle.vs_core.specs.Rooms.{HasAnswerRoom}
use Rattle.vs_core.proofs.Closing.{close_operator, close_ready}
use Rattle.vs_core.proofs.Ending.{on_ok}
use Rattle.vs_core.proofs.kinds.close.reserve_close.Goals as goal

pub reserve_answer-requires-clause-operator : goal.reserve_answer-requires-clause-operator
reserve_answer-requires-clause-operator c = close_operator (plain c.args.state.now) c.args.operator c.requires.possible

pub returns-clause-ready : goal.returns-clause-ready
returns-clause-ready c =
    let new = c.reserve_answer.new.state in
    let o = c.args.operator in
    let next = sym c.next_command.ensures ∙ ap option_copied c.in-Some-Close.is ∙ ap Some c.in-Some-Close.field-0-is in
    on_ok c.reserve_answer.result (HasAnswerRoom new o) (IsCloseReady new o)
    (close_ready c.args.state.now new o c.in-Some-Close.from c.in-Some-Close.to c.reserve_answer.ensures.same next (subst (λ n. n < 2 ^ 63 - 1) c.epoch.ensures c.if-epoch-ge-END.false))
    c.reserve_answer.ensures.room
