use Rattle.std.proofs.Common.{◌≡◌, ◌≤◌, Some, None, sym, ap, subst, ◌∙◌}
use Rattle.std.specs.Option.{option_copied}
use Rattle.vs_machine.specs.State as machine
use Rattle.vs_machine.specs.Kinds.Sender.{Move}
use Rattle.vs_state.specs.declared.actors.OperatorTables.{OperatorTables}
use Rattle.vs_state.specs.Plain.{plain}
use Rattle.vs_state.specs.Tables.{numbered}
use Rattle.vs_core.specs.Sending.{HasMoveRoom, IsStartReady}
use Rattle.vs_core.proofs.Ending.{on_ok}
use Rattle.vs_core.proofs.Starting.{sent_from, move_is}
use Rattle.vs_core.proofs.kinds.start.reserve_start.Goals as goal

pub reserve_begin-requires-clause-set : goal.reserve_begin-requires-clause-set
reserve_begin-requires-clause-set c =
    let next = sym c.next_command.ensures ∙ ap option_copied c.in-Some-Send.is ∙ ap Some c.in-Some-Send.field-0-is in
    ap (λ m. machine.has_set m c.in-Some-Send.from) c.reserve_answer.ensures.same
    ∙ sent_from (plain c.args.state.now) c.args.operator c.in-Some-Send.field-0-0 c.in-Some-Send.from c.in-Some-Send.field-0-2 next c.requires.known

pub returns-clause-ready : goal.returns-clause-ready
returns-clause-ready c =
    let new = c.reserve_begin.new.state in
    let o = c.args.operator in
    let next = sym c.next_command.ensures ∙ ap option_copied c.in-Some-Send.is ∙ ap Some c.in-Some-Send.field-0-is in
    let still = ap (λ (m : machine.State). machine.next_command (m.operator o)) (c.reserve_begin.ensures.same ∙ c.reserve_answer.ensures.same) ∙ next in
    on_ok c.reserve_begin.result (HasMoveRoom new c.in-Some-Send.from) (IsStartReady new o) (λ room. record {
      answer = subst (λ operators. (t : OperatorTables) → numbered Some None operators.items o ≡ Some t → 1 ≤ t.outcomes.room) (sym c.reserve_begin.ensures.operators) c.in_ok-reserve_answer.ensures.room;
      move = λ m named. subst (HasMoveRoom new) (ap (λ (m : Move). m.from) (move_is (plain new) o c.in-Some-Send.field-0-0 c.in-Some-Send.from c.in-Some-Send.field-0-2 still m named)) room;
    }) c.reserve_begin.ensures.ready

pub returns-clause-same : goal.returns-clause-same
returns-clause-same c = c.reserve_begin.ensures.same ∙ c.reserve_answer.ensures.same
