use Rattle.std.proofs.Common.{◌≡◌, Some, sym, ap, subst, ◌∙◌}
use Rattle.std.specs.Option.{option_copied}
use Rattle.std.proofs.lemmas.Result.{on_ok_weaker}
use Rattle.vs_machine.specs.State as machine
use Rattle.vs_machine.specs.Kinds.Stops.{set_to_stop}
use Rattle.vs_state.specs.Plain.{plain}
use Rattle.vs_core.specs.Stopping.{IsDownReady}
use Rattle.vs_core.proofs.Stopping.{stop_set}
use Rattle.vs_core.proofs.kinds.stop.reserve_stop.Goals as goal

pub reserve_going_down-requires-clause-set : goal.reserve_going_down-requires-clause-set
reserve_going_down-requires-clause-set c =
    let next = sym c.next_command.ensures ∙ ap option_copied c.in-Some-Stop.is ∙ ap Some c.in-Some-Stop.field-0-is in
    stop_set (plain c.args.state.now) c.args.operator c.in-Some-Stop.set next c.requires.known

pub returns-clause-ready : goal.returns-clause-ready
returns-clause-ready c =
    let next = sym c.next_command.ensures ∙ ap option_copied c.in-Some-Stop.is ∙ ap Some c.in-Some-Stop.field-0-is in
    let named : set_to_stop (machine.next_command ((plain c.reserve_going_down.new.state).operator c.args.operator)) ≡ Some c.in-Some-Stop.set =
    ap (λ (m : machine.State). set_to_stop (machine.next_command (m.operator c.args.operator))) c.reserve_going_down.ensures.same ∙ ap set_to_stop next in
    on_ok_weaker c.reserve_going_down.result (λ ready. λ y named_too. let same : c.in-Some-Stop.set ≡ y = cc (named, named_too) in subst (IsDownReady c.reserve_going_down.new.state) same ready) c.reserve_going_down.ensures.ready
