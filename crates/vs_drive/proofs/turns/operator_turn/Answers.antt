use Rattle.std.proofs.Common.{◌+◌, sym, ap, ◌∙◌, subst, arith}
use Rattle.vs_machine.specs.Actors as actors
use Rattle.vs_machine.specs.Actors.{HasEvent, IsPossible}
use Rattle.vs_machine.specs.State.{State}
use Rattle.vs_drive.specs.Turns.{number_of, IsDone}
use Rattle.vs_drive.specs.declared.turn.Place.{Place}
use Rattle.vs_drive.proofs.Choosing.{operator_stage}
use Rattle.vs_drive.proofs.Turning.{same, turned_to}
use Rattle.vs_drive.proofs.turns.operator_turn.Goals as goal

pub returns-then-operator_is_done : goal.returns-then-operator_is_done
returns-then-operator_is_done g c =
    let done = c.operator_is_done.ensures.0 c.if-operator_is_done.true in
    (same c.args.cluster.now.world.played, subst (λ (s : State). IsDone s (actors.Operator c.args.operator)) c.state_in.ensures.state done)

pub returns-in_default : goal.returns-in_default
returns-in_default g c =
    let none = c.next_operator.ensures.none.0 c.in_default.is in
    (same c.args.cluster.now.world.played, subst (λ (s : State). ¬ (HasEvent s (actors.Operator c.args.operator))) c.core_in.ensures none)

pub carry_out-requires-clause-possible : goal.carry_out-requires-clause-possible
carry_out-requires-clause-possible g c = subst (λ (s : State). IsPossible s c.in-Some.event) c.core_in.ensures c.in-Some.ensures.choice.choice.possible

pub returns : goal.returns
returns g c =
    let place : Place = record { who = 100 + c.from.result; call = c.command_number.result; stage = 0 } in
    let own = c.in-Some.ensures.choice.choice.its_own in
    let number = c.command_number.ensures ∙ ap (λ (s : State). number_of s (actors.Operator c.args.operator)) c.state_in-2.ensures.state in
    turned_to c.args.cluster.now.world.played c.carry_out.new.cluster.world.played (actors.Operator c.args.operator) c.in-Some.event place c.carry_out.result c.turn_of.result c.turn_of.ensures own c.carry_out.ensures.ok c.carry_out.ensures.err
    (omega arith) number (sym (operator_stage c.args.operator c.in-Some.event own))
