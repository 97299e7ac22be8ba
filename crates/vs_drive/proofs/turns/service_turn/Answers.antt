use Rattle.std.proofs.Common.{◌+◌, refl, sym, ap, ◌∙◌, subst, arith}
use Rattle.vs_machine.specs.Actors as actors
use Rattle.vs_machine.specs.Actors.{HasEvent, IsPossible}
use Rattle.vs_machine.specs.Kinds.Stops.{is_finished}
use Rattle.vs_machine.specs.State.{State}
use Rattle.vs_drive.specs.declared.turn.Place.{Place}
use Rattle.vs_drive.proofs.Choosing.{service_stage}
use Rattle.vs_drive.proofs.Turning.{same, turned_to}
use Rattle.vs_drive.proofs.turns.service_turn.Goals as goal

pub returns-then-finished : goal.returns-then-finished
returns-then-finished g c = (same c.args.cluster.now.world.played, ap is_finished (sym c.core_in.ensures) ∙ sym c.finished.ensures ∙ c.if-finished.true)

pub returns-in_default : goal.returns-in_default
returns-in_default g c =
    let none = c.next_service.ensures.none.0 c.in_default.is in
    (same c.args.cluster.now.world.played, subst (λ (s : State). ¬ (HasEvent s (actors.Service c.args.set))) c.core_in-2.ensures none)

pub carry_out-requires-clause-possible : goal.carry_out-requires-clause-possible
carry_out-requires-clause-possible g c = subst (λ (s : State). IsPossible s c.in-Some.event) c.core_in-2.ensures c.in-Some.ensures.choice.choice.possible

pub returns : goal.returns
returns g c =
    let place : Place = record { who = 200 + c.from.result; call = 0; stage = 0 } in
    let own = c.in-Some.ensures.choice.choice.its_own in
    turned_to c.args.cluster.now.world.played c.carry_out.new.cluster.world.played (actors.Service c.args.set) c.in-Some.event place c.carry_out.result c.turn_of.result c.turn_of.ensures own c.carry_out.ensures.ok c.carry_out.ensures.err
    (omega arith) refl (sym (service_stage c.args.set c.in-Some.event own))
