use Rattle.std.proofs.Common.{sym, subst}
use Rattle.vs_drive.specs.Drivers.{actor}
use Rattle.vs_drive.specs.Turns.{IsTurn}
use Rattle.vs_drive.specs.declared.driver.Actor.{Actor}
use Rattle.vs_drive.proofs.turns.turn.Goals as goal

pub returns-in-Client-clause-turn : goal.returns-in-Client-clause-turn
returns-in-Client-clause-turn g c =
    subst (λ (a : Actor). IsTurn c.args.cluster.now.world.played c.client_turn.new.cluster.world.played (actor a) c.client_turn.result) (sym c.in-Client.is) c.client_turn.ensures.turn

pub returns-in-Operator-clause-turn : goal.returns-in-Operator-clause-turn
returns-in-Operator-clause-turn g c =
    subst (λ (a : Actor). IsTurn c.args.cluster.now.world.played c.operator_turn.new.cluster.world.played (actor a) c.operator_turn.result) (sym c.in-Operator.is) c.operator_turn.ensures

pub returns-in-Service-clause-turn : goal.returns-in-Service-clause-turn
returns-in-Service-clause-turn g c =
    subst (λ (a : Actor). IsTurn c.args.cluster.now.world.played c.service_turn.new.cluster.world.played (actor a) c.service_turn.result) (sym c.in-Service.is) c.service_turn.ensures

pub returns-in-Mover-clause-turn : goal.returns-in-Mover-clause-turn
returns-in-Mover-clause-turn g c =
    subst (λ (a : Actor). IsTurn c.args.cluster.now.world.played c.mover_turn.new.cluster.world.played (actor a) c.mover_turn.result) (sym c.in-Mover.is) c.mover_turn.ensures
