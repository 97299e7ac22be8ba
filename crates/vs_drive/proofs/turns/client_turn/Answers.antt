use Rattle.std.proofs.Common.{ℕ, subst}
use Rattle.vs_machine.specs.Actors as actors
use Rattle.vs_machine.specs.State.{State}
use Rattle.vs_world.specs.Played.{state_of}
use Rattle.vs_drive.specs.Turns.{IsDone, IsTurn}
use Rattle.vs_drive.proofs.Turning.{same}
use Rattle.vs_drive.proofs.turns.client_turn.Goals as goal

pub returns-then-client_is_done-clause-turn : goal.returns-then-client_is_done-clause-turn
returns-then-client_is_done-clause-turn g c =
    let done = c.client_is_done.ensures.0 c.if-client_is_done.true in
    let here = subst (λ (s : State). IsDone s (actors.Client c.client.result)) c.state_in.ensures.state done in
    (same c.args.cluster.now.world.played, subst (λ (n : ℕ). IsDone (state_of c.args.cluster.now.world.played) (actors.Client n)) c.client.ensures here)

pub returns-in-Ok-clause-turn : goal.returns-in-Ok-clause-turn
returns-in-Ok-clause-turn g c =
    subst (λ (n : ℕ). IsTurn c.args.cluster.now.world.played c.call_turn.new.cluster.world.played (actors.Client n) c.call_turn.result) c.next_set.ensures.client c.call_turn.ensures.turn
