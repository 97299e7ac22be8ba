use Rattle.std.proofs.Common.{◌≡◌, ℕ, sym, ap, ◌∙◌, subst, arith}
use Rattle.std.specs.Prelude.{IfSome}
use Rattle.vs_choose.specs.Client.{HasNoStep}
use Rattle.vs_cluster.specs.Calls.{IsPostAllowed}
use Rattle.vs_core.specs.Core.{means}
use Rattle.vs_machine.specs.Actors as actors
use Rattle.vs_machine.specs.Actors.{IsOf, IsPossible}
use Rattle.vs_machine.specs.State.{State}
use Rattle.vs_world.specs.Played.{state_of}
use Rattle.vs_drive.specs.Drivers.{client_of}
use Rattle.vs_drive.specs.declared.turn.Place.{Place}
use Rattle.vs_drive.proofs.Choosing.{client_event, no_step}
use Rattle.vs_drive.proofs.Turning.{same, turned_to}
use Rattle.vs_drive.proofs.turns.call_turn.Goals as goal

pub returns-in_default-clause-turn : goal.returns-in_default-clause-turn
returns-in_default-clause-turn g c =
    let none = no_step (means c.core_in.result.now) c.client-client.result c.args.to (c.next_client.ensures.none.0 c.in_default.is) in
    let here = subst (λ (s : State). HasNoStep s c.client-client.result) c.core_in.ensures none in
    (same c.args.cluster.now.world.played, subst (λ (n : ℕ). HasNoStep (state_of c.args.cluster.now.world.played) n) c.client-client.ensures here)

pub run_call-requires-clause-event : goal.run_call-requires-clause-event
run_call-requires-clause-event g c =
    let allowed = subst (λ (n : ℕ). IfSome c.args.to (IsPostAllowed c.args.cluster.now n)) (sym c.client-client.ensures) c.requires in
    client_event c.args.cluster.now (means c.core_in.result.now) c.client-client.result c.args.to c.in-Some.event allowed c.in-Some.ensures.choice

pub run_call-requires-clause-possible : goal.run_call-requires-clause-possible
run_call-requires-clause-possible g c = subst (λ (s : State). IsPossible s c.in-Some.event) c.core_in.ensures c.in-Some.ensures.choice.choice.possible

pub returns-in-Begin-clause-turn : goal.returns-in-Begin-clause-turn
returns-in-Begin-clause-turn g c =
    let place : Place = record { who = c.from.result; call = c.call_number.result; stage = c.stage_after.result } in
    let client = client_of c.args.driver.now in
    let whose : c.client-client.result ≡ client = c.client-client.ensures in
    let own = subst (λ (n : ℕ). IsOf (actors.Client n) c.in-Some.event) whose c.in-Some.ensures.choice.choice.its_own in
    let number = c.call_number.ensures ∙ ap (λ (s : State). (s.client c.client-client.result).present.number) c.state_in.ensures.state ∙ ap (λ (n : ℕ). ((state_of c.args.cluster.now.world.played).client n).present.number) whose in
    turned_to c.args.cluster.now.world.played c.run_call.new.cluster.world.played (actors.Client client) c.in-Some.event place c.run_call.result c.turn_of-turn.result c.turn_of-turn.ensures own c.run_call.ensures.ok c.run_call.ensures.err
    (omega (arith, whose)) number c.stage_after.ensures

pub returns-in_default-event-clause-turn : goal.returns-in_default-event-clause-turn
returns-in_default-event-clause-turn g c =
    let place : Place = record { who = c.from.result; call = c.call_number.result; stage = c.stage_after.result } in
    let client = client_of c.args.driver.now in
    let whose : c.client-client.result ≡ client = c.client-client.ensures in
    let own = subst (λ (n : ℕ). IsOf (actors.Client n) c.in-Some.event) whose c.in-Some.ensures.choice.choice.its_own in
    let number = c.call_number.ensures ∙ ap (λ (s : State). (s.client c.client-client.result).present.number) c.state_in.ensures.state ∙ ap (λ (n : ℕ). ((state_of c.args.cluster.now.world.played).client n).present.number) whose in
    turned_to c.args.cluster.now.world.played c.run_call.new.cluster.world.played (actors.Client client) c.in-Some.event place c.run_call.result c.turn_of-turn.result c.turn_of-turn.ensures own c.run_call.ensures.ok c.run_call.ensures.err
    (omega (arith, whose)) number c.stage_after.ensures
