use Rattle.std.proofs.Common.{◌≡◌, Some, None, arith, subst}
use Rattle.std.proofs.lemmas.List.Elements.{All-more}
use Rattle.vs_balance.specs.declared.route.Route.{Route}
use Rattle.vs_event.specs.declared.event.Event.TheVariants.{Haul}
use Rattle.vs_machine.specs.Actors.{IsPossible}
use Rattle.vs_state.specs.declared.state.State as tables
use Rattle.vs_state.specs.Tables.{numbered}
use Rattle.vs_core.specs.Core.{means}
use Rattle.vs_choose.proofs.Movers.{route_hauls}
use Rattle.vs_choose.proofs.mover.next_haul_of.Goals as goal

pub loop-route-preserved : goal.loop-route-preserved
loop-route-preserved c =
    let P : Route → Type 0 = λ r. r.giver ≡ c.args.set → IsPossible (means c.args.core.now) (Haul c.args.operator c.args.set r.taker) → ⊥ in
    All-more P c.as_slice-route-items.result.now c.loop-route.route-index c.route-item.result (omega arith) c.loop-route.invariant
    (subst P c.route-item.is c.in_default.ensures.none)

pub returns-clause-none : goal.returns-clause-none
returns-clause-none c =
    let t = c.in_ok-tables.tables.now in
    let there = subst (λ (st : tables.State). Some t ≡ numbered Some None st.operators.items c.args.operator) c.state.ensures.value c.in_ok-tables.ensures in
    route_hauls c.args.core.now.state c.args.operator c.args.set t c.as_slice-route-items.result.now c.loop-route.route-index there
    c.as_slice-route-items.ensures (omega arith) c.loop-route.invariant
