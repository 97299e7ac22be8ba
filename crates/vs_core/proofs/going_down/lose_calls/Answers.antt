use Rattle.std.proofs.Common.{◌<◌, ◌≤◌, [], length, refl, ap, ◌∙◌, arith}
use Rattle.std.specs.Vec.{with_item}
use Rattle.std.proofs.Math.ListN.{length-set}
use Rattle.vs_machine.specs.Opening.{client_at}
use Rattle.vs_machine.specs.Kinds.Stops.{lost_at}
use Rattle.vs_state.specs.declared.state.State.{State}
use Rattle.vs_state.specs.Plain.{client}
use Rattle.vs_core.proofs.GoingDown.{plain_lost}
use Rattle.vs_core.proofs.Made.{all_made, one_made}
use Rattle.vs_core.proofs.going_down.lose_calls.Goals as goal

pub loop-index-preserved : goal.loop-index-preserved
loop-index-preserved c =
    let s = c.loop-index.state in
    let k = c.loop-index.index in
    let t = c.index_mut-tables.result.now in
    let u = c.lose.new.tables in
    let within : k < length s.clients.items = omega (arith, c.loop-index.invariant.count) in
    record {
      count = length-set s.clients.items k u ∙ c.loop-index.invariant.count;
      made = one_made client (client_at []) (lost_at c.args.set) c.args.state.now.clients.items s.clients.items k t u within c.index_mut-tables.ensures.value c.lose.ensures c.loop-index.invariant.made;
      rest = ap (λ (v : State). record v { clients = with_item s.clients k u }) c.loop-index.invariant.rest;
    }

pub returns-clause-lost : goal.returns-clause-lost
returns-clause-lost c =
    let s = c.args.state.now in
    let t = c.loop-index.state in
    let whole : length s.clients.items ≤ c.loop-index.index = omega arith in
    plain_lost s t c.args.set c.loop-index.invariant.rest c.loop-index.invariant.count
    (all_made client (client_at []) (lost_at c.args.set) s.clients.items t.clients.items c.loop-index.index refl whole c.loop-index.invariant.made)
