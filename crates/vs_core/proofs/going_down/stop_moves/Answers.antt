use Rattle.std.proofs.Common.{suc, ◌<◌, ◌≤◌, [], length, Some, None, refl, sym, ap, ◌∙◌, arith}
use Rattle.std.specs.Vec.{with_item}
use Rattle.std.proofs.Math.ListN.{length-set}
use Rattle.vs_machine.specs.Opening.{operator_at}
use Rattle.vs_machine.specs.Kinds.Stops.{stopped_move}
use Rattle.vs_state.specs.declared.state.State.{State}
use Rattle.vs_state.specs.Plain.{operator}
use Rattle.vs_core.proofs.GoingDown.{idle_kept, one_ahead, plain_stopped}
use Rattle.vs_core.proofs.Made.{all_made, one_made, there}
use Rattle.vs_core.proofs.going_down.stop_moves.Goals as goal

pub stop_move-requires : goal.stop_move-requires
stop_move-requires c =
    let s = c.loop-index.state in
    let k = c.loop-index.index in
    let t = c.index_mut-tables.result.now in
    let within : k < length s.operators.items = omega (arith, c.loop-index.invariant.count) in
    let next : k < suc k = omega arith in
    c.requires.answers (suc k) t (sym (c.loop-index.invariant.ahead (suc k) next) ∙ there Some None s.operators.items k t within c.index_mut-tables.ensures.value)

pub loop-index-preserved : goal.loop-index-preserved
loop-index-preserved c =
    let old = c.args.state.now.operators.items in
    let s = c.loop-index.state in
    let k = c.loop-index.index in
    let t = c.index_mut-tables.result.now in
    let u = c.stop_move.new.tables in
    let is = c.index_mut-tables.ensures.value in
    let within : k < length s.operators.items = omega (arith, c.loop-index.invariant.count) in
    record {
      count = length-set s.operators.items k u ∙ c.loop-index.invariant.count;
      made = one_made operator (operator_at []) (stopped_move c.args.set) old s.operators.items k t u within is c.stop_move.ensures.stopped c.loop-index.invariant.made;
      ahead = one_ahead old s.operators.items k u within c.loop-index.invariant.ahead;
      idle = idle_kept c.args.set old s.operators.items k t u within is c.stop_move.ensures.idle c.loop-index.invariant.made c.loop-index.invariant.idle;
      rest = ap (λ (v : State). record v { operators = with_item s.operators k u }) c.loop-index.invariant.rest;
    }

pub returns-clause-stopped : goal.returns-clause-stopped
returns-clause-stopped c =
    let s = c.args.state.now in
    let t = c.loop-index.state in
    let whole : length s.operators.items ≤ c.loop-index.index = omega arith in
    plain_stopped s t c.args.set c.loop-index.invariant.rest c.loop-index.invariant.count
    (all_made operator (operator_at []) (stopped_move c.args.set) s.operators.items t.operators.items c.loop-index.index refl whole c.loop-index.invariant.made)
