use Rattle.std.proofs.Common.{◌+◌, ◌<◌, ◌≤◌, length, ap, ◌∙◌, arith}
use Rattle.std.specs.Vec.{with_item}
use Rattle.std.proofs.Math.ListN.{length-set}
use Rattle.vs_state.specs.declared.state.State.{State}
use Rattle.vs_core.proofs.GoingDown.{HasRoom, plain_roomed}
use Rattle.vs_core.proofs.Operators.{IsOperator, sound_operator}
use Rattle.vs_core.proofs.Roomed.{holds_of_all, holds_of_next}
use Rattle.vs_core.proofs.going_down.reserve_answers.Goals as goal

pub returns-in_err-reserve_outcome-clause-same : goal.returns-in_err-reserve_outcome-clause-same
returns-in_err-reserve_outcome-clause-same c =
    let s = c.loop-index.state in
    let within : c.loop-index.index < length s.operators.items = omega (arith, c.loop-index.invariant.count) in
    plain_roomed s c.loop-index.index c.index_mut-tables.result.now c.reserve_outcome.new.tables within c.index_mut-tables.ensures.value c.reserve_outcome.ensures.same ∙ c.loop-index.invariant.same

pub loop-index-preserved : goal.loop-index-preserved
loop-index-preserved c =
    let s = c.loop-index.state in
    let k = c.loop-index.index in
    let t = c.index_mut-tables.result.now in
    let u = c.reserve_outcome.new.tables in
    let within : k < length s.operators.items = omega (arith, c.loop-index.invariant.count) in
    let o : IsOperator s (k + 1) k t = record { at = omega arith; within = within; is = c.index_mut-tables.ensures.value } in
    record {
      count = length-set s.operators.items k u ∙ c.loop-index.invariant.count;
      room = holds_of_next HasRoom s.operators.items k u within c.in_ok-reserve_outcome.ensures.room c.loop-index.invariant.room;
      same = plain_roomed s k t u within c.index_mut-tables.ensures.value c.reserve_outcome.ensures.same ∙ c.loop-index.invariant.same;
      rest = ap (λ (v : State). record v { operators = with_item s.operators k u }) c.loop-index.invariant.rest;
      sound = sound_operator s (k + 1) k t u o c.loop-index.invariant.sound;
    }

pub returns-clause-room : goal.returns-clause-room
returns-clause-room c =
    let s = c.loop-index.state in
    let whole : length s.operators.items ≤ c.loop-index.index = omega (arith, c.loop-index.invariant.count) in
    holds_of_all HasRoom s.operators.items c.loop-index.index whole c.loop-index.invariant.room
