use Rattle.std.proofs.Common.{◌+◌, ◌<◌, ◌≤◌, length, ap, ◌∙◌, arith}
use Rattle.std.specs.Vec.{with_item}
use Rattle.std.proofs.Math.ListN.{length-set}
use Rattle.vs_state.specs.declared.actors.ClientTables.{ClientTables}
use Rattle.vs_state.specs.declared.state.State.{State}
use Rattle.vs_core.proofs.Clients.{IsClient, plain_same, sound_same}
use Rattle.vs_core.proofs.Roomed.{holds_of_all, holds_of_next}
use Rattle.vs_core.proofs.reserving.reserve_outcomes.Goals as goal

pub returns-in_err-reserve_outcome-clause-same : goal.returns-in_err-reserve_outcome-clause-same
returns-in_err-reserve_outcome-clause-same c =
    let s = c.loop-index.state in
    let k = c.loop-index.index in
    let t = c.index_mut-tables.result.now in
    let within : k < length s.clients.items = omega (arith, c.loop-index.invariant.count) in
    let o : IsClient s (k + 1) k t = record { at = omega arith; within = within; is = c.index_mut-tables.ensures.value } in
    plain_same s (k + 1) k t c.reserve_outcome.new.tables o c.reserve_outcome.ensures.same ∙ c.loop-index.invariant.same

pub returns-in_err-reserve_outcome-clause-sound : goal.returns-in_err-reserve_outcome-clause-sound
returns-in_err-reserve_outcome-clause-sound c =
    let s = c.loop-index.state in
    let k = c.loop-index.index in
    let t = c.index_mut-tables.result.now in
    let within : k < length s.clients.items = omega (arith, c.loop-index.invariant.count) in
    let o : IsClient s (k + 1) k t = record { at = omega arith; within = within; is = c.index_mut-tables.ensures.value } in
    sound_same s (k + 1) k t c.reserve_outcome.new.tables o c.reserve_outcome.ensures.same c.loop-index.invariant.sound

pub loop-index-preserved : goal.loop-index-preserved
loop-index-preserved c =
    let s = c.loop-index.state in
    let k = c.loop-index.index in
    let t = c.index_mut-tables.result.now in
    let u = c.reserve_outcome.new.tables in
    let within : k < length s.clients.items = omega (arith, c.loop-index.invariant.count) in
    let o : IsClient s (k + 1) k t = record { at = omega arith; within = within; is = c.index_mut-tables.ensures.value } in
    record {
      count = length-set s.clients.items k u ∙ c.loop-index.invariant.count;
      room = holds_of_next (λ (t : ClientTables). 1 ≤ t.outcomes.room) s.clients.items k u within c.in_ok-reserve_outcome.ensures.room c.loop-index.invariant.room;
      rest = ap (λ (v : State). record v { clients = with_item s.clients k u }) c.loop-index.invariant.rest;
      same = plain_same s (k + 1) k t u o c.reserve_outcome.ensures.same ∙ c.loop-index.invariant.same;
      sound = sound_same s (k + 1) k t u o c.reserve_outcome.ensures.same c.loop-index.invariant.sound;
    }

pub returns-clause-room : goal.returns-clause-room
returns-clause-room c =
    let s = c.loop-index.state in
    let whole : length s.clients.items ≤ c.loop-index.index = omega (arith, c.loop-index.invariant.count) in
    holds_of_all (λ (t : ClientTables). 1 ≤ t.outcomes.room) s.clients.items c.loop-index.index whole c.loop-index.invariant.room
