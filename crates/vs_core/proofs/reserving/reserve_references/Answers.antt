use Rattle.std.proofs.Common.{◌+◌, ◌<◌, ◌≤◌, length, ◌∙◌, arith}
use Rattle.std.proofs.Math.ListN.{length-set}
use Rattle.vs_state.specs.declared.tables.SetTables.{SetTables}
use Rattle.vs_core.proofs.Roomed.{holds_of_all, holds_of_next}
use Rattle.vs_core.proofs.SetRefs.{plain_refs, sound_refs}
use Rattle.vs_core.proofs.Sets.{IsSlot}
use Rattle.vs_core.proofs.reserving.reserve_references.Goals as goal

pub returns-in_err-reserve_in-clause-same : goal.returns-in_err-reserve_in-clause-same
returns-in_err-reserve_in-clause-same c =
    let s = c.loop-index.state in
    let k = c.loop-index.index in
    let t = c.index_mut-tables.result.now in
    let within : k < length s.sets.items = omega (arith, c.loop-index.invariant.count) in
    let o : IsSlot s (k + 1) k t = record { at = omega arith; within = within; is = c.index_mut-tables.ensures.value } in
    plain_refs s (k + 1) k t c.reserve_in.new.tables o c.reserve_in.ensures.rest ∙ c.loop-index.invariant.same

pub returns-in_err-reserve_in-clause-sound : goal.returns-in_err-reserve_in-clause-sound
returns-in_err-reserve_in-clause-sound c =
    let s = c.loop-index.state in
    let k = c.loop-index.index in
    let t = c.index_mut-tables.result.now in
    let within : k < length s.sets.items = omega (arith, c.loop-index.invariant.count) in
    let o : IsSlot s (k + 1) k t = record { at = omega arith; within = within; is = c.index_mut-tables.ensures.value } in
    sound_refs s (k + 1) k t c.reserve_in.new.tables o c.reserve_in.ensures.rest c.reserve_in.ensures.items c.loop-index.invariant.sound

pub loop-index-preserved : goal.loop-index-preserved
loop-index-preserved c =
    let s = c.loop-index.state in
    let k = c.loop-index.index in
    let t = c.index_mut-tables.result.now in
    let u = c.reserve_in.new.tables in
    let within : k < length s.sets.items = omega (arith, c.loop-index.invariant.count) in
    let o : IsSlot s (k + 1) k t = record { at = omega arith; within = within; is = c.index_mut-tables.ensures.value } in
    record {
      count = length-set s.sets.items k u ∙ c.loop-index.invariant.count;
      room = holds_of_next (λ (t : SetTables). 1 ≤ t.refs.room) s.sets.items k u within c.in_ok-reserve_in.ensures.room c.loop-index.invariant.room;
      same = plain_refs s (k + 1) k t u o c.reserve_in.ensures.rest ∙ c.loop-index.invariant.same;
      sound = sound_refs s (k + 1) k t u o c.reserve_in.ensures.rest c.reserve_in.ensures.items c.loop-index.invariant.sound;
    }

pub returns-clause-room : goal.returns-clause-room
returns-clause-room c =
    let s = c.loop-index.state in
    let whole : length s.sets.items ≤ c.loop-index.index = omega (arith, c.loop-index.invariant.count) in
    holds_of_all (λ (t : SetTables). 1 ≤ t.refs.room) s.sets.items c.loop-index.index whole c.loop-index.invariant.room
