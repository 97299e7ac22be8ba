use Rattle.std.proofs.Common.{rules, ◌<◌, Some, ◌∙◌, length, arith}
use Rattle.std.proofs.lemmas.List.{length-set}
use Rattle.vs_pool.specs.Results.{HasSeen}
use Rattle.vs_pool.proofs.Slots.{popped, done_within, filled_each, filled_vacant}
use Rattle.vs_pool.proofs.arrange.fill.Goals as goal

pub bounds-slots-place : goal.bounds-slots-place
bounds-slots-place c =
    let left = popped c.args.maps.now c.args.jobs.now (HasSeen c.args.passes.now) c.loop-done.whole.items c.pop.new.self.items c.in-Some.done c.in-Some.ensures.items c.loop-done.invariant.done in
    let lt = done_within c.args.maps.now c.args.jobs.now (HasSeen c.args.passes.now) c.in-Some.done left.1 in
    omega (arith, lt, c.loop-done.invariant.slots)

pub loop-done-preserved-in-Some : goal.loop-done-preserved-in-Some
loop-done-preserved-in-Some c =
    let d = c.in-Some.done in
    let left = popped c.args.maps.now c.args.jobs.now (HasSeen c.args.passes.now) c.loop-done.whole.items c.pop.new.self.items d c.in-Some.ensures.items c.loop-done.invariant.done in
    let lt = done_within c.args.maps.now c.args.jobs.now (HasSeen c.args.passes.now) d left.1 in
    let within : d.0 < length c.loop-done.slots = omega (arith, lt, c.loop-done.invariant.slots) in
    record {
      done = left.0;
      slots = length-set c.loop-done.slots d.0 (Some d.1) ∙ c.loop-done.invariant.slots;
      each = filled_each c.args.maps.now c.args.jobs.now (HasSeen c.args.passes.now) c.loop-done.slots d within c.loop-done.invariant.each left.1;
      vacant = filled_vacant c.loop-done.slots d c.loop-done.whole.items c.pop.new.self.items c.in-Some.ensures.items within c.loop-done.invariant.vacant;
    }

pub loop-done-preserved-in-Some-2 : goal.loop-done-preserved-in-Some-2
loop-done-preserved-in-Some-2 c =
    let d = c.in-Some.done in
    let left = popped c.args.maps.now c.args.jobs.now (HasSeen c.args.passes.now) c.loop-done.whole.items c.pop.new.self.items d c.in-Some.ensures.items c.loop-done.invariant.done in
    let lt = done_within c.args.maps.now c.args.jobs.now (HasSeen c.args.passes.now) d left.1 in
    let within : d.0 < length c.loop-done.slots = omega (arith, lt, c.loop-done.invariant.slots) in
    record {
      done = left.0;
      slots = length-set c.loop-done.slots d.0 (Some d.1) ∙ c.loop-done.invariant.slots;
      each = filled_each c.args.maps.now c.args.jobs.now (HasSeen c.args.passes.now) c.loop-done.slots d within c.loop-done.invariant.each left.1;
      vacant = filled_vacant c.loop-done.slots d c.loop-done.whole.items c.pop.new.self.items c.in-Some.ensures.items within c.loop-done.invariant.vacant;
    }

pub loop-done-preserved : goal.loop-done-preserved
loop-done-preserved c =
    let d = c.in-Some.done in
    let left = popped c.args.maps.now c.args.jobs.now (HasSeen c.args.passes.now) c.loop-done.whole.items c.pop.new.self.items d c.in-Some.ensures.items c.loop-done.invariant.done in
    let lt = done_within c.args.maps.now c.args.jobs.now (HasSeen c.args.passes.now) d left.1 in
    let within : d.0 < length c.loop-done.slots = omega (arith, lt, c.loop-done.invariant.slots) in
    record {
      done = left.0;
      slots = length-set c.loop-done.slots d.0 (Some d.1) ∙ c.loop-done.invariant.slots;
      each = filled_each c.args.maps.now c.args.jobs.now (HasSeen c.args.passes.now) c.loop-done.slots d within c.loop-done.invariant.each left.1;
      vacant = filled_vacant c.loop-done.slots d c.loop-done.whole.items c.pop.new.self.items c.in-Some.ensures.items within c.loop-done.invariant.vacant;
    }

pub offset_bounds-slots-place : goal.offset_bounds-slots-place
offset_bounds-slots-place c =
    let left = popped c.args.maps.now c.args.jobs.now (HasSeen c.args.passes.now) c.loop-done.whole.items c.pop.new.self.items c.in-Some.done c.in-Some.ensures.items c.loop-done.invariant.done in
    let lt = done_within c.args.maps.now c.args.jobs.now (HasSeen c.args.passes.now) c.in-Some.done left.1 in
    let within : c.in-Some.done.0 < length c.loop-done.slots = omega (arith, lt, c.loop-done.invariant.slots) in search rules
