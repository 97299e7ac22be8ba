use Rattle.std.proofs.Common.{◌<◌, ◌≤◌, length, get_or, arith, eqb, refl, ◌∙◌}
use Rattle.std.proofs.lemmas.List.{length-set}
use Rattle.std.proofs.lemmas.List.Elements.{All-get_or}
use Rattle.vs_waves.specs.declared.flow.Flow.{Flow}
use Rattle.vs_waves.specs.Flows.{near_now, far_now, all_now}
use Rattle.vs_waves.proofs.OneMore.{nothing, all_now-few}
use Rattle.vs_waves.proofs.Sums.{picked_within}
use Rattle.vs_waves.proofs.LoadTables.{added_at, zeros_at, near_now-next, far_now-next}
use Rattle.vs_waves.proofs.wave_loads.WaveLoads.of.Goals as goal

pub overflow_add-near : goal.overflow_add-near
unfolding near_now all_now
overflow_add-near c =
    let flows = c.args.flows.now in
    let i = c.loop-flow.flow-index in
    let f = get_or flows i nothing in
    omega (arith, picked_within (λ (x : Flow). eqb x.near f.near) (λ (x : Flow). x.now) flows i nothing (omega arith), c.loop-flow.invariant.near f.near, all_now-few flows c.requires)

pub overflow_add-far : goal.overflow_add-far
unfolding far_now all_now
overflow_add-far c =
    let flows = c.args.flows.now in
    let i = c.loop-flow.flow-index in
    let f = get_or flows i nothing in
    omega (arith, picked_within (λ (x : Flow). eqb x.far f.far) (λ (x : Flow). x.now) flows i nothing (omega arith), c.loop-flow.invariant.far f.far, all_now-few flows c.requires)

pub loop-flow-preserved : goal.loop-flow-preserved
loop-flow-preserved c =
    let flows = c.args.flows.now in
    let i = c.loop-flow.flow-index in
    let f = get_or flows i nothing in
    let inside : i < length flows = omega arith in
    let before = c.loop-flow.invariant in
    let near_set = All-get_or (λ (x : Flow). (1 ≤ x.near) × (x.near < 33)) flows i nothing inside c.requires.near in
    let far_set = All-get_or (λ (x : Flow). (1 ≤ x.far) × (x.far < 33)) flows i nothing inside c.requires.far in
    record {
      near_count = length-set c.loop-flow.near f.near _ ∙ before.near_count;
      far_count = length-set c.loop-flow.far f.far _ ∙ before.far_count;
      near = λ s. omega (arith, added_at c.loop-flow.near f.near f.now s (omega (arith, near_set.1, before.near_count)), before.near s, near_now-next s i flows inside);
      far = λ s. omega (arith, added_at c.loop-flow.far f.far f.now s (omega (arith, far_set.1, before.far_count)), before.far s, far_now-next s i flows inside);
    }

pub loop-flow-init : goal.loop-flow-init
unfolding near_now far_now
loop-flow-init c = record {
  near_count = refl;
  far_count = refl;
  near = λ s. zeros_at 33 s;
  far = λ s. zeros_at 33 s;
}
