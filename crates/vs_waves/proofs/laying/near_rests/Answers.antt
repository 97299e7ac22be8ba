use Rattle.std.proofs.Common.{◌<◌, ◌≤◌, length, get_or, arith, eqb, refl, ◌∙◌}
use Rattle.std.proofs.lemmas.List.{length-set}
use Rattle.std.proofs.lemmas.List.Elements.{All-get_or}
use Rattle.vs_waves.specs.declared.flow.Flow.{Flow}
use Rattle.vs_waves.specs.Flows.{near_rest, all_rest}
use Rattle.vs_waves.proofs.OneMore.{nothing}
use Rattle.vs_waves.proofs.Sums.{picked_within}
use Rattle.vs_waves.proofs.LoadTables.{added_at, zeros_at, near_rest-next}
use Rattle.vs_waves.proofs.laying.near_rests.Goals as goal

pub overflow_add-rests : goal.overflow_add-rests
unfolding near_rest all_rest
overflow_add-rests c =
    let flows = c.args.flows.now in
    let i = c.loop-flow.flow-index in
    let f = get_or flows i nothing in
    omega (arith, picked_within (λ (x : Flow). eqb x.near f.near) (λ (x : Flow). x.rest) flows i nothing (omega arith), c.loop-flow.invariant.each f.near, c.requires.few)

pub loop-flow-preserved : goal.loop-flow-preserved
loop-flow-preserved c =
    let flows = c.args.flows.now in
    let i = c.loop-flow.flow-index in
    let f = get_or flows i nothing in
    let inside : i < length flows = omega arith in
    let sets = All-get_or (λ (x : Flow). (1 ≤ x.near) × (x.near < 33)) flows i nothing inside c.requires.near in
    record {
      count = length-set c.loop-flow.rests f.near _ ∙ c.loop-flow.invariant.count;
      each = λ s. omega (arith, added_at c.loop-flow.rests f.near f.rest s (omega (arith, sets.1, c.loop-flow.invariant.count)), c.loop-flow.invariant.each s, near_rest-next s i flows inside);
    }

pub loop-flow-init : goal.loop-flow-init
unfolding near_rest
loop-flow-init c = record {
  count = refl;
  each = λ s. zeros_at 33 s;
}
