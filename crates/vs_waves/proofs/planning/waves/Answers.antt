use Rattle.std.proofs.Common.{◌≡◌, ℕ, ◌+◌, ◌-◌, List, [], ◌∷◌, ◌++◌, map, length, take, drop, arith, ap, sym, ◌∙◌, subst}
use Rattle.std.specs.List.{All, flat_map}
use Rattle.std.proofs.lemmas.List.{take_at, map_push, length_push, length-map}
use Rattle.vs_base.specs.Listed.{Listed}
use Rattle.vs_balance.specs.declared.route.Route.{Route}
use Rattle.vs_waves.specs.declared.flow.Flow.{Flow}
use Rattle.vs_waves.specs.Plan.{plan_of}
use Rattle.vs_waves.specs.Forcing.{AreLeastWaves}
use Rattle.vs_waves.specs.Flows.{flow_of, move_of, after_wave, HasSetNos, IsLaid}
use Rattle.vs_waves.proofs.Bound.{no_fewer}
use Rattle.vs_waves.proofs.Plans.{IsPartial, IsPartial-first, IsPartial-more, HasForced-first, right_at_end}
use Rattle.vs_waves.proofs.planning.waves.Goals as goal

pub loop-left-init : goal.loop-left-init
loop-left-init c =
    let S = c.args.max_sending in
    let M = c.args.max_receiving in
    let W = c.least_waves-left.result in
    let routes = c.args.routes.now.items in
    let least : AreLeastWaves W (c.args.sets + 1) S M routes = subst (AreLeastWaves W (c.args.sets + 1) S M) c.as_slice.ensures c.least_waves-left.ensures in
    let numbered : All HasSetNos routes = subst (All HasSetNos) c.as_slice-2.ensures c.in_ok-flows.ensures.numbered in
    let flows : c.in_ok-flows.flows.items ≡ map flow_of routes = c.in_ok-flows.ensures.flows ∙ ap (map flow_of) c.as_slice-2.ensures in
    let none : c.new-waves.result.items ≡ [] = c.new-waves.ensures in
    record {
      partial = subst (λ (ws : List (Listed Route)). IsPartial W S M routes c.in_ok-flows.flows.items (plan_of ws)) (sym none) (subst (λ (fs : List Flow). IsPartial W S M routes fs []) (sym flows) (IsPartial-first c.args.sets S M W routes c.requires least numbered));
      least = subst (λ (ws : List (Listed Route)). AreLeastWaves (length (plan_of ws) + W) (c.args.sets + 1) S M routes) (sym none) (subst (λ (n : ℕ). AreLeastWaves n (c.args.sets + 1) S M routes) (omega arith) least);
    }

pub loop-left-preserved : goal.loop-left-preserved
loop-left-preserved c =
    let S = c.args.max_sending in
    let M = c.args.max_receiving in
    let routes = c.args.routes.now.items in
    let left = c.loop-left.left - 1 in
    let len = c.loop-left.flows.len in
    let flows = c.loop-left.flows.items in
    let plan = plan_of c.loop-left.waves.items in
    let laid = c.lay.new.flows in
    let long : length laid ≡ len = omega (arith, c.lay.auto.flows, c.deref_mut.ensures.len) in
    let once : take len (laid ++ drop (length laid) flows) ≡ laid = take_at laid (drop (length laid) flows) len long in
    let is : IsLaid left S M flows laid = subst (λ (fs : List Flow). IsLaid left S M fs laid) c.deref_mut.ensures.value c.lay.ensures in
    let before : IsPartial (left + 1) S M routes flows plan = subst (λ (n : ℕ). IsPartial n S M routes flows plan) (omega arith) c.loop-left.invariant.partial in
    let after = IsPartial-more left S M routes c.requires.listed.1 flows plan before laid is in
    let after_is : c.end_wave.new.flows ≡ map after_wave laid = c.end_wave.ensures ∙ ap (map after_wave) (c.deref_mut-in-loop-left.ensures.value ∙ once) in
    let after_long : length c.end_wave.new.flows ≡ len = omega (arith, ap length after_is, length-map laid after_wave, long) in
    let twice : take len (c.end_wave.new.flows ++ drop (length c.end_wave.new.flows) (take len (laid ++ drop (length laid) flows))) ≡ map after_wave laid =
    take_at c.end_wave.new.flows (drop (length c.end_wave.new.flows) (take len (laid ++ drop (length laid) flows))) len after_long ∙ after_is
    in
    let wave_is : c.in_ok-wave.wave.items ≡ flat_map move_of laid = c.in_ok-wave.ensures ∙ ap (λ (fs : List Flow). flat_map move_of fs) (c.deref.ensures.value ∙ once) in
    let plan_is : plan_of c.push.new.self.items ≡ plan ++ flat_map move_of laid ∷ [] =
    ap plan_of (c.push.ensures.items ∙ ap (λ (ws : List (Listed Route)). ws ++ c.in_ok-wave.wave ∷ []) c.in_ok-reserve.ensures.items)
    ∙ map_push (λ (w : Listed Route). w.items) c.loop-left.waves.items c.in_ok-wave.wave
    ∙ ap (λ (w : List Route). plan ++ w ∷ []) wave_is
    in
    let as_many : length plan + c.loop-left.left ≡ length (plan_of c.push.new.self.items) + left = omega (arith, ap length plan_is, length_push plan (flat_map move_of laid)) in
    record {
      partial = subst (λ (fs : List Flow). IsPartial left S M routes fs (plan_of c.push.new.self.items)) (sym twice) (subst (IsPartial left S M routes (map after_wave laid)) (sym plan_is) after);
      least = subst (λ (n : ℕ). AreLeastWaves n (c.args.sets + 1) S M routes) as_many c.loop-left.invariant.least;
    }

pub returns-clause-right : goal.returns-clause-right
returns-clause-right c = right_at_end c.loop-left.left c.args.max_sending c.args.max_receiving c.args.routes.now.items c.loop-left.flows.items (plan_of c.loop-left.waves.items) (omega arith) c.loop-left.invariant.partial

pub returns-clause-least : goal.returns-clause-least
returns-clause-least c plan right =
    let fewest = no_fewer c.args.sets c.args.max_sending c.args.max_receiving (length (plan_of c.loop-left.waves.items) + c.loop-left.left) (c.args.sets + 1) c.args.routes.now.items c.requires c.loop-left.invariant.least plan right in
    omega (arith, fewest)

pub returns-clause-forced : goal.returns-clause-forced
returns-clause-forced c some =
    let S = c.args.max_sending in
    let M = c.args.max_receiving in
    let routes = c.args.routes.now.items in
    let W = length (plan_of c.loop-left.waves.items) in
    let least : AreLeastWaves W (c.args.sets + 1) S M routes = subst (λ (n : ℕ). AreLeastWaves n (c.args.sets + 1) S M routes) (omega arith) c.loop-left.invariant.least in
    let numbered : All HasSetNos routes = subst (All HasSetNos) c.as_slice-2.ensures c.in_ok-flows.ensures.numbered in
    HasForced-first c.args.sets S M W routes c.requires least numbered some
