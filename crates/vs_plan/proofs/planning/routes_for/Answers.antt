use Rattle.std.proofs.Common.{◌∙◌, ℕ, List, length, ◌≤◌, ◌<◌, ap, sym, subst, arith}
use Rattle.vs_balance.specs.declared.view.SetView.{SetView}
use Rattle.vs_config.specs.declared.config.SetConfig.{SetConfig}
use Rattle.vs_waves.specs.Plan.{CanPlan}
use Rattle.vs_waves.proofs.FromRoutes.{CanPlan-routes}
use Rattle.vs_plan.specs.Planning.{views_of}
use Rattle.vs_plan.proofs.Plans.{as_many, in_all, pinned_within, same_length}
use Rattle.vs_plan.proofs.planning.routes_for.Goals as goal

pub ideal-requires-clause-sets : goal.ideal-requires-clause-sets
ideal-requires-clause-sets c =
    let is = c.deref.ensures.value ∙ c.in_ok-views.ensures ∙ ap (λ (s : List SetConfig). views_of s c.args.counts.now) c.as_slice.ensures.value in
    omega (arith, as_many c.deref.result.now c.args.config.now.sets.items c.args.counts.now is c.requires.counts, c.requires.lawful.number_of_sets.1)

pub ideal-requires-clause-pinned : goal.ideal-requires-clause-pinned
ideal-requires-clause-pinned c =
    let is = c.deref.ensures.value ∙ c.in_ok-views.ensures ∙ ap (λ (s : List SetConfig). views_of s c.args.counts.now) c.as_slice.ensures.value in
    pinned_within c.deref.result.now c.args.config.now.sets.items c.args.counts.now is c.requires.counts

pub ideal-requires-clause-counts : goal.ideal-requires-clause-counts
ideal-requires-clause-counts c =
    let is = c.deref.ensures.value ∙ c.in_ok-views.ensures ∙ ap (λ (s : List SetConfig). views_of s c.args.counts.now) c.as_slice.ensures.value in
    omega (arith, in_all c.deref.result.now c.args.config.now.sets.items c.args.counts.now is c.requires.counts)

pub routes-requires-clause-same : goal.routes-requires-clause-same
routes-requires-clause-same c =
    ap length (c.deref-2.ensures.value ∙ sym c.deref.ensures.value)
    ∙ same_length (λ (view : SetView) (ideal : ℕ). view.pinned ≤ ideal) c.deref.result.now c.in_ok-ideals.ideals.items c.in_ok-ideals.ensures.right.pinned ∙ ap length (sym c.deref-3.ensures.value)

pub routes-requires-clause-sets : goal.routes-requires-clause-sets
routes-requires-clause-sets c =
    let is = c.deref-2.ensures.value ∙ c.in_ok-views.ensures ∙ ap (λ (s : List SetConfig). views_of s c.args.counts.now) c.as_slice.ensures.value in
    omega (arith, as_many c.deref-2.result.now c.args.config.now.sets.items c.args.counts.now is c.requires.counts, c.requires.lawful.number_of_sets.1)

pub returns-clause-can_plan : goal.returns-clause-can_plan
returns-clause-can_plan c =
    let config = c.args.config.now in
    let views = c.deref-2.result.now in
    let lawful = c.requires.lawful in
    let is = c.deref-2.ensures.value ∙ c.in_ok-views.ensures ∙ ap (λ (s : List SetConfig). views_of s c.args.counts.now) c.as_slice.ensures.value in
    let many = as_many views config.sets.items c.args.counts.now is c.requires.counts in
    let sending : 0 < config.max_sending = omega (arith, lawful.max_sending.0) in
    let receiving : 0 < config.max_receiving = omega (arith, lawful.max_receiving.0) in
    let some : 1 ≤ length views = omega (arith, many, lawful.number_of_sets.0) in
    let few : length views ≤ 32 = omega (arith, many, lawful.number_of_sets.1) in
    subst (λ (n : ℕ). CanPlan n config.max_sending config.max_receiving c.in_ok-routes.routes.items) many
    (CanPlan-routes views c.deref-3.result.now _ config.max_sending config.max_receiving c.in_ok-routes.routes.items c.in_ok-routes.ensures.right sending receiving some few (in_all views config.sets.items c.args.counts.now is c.requires.counts))
