use Rattle.std.proofs.Common.{◌∙◌, ℕ, length, arith, refl, subst, sym}
use Rattle.std.specs.Prelude.{◌↔◌, IsSome, IfSome}
use Rattle.vs_config.specs.Configuration.{configuration}
use Rattle.vs_waves.specs.Forcing.{HasForced, IsForced}
use Rattle.vs_waves.specs.Plan.{CanPlan, plan_of}
use Rattle.vs_plan.proofs.Plans.{few_waves, is_forced, plan_length}
use Rattle.vs_plan.proofs.planning.waves_for.Goals as goal

pub overflow_cast-len : goal.overflow_cast-len
overflow_cast-len c =
    let config = c.args.config.now in
    let routes = c.args.routes.now.items in
    let sets = c.len-sets.result in
    let can = subst (λ (n : ℕ). CanPlan n config.max_sending config.max_receiving routes) (sym c.len-sets.ensures.value) c.requires in
    let found = c.in_ok-waves.ensures in
    let few = few_waves routes sets config.max_sending config.max_receiving (length (plan_of c.in_ok-waves.waves.items)) can found.least found.forced in
    omega (arith, few, plan_length c.in_ok-waves.waves.items, c.len.ensures)

pub returns-clause-few : goal.returns-clause-few
returns-clause-few c =
    let config = c.args.config.now in
    let routes = c.args.routes.now.items in
    let sets = c.len-sets.result in
    let can = subst (λ (n : ℕ). CanPlan n config.max_sending config.max_receiving routes) (sym c.len-sets.ensures.value) c.requires in
    let found = c.in_ok-waves.ensures in
    let few = few_waves routes sets config.max_sending config.max_receiving (length (plan_of c.in_ok-waves.waves.items)) can found.least found.forced in
    omega (arith, few, plan_length c.in_ok-waves.waves.items)

pub returns-clause-forces : goal.returns-clause-forces
returns-clause-forces c =
    let config = c.args.config.now in
    let routes = c.args.routes.now.items in
    let sets = c.len-sets.result in
    let can = subst (λ (n : ℕ). CanPlan n config.max_sending config.max_receiving routes) (sym c.len-sets.ensures.value) c.requires in
    let found = c.in_ok-waves.ensures in
    let number = c.len.ensures ∙ sym (plan_length c.in_ok-waves.waves.items) in
    let some = subst (λ (n : ℕ). IsSome c.forced-forced.result ↔ HasForced n sets config.max_sending config.max_receiving routes) number c.forced-forced.ensures.some in
    let lowest = subst (λ (n : ℕ). IfSome c.forced-forced.result (IsForced n sets config.max_sending config.max_receiving routes)) number c.forced-forced.ensures.lowest in
    is_forced routes sets config.max_sending config.max_receiving (length (plan_of c.in_ok-waves.waves.items)) can found.least found.forced c.forced-forced.result some lowest (configuration config) (sym c.len-sets.ensures.value) refl refl
