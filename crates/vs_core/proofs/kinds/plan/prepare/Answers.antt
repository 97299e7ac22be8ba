use Rattle.std.proofs.Common.{◌≡◌, [], Ok, sym, ap, ◌∙◌}
use Rattle.std.specs.Option.{option_copied}
use Rattle.vs_balance.specs.Ideal.{ideal_of}
use Rattle.vs_balance.specs.Routes.{routes_of}
use Rattle.vs_machine.specs.Kinds.Rebalancing.{planned, views_of}
use Rattle.vs_machine.specs.Opening.{operator_at}
use Rattle.vs_machine.specs.State as machine
use Rattle.vs_state.specs.Plain.{plain, operator}
use Rattle.vs_core.specs.Planning.{after}
use Rattle.vs_core.proofs.Numbered.{numbered_of}
use Rattle.vs_core.proofs.Planning.{plan_down, plan_on}
use Rattle.vs_core.proofs.kinds.plan.prepare.Goals as goal

pub returns-in-Some : goal.returns-in-Some
returns-in-Some c =
    plan_down (plain c.args.state.now) c.args.operator c.requires.possible c.in-Some.set (sym c.first_down.ensures ∙ c.in-Some.is)

pub weigh-requires-clause-sets : goal.weigh-requires-clause-sets
weigh-requires-clause-sets c = c.requires.known.inputs.lawful.sets.1

pub weigh-requires-clause-buckets : goal.weigh-requires-clause-buckets
weigh-requires-clause-buckets c = c.requires.known.whole.known

pub returns : goal.returns
returns c =
    let s = plain c.args.state.now in
    let o = c.args.operator in
    let views = views_of s in
    let b = c.in_ok-balance.balance in
    let tables : s.operator o ≡ operator c.in-Some-operator.tables.now =
    numbered_of operator (operator_at []) c.args.state.now.operators.items o c.in-Some-operator.tables.now (sym c.operator.ensures ∙ ap option_copied c.in-Some-operator.is) in
    let put : machine.Operator → _ = λ v. Ok (machine.put_operator s o v) in
    plan_on s o c.requires.possible (sym c.first_down.ensures ∙ c.in_default.is)
    ∙ ap (λ near. put (planned (s.operator o) near (routes_of views (ideal_of views) s.config.max_receiving))) (sym c.in_ok-balance.ensures.near)
    ∙ ap (λ routes. put (planned (s.operator o) b.is_near routes)) (sym c.in_ok-balance.ensures.routes)
    ∙ ap (λ v. put (planned v b.is_near b.routes.items)) tables
    ∙ ap put (sym c.next_step.ensures)
    ∙ ap (λ v. put (after v c.next_step.result)) (sym tables)
