use Rattle.std.proofs.Common.{◌-◌, sym, ap, ◌∙◌}
use Rattle.vs_machine.specs.State as machine
use Rattle.vs_state.specs.Plain.{plain}
use Rattle.vs_core.proofs.Operators.{operator_of, operator_is, operator_written}
use Rattle.vs_core.proofs.commands.set_routes.Goals as goal

pub returns-clause-routes : goal.returns-clause-routes
returns-clause-routes c =
    let s = c.args.state.now in
    let p = c.args.operator in
    let t = c.index_mut-tables.result.now in
    let u = record t { routes = c.args.routes } in
    let o = operator_of s p c.from.result t c.requires.operator (c.from.ensures ∙ c.get.ensures.value) c.index_mut-tables.ensures.value in
    operator_written s p (c.from.result - 1) t u o
    ∙ ap (λ (v : machine.Operator). machine.put_operator (plain s) p (record v { routes = c.args.routes.items })) (sym (operator_is s p (c.from.result - 1) t u o))
