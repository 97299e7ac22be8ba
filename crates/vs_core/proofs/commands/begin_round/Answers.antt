use Rattle.std.proofs.Common.{◌-◌, sym, ap, ◌∙◌}
use Rattle.vs_machine.specs.Kinds.Rebalancing.{with_round}
use Rattle.vs_machine.specs.State as machine
use Rattle.vs_state.specs.Plain.{plain}
use Rattle.vs_core.proofs.Operators.{operator_of, operator_is, operator_written}
use Rattle.vs_core.proofs.commands.begin_round.Goals as goal

pub returns-clause-begun : goal.returns-clause-begun
returns-clause-begun c =
    let s = c.args.state.now in
    let p = c.args.operator in
    let t = c.index_mut-tables.result.now in
    let u = c.count_round.new.tables in
    let o = operator_of s p c.from.result t c.requires.operator (c.from.ensures ∙ c.get.ensures.value) c.index_mut-tables.ensures.value in
    operator_written s p (c.from.result - 1) t u o
    ∙ ap (machine.put_operator (plain s) p) c.count_round.ensures
    ∙ ap (λ (v : machine.Operator). machine.put_operator (plain s) p (with_round v c.args.routes.items)) (sym (operator_is s p (c.from.result - 1) t u o))
