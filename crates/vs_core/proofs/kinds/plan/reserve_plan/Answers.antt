use Rattle.std.proofs.Common.{◌≡◌, Ok, sym, subst}
use Rattle.vs_machine.specs.Kinds.Rebalancing.{plan}
use Rattle.vs_machine.specs.State as machine
use Rattle.vs_state.specs.Plain.{plain}
use Rattle.vs_core.specs.Planning.{after}
use Rattle.vs_core.proofs.Planning.{plan_operator}
use Rattle.vs_core.proofs.kinds.plan.reserve_plan.Goals as goal

pub reserve_answer-requires-clause-operator : goal.reserve_answer-requires-clause-operator
reserve_answer-requires-clause-operator c = plan_operator (plain c.args.state.now) c.args.operator c.requires.possible

pub returns-clause-ready : goal.returns-clause-ready
returns-clause-ready c =
    let o = c.args.operator in
    record {
      planned = subst (λ m. plan m o ≡ Ok (machine.put_operator m o (after (m.operator o) c.in_ok-prepared.prepared))) (sym c.reserve_answer.ensures.same) c.in_ok-prepared.ensures;
      answer = c.in_ok-reserve_answer.ensures.room;
    }
