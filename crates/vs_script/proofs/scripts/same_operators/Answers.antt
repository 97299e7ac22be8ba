use Rattle.vs_script.proofs.Same.{differ, one_more, all_same}
use Rattle.vs_script.proofs.scripts.same_operators.Goals as goal

pub returns-then-not-same_commands : goal.returns-then-not-same_commands
returns-then-not-same_commands c = differ (λ c. c.items) c.args.some.now.items c.args.others.now.items c.as_slice-operator-items.result.now c.loop-i.i c.as_slice-operator-items.ensures c.operator-item.result c.in-Some.other.now c.same_commands.result c.loop-i-test.true c.operator-item.is c.in-Some.ensures c.same_commands.ensures c.if-not-same_commands.true

pub loop-i-preserved : goal.loop-i-preserved
loop-i-preserved c = one_more (λ c. c.items) c.args.some.now.items c.args.others.now.items c.as_slice-operator-items.result.now c.loop-i.i c.as_slice-operator-items.ensures c.operator-item.result c.in-Some.other.now c.same_commands.result c.loop-i-test.true c.operator-item.is c.in-Some.ensures c.same_commands.ensures c.if-not-same_commands.false c.loop-i.invariant

pub returns : goal.returns
returns c = all_same (λ c. c.items) c.args.some.now.items c.args.others.now.items c.as_slice-operator-items.result.now c.loop-i.i c.as_slice-operator-items.ensures c.len.result c.len-2.result c.loop-i-test.false c.len.ensures c.len-2.ensures c.loop-i.invariant
