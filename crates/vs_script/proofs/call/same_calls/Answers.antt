use Rattle.vs_script.specs.Calls.{call}
use Rattle.vs_script.proofs.Same.{differ, one_more, all_same}
use Rattle.vs_script.proofs.call.same_calls.Goals as goal

pub returns-then-not-equals : goal.returns-then-not-equals
returns-then-not-equals c = differ call c.args.some.now.items c.args.others.now.items c.as_slice-call-items.result.now c.loop-i.i c.as_slice-call-items.ensures c.call-item.result c.in-Some.other.now c.equals.result c.loop-i-test.true c.call-item.is c.in-Some.ensures c.equals.ensures c.if-not-equals.true

pub loop-i-preserved : goal.loop-i-preserved
loop-i-preserved c = one_more call c.args.some.now.items c.args.others.now.items c.as_slice-call-items.result.now c.loop-i.i c.as_slice-call-items.ensures c.call-item.result c.in-Some.other.now c.equals.result c.loop-i-test.true c.call-item.is c.in-Some.ensures c.equals.ensures c.if-not-equals.false c.loop-i.invariant

pub returns : goal.returns
returns c = all_same call c.args.some.now.items c.args.others.now.items c.as_slice-call-items.result.now c.loop-i.i c.as_slice-call-items.ensures c.len.result c.len-2.result c.loop-i-test.false c.len.ensures c.len-2.ensures c.loop-i.invariant
