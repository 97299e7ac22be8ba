use Rattle.vs_script.specs.Calls.{calls}
use Rattle.vs_script.proofs.Same.{differ, one_more, all_same}
use Rattle.vs_script.proofs.scripts.same_clients.Goals as goal

pub returns-then-not-same_calls : goal.returns-then-not-same_calls
returns-then-not-same_calls c = differ (λ c. calls c.items) c.args.some.now.items c.args.others.now.items c.as_slice-client-items.result.now c.loop-i.i c.as_slice-client-items.ensures c.client-item.result c.in-Some.other.now c.same_calls.result c.loop-i-test.true c.client-item.is c.in-Some.ensures c.same_calls.ensures c.if-not-same_calls.true

pub loop-i-preserved : goal.loop-i-preserved
loop-i-preserved c = one_more (λ c. calls c.items) c.args.some.now.items c.args.others.now.items c.as_slice-client-items.result.now c.loop-i.i c.as_slice-client-items.ensures c.client-item.result c.in-Some.other.now c.same_calls.result c.loop-i-test.true c.client-item.is c.in-Some.ensures c.same_calls.ensures c.if-not-same_calls.false c.loop-i.invariant

pub returns : goal.returns
returns c = all_same (λ c. calls c.items) c.args.some.now.items c.args.others.now.items c.as_slice-client-items.result.now c.loop-i.i c.as_slice-client-items.ensures c.len.result c.len-2.result c.loop-i-test.false c.len.ensures c.len-2.ensures c.loop-i.invariant
