use Rattle.std.proofs.Common.{arith, take}
use Rattle.vs_script.specs.Calls.{call, calls}
use Rattle.vs_reads.proofs.RowsAfter.{lawful_at, one_call_more, one_write}
use Rattle.vs_reads.proofs.rows.rows_after.Goals as goal

pub index_mut-requires : goal.index_mut-requires
index_mut-requires c =
    let lawful = lawful_at c.args.buckets c.args.writes.now c.loop-call.call-index c.call-item.result c.requires c.loop-call-test.true c.call-item.is in
    omega (arith, c.get.ensures.value, c.loop-call.invariant.count_is, lawful.bucket)

pub loop-call-preserved : goal.loop-call-preserved
loop-call-preserved c =
    let writes = c.args.writes.now in
    let i = c.loop-call.call-index in
    let k = c.call-item.result in
    let lawful = lawful_at c.args.buckets writes i k c.requires c.loop-call-test.true c.call-item.is in
    rw (one_call_more writes i k c.loop-call-test.true c.call-item.is, c.get.ensures.value)
    (one_write c.loop-call.maps.items c.args.buckets (calls (take i writes)) (call k) c.index_mut.result.now c.apply.new.self c.loop-call.invariant lawful.bucket.0 lawful.bucket.1 (rw c.get.ensures.value at c.index_mut.ensures.value) c.in_ok-apply.ensures.rows)
