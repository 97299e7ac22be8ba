use Rattle.std.proofs.Common.{◌≡◌, ◌+◌, List, length, add-one, ap, arith}
use Rattle.vs_state.specs.declared.actors.ClientTables.{ClientTables}
use Rattle.vs_state.specs.Plain.{plain}
use Rattle.vs_generating.proofs.Counting.{answered_at, answered_few}
use Rattle.vs_generating.proofs.counts.answered.Goals as goal

pub overflow_add-answered : goal.overflow_add-answered
overflow_add-answered c =
    let s = c.args.state.now in
    let i = c.loop-client.client-index in
    let here = answered_at s c.deref-client-items.result.now i c.client-item.result c.deref-client-items.ensures.value c.loop-client-test.true c.client-item.is in
    let few = answered_few (plain s) (i + 1) c.requires.few c.requires.within in
    let count : length c.deref-client-items.result.now ≡ length s.clients.items = ap (λ (cs : List ClientTables). length cs) c.deref-client-items.ensures.value in
    omega (arith, c.requires.few.clients, c.loop-client.invariant.few, c.loop-client-test.true, count, here, few, c.len.ensures)

pub loop-client-preserved : goal.loop-client-preserved
loop-client-preserved c =
    let s = c.args.state.now in
    let i = c.loop-client.client-index in
    let here = answered_at s c.deref-client-items.result.now i c.client-item.result c.deref-client-items.ensures.value c.loop-client-test.true c.client-item.is in
    let few = answered_few (plain s) (i + 1) c.requires.few c.requires.within in
    record {
      sum = rw add-one (omega (arith, c.loop-client.invariant.sum, rw add-one at here, c.len.ensures));
      few = omega (arith, c.loop-client.invariant.few, here, few, c.len.ensures);
    }
