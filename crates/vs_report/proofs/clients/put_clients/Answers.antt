use Rattle.std.proofs.Common.{◌+◌, [], ap}
use Rattle.vs_machine.specs.Opening.{client_at}
use Rattle.vs_machine.specs.Report.{call_lines}
use Rattle.vs_state.specs.Plain.{client}
use Rattle.vs_report.proofs.Numbers.{texts_more, numbered_next}
use Rattle.vs_report.proofs.clients.put_clients.Goals as goal

pub loop-i-preserved : goal.loop-i-preserved
loop-i-preserved c =
    texts_more _ c.loop-i.i _ _ _ _ c.loop-i.invariant c.in_ok-put_client.ensures
    (ap (call_lines (c.loop-i.i + 1)) (numbered_next client (client_at []) c.deref-tables-items.ensures.value c.loop-i.i _ c.loop-i-test.true c.tables-item.is))
