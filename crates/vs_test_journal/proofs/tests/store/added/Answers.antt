use Rattle.std.proofs.Common.{rules}
use Rattle.vs_record.specs.Change.{change}
use Rattle.vs_record.specs.States.{durable}
use Rattle.vs_store.proofs.Holding.{may_append}
use Rattle.vs_test_journal.proofs.tests.store.added.Goals as goal

pub append-done-requires-clause-fits : goal.append-done-requires-clause-fits
append-done-requires-clause-fits g c = may_append c.in-Ok.store c.head-head.result (durable c.in-Ok.state) (change c.write-change.result) c.in-Ok.ensures.opened.holds (c.fits.ensures.exactly.0 (search rules))
