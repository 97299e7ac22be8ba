use Rattle.std.proofs.Common.{None}
use Rattle.vs_record.specs.States.{durable}
use Rattle.vs_store.specs.Holding.{Holds}
use Rattle.vs_store.specs.Store.{IsReady}
use Rattle.vs_test_journal.proofs.tests.store.fill.Given as goal

abbrev pub invariant-loop-number : goal.invariant-loop-number
invariant-loop-number g l = record { holds : Holds l.store l.head (durable l.state) None; ready : IsReady l.store }
