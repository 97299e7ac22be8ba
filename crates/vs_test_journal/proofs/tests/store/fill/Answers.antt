use Rattle.std.proofs.Common.{None, sym, subst, rules}
use Rattle.vs_record.specs.Change.{change}
use Rattle.vs_record.specs.Durable.{Durable}
use Rattle.vs_record.specs.States.{durable}
use Rattle.vs_store.specs.Holding.{Holds}
use Rattle.vs_store.proofs.Holding.{may_append}
use Rattle.vs_test_journal.proofs.tests.store.fill.Goals as goal

pub append-requires-clause-fits : goal.append-requires-clause-fits
append-requires-clause-fits g c = may_append c.loop-number.store c.args.head.now (durable c.loop-number.state) (change c.write-change.result) c.loop-number.invariant.holds (c.fits.ensures.exactly.0 (search rules))

pub loop-number-preserved : goal.loop-number-preserved
loop-number-preserved g c =
    let appended = rw c.expect.ensures at c.append.ensures.appended in
    let ready = rw c.expect.ensures at c.append.ensures.ready in
    let made = rw c.expect-in-loop-number.ensures at c.apply.ensures.ok in
    record {
      holds = subst (λ (d : Durable). Holds c.append.new.self c.args.head.now d None) (sym made) (appended c.args.head.now (durable c.loop-number.state) c.loop-number.invariant.holds);
      ready = ready;
    }
