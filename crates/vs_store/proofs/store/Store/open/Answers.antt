use Rattle.vs_record.specs.States.{durable}
use Rattle.vs_store.proofs.Opening.{opened_after, not_opened_after, leaves_same}
use Rattle.vs_store.proofs.Told.{ok_so, err_so}
use Rattle.vs_store.proofs.store.Store.open.Goals as goal

pub returns-then-empty-clause-opened : goal.returns-then-empty-clause-opened
returns-then-empty-clause-opened g c =
    ok_so _ _ c.create.result c.create.ensures.opened (λ r is. opened_after (g.D.Disk.told c.args.disk) (g.D.Disk.told c.is_empty.new.disk) c.is_empty.ensures.unwritten c.args.head.now c.args.limit r.0 (durable r.1) is)

pub returns-then-empty-clause-refused : goal.returns-then-empty-clause-refused
returns-then-empty-clause-refused g c =
    err_so _ _ c.create.result c.create.ensures.refused (λ e is. not_opened_after (g.D.Disk.told c.args.disk) (g.D.Disk.told c.is_empty.new.disk) c.is_empty.ensures.unwritten c.args.head.now c.args.limit e.0 (g.D.Disk.told e.1) is)

pub returns-else-empty-clause-opened : goal.returns-else-empty-clause-opened
returns-else-empty-clause-opened g c =
    ok_so _ _ c.load.result c.load.ensures.opened (λ r is. opened_after (g.D.Disk.told c.args.disk) (g.D.Disk.told c.is_empty.new.disk) c.is_empty.ensures.unwritten c.args.head.now c.args.limit r.0 (durable r.1) is)

pub returns-else-empty-clause-refused : goal.returns-else-empty-clause-refused
returns-else-empty-clause-refused g c =
    err_so _ _ c.load.result c.load.ensures.refused (λ e is. not_opened_after (g.D.Disk.told c.args.disk) (g.D.Disk.told c.is_empty.new.disk) c.is_empty.ensures.unwritten c.args.head.now c.args.limit e.0 (g.D.Disk.told e.1) is)

pub returns-then-empty-clause-any_moment : goal.returns-then-empty-clause-any_moment
returns-then-empty-clause-any_moment g c =
    ok_so _ _ c.create.result c.create.ensures.opened
    (λ r is. leaves_same c.args.head.now (g.D.Disk.told c.args.disk) (g.D.Disk.told r.0.frame.disk) (g.met.D.Disk.lawful c.args.disk) (opened_after (g.D.Disk.told c.args.disk) (g.D.Disk.told c.is_empty.new.disk) c.is_empty.ensures.unwritten c.args.head.now c.args.limit r.0 (durable r.1) is).disk)

pub returns-then-empty-clause-any_moment_err : goal.returns-then-empty-clause-any_moment_err
returns-then-empty-clause-any_moment_err g c =
    err_so _ _ c.create.result c.create.ensures.refused
    (λ e is. leaves_same c.args.head.now (g.D.Disk.told c.args.disk) (g.D.Disk.told e.1) (g.met.D.Disk.lawful c.args.disk) (not_opened_after (g.D.Disk.told c.args.disk) (g.D.Disk.told c.is_empty.new.disk) c.is_empty.ensures.unwritten c.args.head.now c.args.limit e.0 (g.D.Disk.told e.1) is).disk)

pub returns-else-empty-clause-any_moment : goal.returns-else-empty-clause-any_moment
returns-else-empty-clause-any_moment g c =
    ok_so _ _ c.load.result c.load.ensures.opened
    (λ r is. leaves_same c.args.head.now (g.D.Disk.told c.args.disk) (g.D.Disk.told r.0.frame.disk) (g.met.D.Disk.lawful c.args.disk) (opened_after (g.D.Disk.told c.args.disk) (g.D.Disk.told c.is_empty.new.disk) c.is_empty.ensures.unwritten c.args.head.now c.args.limit r.0 (durable r.1) is).disk)

pub returns-else-empty-clause-any_moment_err : goal.returns-else-empty-clause-any_moment_err
returns-else-empty-clause-any_moment_err g c =
    err_so _ _ c.load.result c.load.ensures.refused
    (λ e is. leaves_same c.args.head.now (g.D.Disk.told c.args.disk) (g.D.Disk.told e.1) (g.met.D.Disk.lawful c.args.disk) (not_opened_after (g.D.Disk.told c.args.disk) (g.D.Disk.told c.is_empty.new.disk) c.is_empty.ensures.unwritten c.args.head.now c.args.limit e.0 (g.D.Disk.told e.1) is).disk)
