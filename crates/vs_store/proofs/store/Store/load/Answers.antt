use Rattle.vs_record.specs.States.{durable}
use Rattle.vs_store.proofs.Opening.{opened_after, not_opened_after, not_read, head_refused, not_full, frame_failed}
use Rattle.vs_store.proofs.Told.{ok_so, err_so}
use Rattle.vs_store.proofs.store.Store.load.Goals as goal

pub returns-in-Ok-clause-opened : goal.returns-in-Ok-clause-opened
returns-in-Ok-clause-opened g c =
    ok_so _ _ c.read.result c.read.ensures.opened (λ r is. opened_after (g.D.Disk.told c.args.disk) (g.D.Disk.told c.in-Ok.scan.disk) c.in-Ok.ensures.unwritten c.args.head.now c.args.limit r.0 (durable r.1) is)

pub returns-in-Ok-clause-refused : goal.returns-in-Ok-clause-refused
returns-in-Ok-clause-refused g c =
    err_so _ _ c.read.result c.read.ensures.refused (λ e is. not_opened_after (g.D.Disk.told c.args.disk) (g.D.Disk.told c.in-Ok.scan.disk) c.in-Ok.ensures.unwritten c.args.head.now c.args.limit e.0 (g.D.Disk.told e.1) is)

pub returns-in-Err-clause-refused : goal.returns-in-Err-clause-refused
returns-in-Err-clause-refused g c =
    let e = c.in-Err.fault in
    rw c.from.ensures
    (not_read (g.D.Disk.told c.args.disk) (g.D.Disk.told c.in-Err.disk) c.in-Err.ensures.unwritten_too c.args.head.now c.args.limit _ c.requires.some
    (λ refusal tells. head_refused c.args.head.now (g.D.Disk.told c.args.disk).reads_as e (λ place is. c.in-Err.ensures.refused place is tells) (λ place is. c.in-Err.ensures.before place is tells) refusal)
    (not_full e) (λ is. c.in-Err.ensures.fault (frame_failed e is)))
