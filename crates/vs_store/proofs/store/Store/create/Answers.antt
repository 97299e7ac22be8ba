use Rattle.std.proofs.Common.{refl, sym}
use Rattle.vs_record.specs.States.{durable}
use Rattle.vs_store.proofs.Buckets.{begins_within}
use Rattle.vs_store.proofs.Opening.{fresh_opened}
use Rattle.vs_store.proofs.store.Store.create.Goals as goal

pub returns-in-Ok-create-clause-opened : goal.returns-in-Ok-create-clause-opened
returns-in-Ok-create-clause-opened g c =
    let frame = c.in-Ok-create.frame in
    let made = c.in-Ok-create.ensures in
    fresh_opened _ c.args.head.now c.args.limit (g.D.Disk.told c.args.disk) (durable c.in-Ok.state) (g.met.D.Disk.lawful frame.disk) made.durable made.ready.0 refl refl refl (sym made.none) made.level (sym made.ready.1.gate) made.keeps c.requires.none made.torn_ok made.any_moment made.journal c.in-Ok.ensures

pub returns-in-Ok-create-clause-within : goal.returns-in-Ok-create-clause-within
returns-in-Ok-create-clause-within g c = begins_within c.args.head.now (durable c.in-Ok.state) c.requires.head c.in-Ok.ensures
