use Rattle.std.proofs.Common.{◌∙◌, Err, refl, sym, ap, subst}
use Rattle.vs_frame.specs.Frame.{version_of, gate_of}
use Rattle.vs_frame.specs.Unwritten.{IsUnwritten}
use Rattle.vs_record.specs.States.{durable}
use Rattle.vs_store.specs.Opening.{IsNotOpened}
use Rattle.vs_disk.specs.Told.{Reads}
use Rattle.std.specs.Prelude.{IsOkAnd}
use Rattle.vs_store.specs.Replay.{IsReadAs}
use Rattle.vs_store.specs.Standing.{opened}
use Rattle.vs_store.proofs.Opening.{not_read, read_as, upgraded_opened, upgraded_disk, is_upgraded, has_room, not_upgraded}
use Rattle.vs_store.proofs.store.Store.read.Goals as goal

pub returns-in-Err-clause-refused : goal.returns-in-Err-clause-refused
returns-in-Err-clause-refused g c =
    let scan = c.args.scan in
    let e = c.in-Err.fault in
    let told = g.D.Disk.told in
    let is : IsNotOpened c.args.head.now c.args.limit (g.D.Disk.told scan.disk) e (g.D.Disk.told c.read_set.new.scan.disk) = not_read (g.D.Disk.told scan.disk) (g.D.Disk.told c.read_set.new.scan.disk) c.read_set.ensures.unwritten c.args.head.now c.args.limit e c.requires.some (λ refusal. c.in-Err.ensures.refused refusal) c.in-Err.ensures.cause (λ fault. c.in-Err.ensures.fault (ap (λ f. Err f) fault)) in
    subst (λ disk. IsNotOpened c.args.head.now c.args.limit (g.D.Disk.told scan.disk) e (g.D.Disk.told disk)) (sym c.into_disk.ensures.disk) is

pub returns-in-Ok-upgrade-clause-opened : goal.returns-in-Ok-upgrade-clause-opened
returns-in-Ok-upgrade-clause-opened g c =
    let scan = c.args.scan in
    let a = g.D.Disk.told scan.disk in
    let old = c.into_frame-frame.result in
    let new = c.upgrade.new.frame in
    let d = durable c.in-Ok.read.0 in
    let u = subst (λ disk. IsUnwritten (g.D.Disk.told scan.disk) (g.D.Disk.told disk)) (sym c.into_frame-frame.ensures.disk) c.read_set.ensures.unwritten in
    let read : Reads a (λ file. IsOkAnd (opened c.args.head.now file) (IsReadAs (gate_of old) c.in-Ok.read.1 (version_of old) d)) = λ tells. read_as (opened c.args.head.now a.reads_as) c.read_set.new.scan.place (gate_of old) c.in-Ok.read.1 scan.version (version_of old) d (c.in-Ok.ensures.opened tells) c.into_frame-frame.ensures.gate (c.into_frame-frame.ensures.version ∙ c.read_set.ensures.version) in
    let up = c.in-Ok-upgrade.ensures in
    let laws = g.met.D.Disk.lawful old.disk in
    let on = upgraded_disk old new a u c.requires.some c.args.head.now c.args.limit c.in-Ok.read.1 d read c.upgrade.ensures.second c.upgrade.ensures.any_moment c.upgrade.ensures.reads c.upgrade.ensures.keeps laws in
    upgraded_opened _ c.args.head.now c.args.limit a d (g.met.D.Disk.lawful new.disk) (up.durable (old.durable c.into_frame-frame.ensures.ready)) up.ready.0 refl refl up.none up.level on c.requires.some
    (is_upgraded old new a u c.requires.some c.args.head.now c.args.limit c.in-Ok.read.1 d read c.upgrade.ensures.second c.upgrade.ensures.any_moment c.upgrade.ensures.reads c.upgrade.ensures.keeps laws up.gate up.migrated)
    (has_room old new a u c.requires.some c.args.head.now c.args.limit c.in-Ok.read.1 d read c.upgrade.ensures.second c.upgrade.ensures.any_moment c.upgrade.ensures.reads c.upgrade.ensures.keeps laws up.room)

pub returns-in-Err-upgrade-clause-refused : goal.returns-in-Err-upgrade-clause-refused
returns-in-Err-upgrade-clause-refused g c =
    let scan = c.args.scan in
    let a = g.D.Disk.told scan.disk in
    let old = c.into_frame-frame.result in
    let new = c.upgrade.new.frame in
    let e = c.in-Err-upgrade.fault in
    let d = durable c.in-Ok.read.0 in
    let u = subst (λ disk. IsUnwritten (g.D.Disk.told scan.disk) (g.D.Disk.told disk)) (sym c.into_frame-frame.ensures.disk) c.read_set.ensures.unwritten in
    let read : Reads a (λ file. IsOkAnd (opened c.args.head.now file) (IsReadAs (gate_of old) c.in-Ok.read.1 (version_of old) d)) = λ tells. read_as (opened c.args.head.now a.reads_as) c.read_set.new.scan.place (gate_of old) c.in-Ok.read.1 scan.version (version_of old) d (c.in-Ok.ensures.opened tells) c.into_frame-frame.ensures.gate (c.into_frame-frame.ensures.version ∙ c.read_set.ensures.version) in
    let up = c.in-Err-upgrade.ensures in
    let laws = g.met.D.Disk.lawful old.disk in
    let is = not_upgraded old new a u c.requires.some c.args.head.now c.args.limit c.in-Ok.read.1 d read c.upgrade.ensures.second c.upgrade.ensures.any_moment c.upgrade.ensures.reads c.upgrade.ensures.keeps laws e up.cause
    (λ len is. up.full len (ap (λ f. Err f) is)) (λ is. up.memory (ap (λ f. Err f) is)) (λ is. up.fault (ap (λ f. Err f) is)) in
    subst (λ disk. IsNotOpened c.args.head.now c.args.limit (g.D.Disk.told scan.disk) e (g.D.Disk.told disk)) (sym c.into_disk-in-Err-upgrade.ensures.disk) is
