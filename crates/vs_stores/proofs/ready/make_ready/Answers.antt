use Rattle.std.proofs.Common.{◌≡◌, ◌<◌, ◌+◌, Bool, length, refl, sym, ap, subst, ◌∙◌, arith}
use Rattle.std.specs.Prelude.{◌&&◌, slice_set}
use Rattle.std.proofs.lemmas.Option.{slice_get_read}
use Rattle.vs_stores.proofs.MadeReady.{unwritten_more, unwritten_next, ready_next, empty_next, has_failed}
use Rattle.vs_stores.specs.OpenedStores.{AreEmpty}
use Rattle.vs_stores.proofs.ready.make_ready.Goals as goal
use Rattle.vs_stores.proofs.ready.make_ready.Goals.{then-are_empty, else-are_empty}

pub returns-in-Err-Failed-clause-unwritten : goal.returns-in-Err-Failed-clause-unwritten
returns-in-Err-Failed-clause-unwritten g c =
    let i = c.loop-i.i in
    let after = c.loop-i.disks.items in
    let was = c.index_mut-disk.result.now in
    let u = c.loop-i.invariant.unwritten in
    let lt : i < length after = omega (arith, c.loop-i-test.true, c.requires.within, u.count) in
    let at = slice_get_read after (length after) i was refl lt c.index_mut-disk.ensures.value in
    unwritten_more g.D.Disk.told (i + 1) c.args.sets c.args.disks.now.items _ (omega (arith, c.loop-i-test.true)) (unwritten_next g.D.Disk.told i c.args.disks.now.items after was c.open_disk.new.disk at u c.open_disk.ensures.unwritten)

pub returns-in-Err-NoMemory-clause-unwritten : goal.returns-in-Err-NoMemory-clause-unwritten
returns-in-Err-NoMemory-clause-unwritten g c =
    let i = c.loop-i.i in
    let after = c.loop-i.disks.items in
    let was = c.index_mut-disk.result.now in
    let u = c.loop-i.invariant.unwritten in
    let lt : i < length after = omega (arith, c.loop-i-test.true, c.requires.within, u.count) in
    let at = slice_get_read after (length after) i was refl lt c.index_mut-disk.ensures.value in
    unwritten_more g.D.Disk.told (i + 1) c.args.sets c.args.disks.now.items _ (omega (arith, c.loop-i-test.true)) (unwritten_next g.D.Disk.told i c.args.disks.now.items after was c.open_disk.new.disk at u c.open_disk.ensures.unwritten)

pub returns-in-Err-Failed-clause-failed : goal.returns-in-Err-Failed-clause-failed
returns-in-Err-Failed-clause-failed g c =
    let i = c.loop-i.i in
    let after = c.loop-i.disks.items in
    let was = c.index_mut-disk.result.now in
    let u = c.loop-i.invariant.unwritten in
    let lt : i < length after = omega (arith, c.loop-i-test.true, c.requires.within, u.count) in
    let at = slice_get_read after (length after) i was refl lt c.index_mut-disk.ensures.value in
    has_failed g.D.Disk.told i c.args.disks.now.items after was c.open_disk.new.disk at u c.args.sets c.number_at.result c.number_at.ensures c.loop-i-test.true (c.open_disk.ensures.failed (cc (c.in-Err-Failed.is, c.in-Err-Failed.field-0-is)))

pub loop-i-preserved : goal.loop-i-preserved
loop-i-preserved g c =
    let i = c.loop-i.i in
    let after = c.loop-i.disks.items in
    let was = c.index_mut-disk.result.now in
    let u = c.loop-i.invariant.unwritten in
    let lt : i < length after = omega (arith, c.loop-i-test.true, c.requires.within, u.count) in
    let at = slice_get_read after (length after) i was refl lt c.index_mut-disk.ensures.value in
    let both : c.if-are_empty.are_empty ≡ (c.loop-i.are_empty && c.in-Ok.is_empty) = elim c.if-are_empty.branch [
      | then-are_empty w ↦ w.are_empty-is ∙ ap (λ (b : Bool). b && c.in-Ok.is_empty) (sym w.if-are_empty.true)
      | else-are_empty w ↦ w.are_empty-is ∙ w.if-are_empty.false ∙ ap (λ (b : Bool). b && c.in-Ok.is_empty) (sym w.if-are_empty.false)
    ] in
    record {
      ready = ready_next g.D.Disk.told i c.args.disks.now.items after was c.open_disk.new.disk at u c.loop-i.invariant.ready c.in-Ok.ensures.open;
      empty = subst (AreEmpty g.D.Disk.told (i + 1) (slice_set after i c.open_disk.new.disk)) (sym both) (empty_next g.D.Disk.told i c.args.disks.now.items after was c.open_disk.new.disk at u c.loop-i.are_empty c.in-Ok.is_empty lt c.loop-i.invariant.empty c.in-Ok.ensures.empty);
      unwritten = unwritten_next g.D.Disk.told i c.args.disks.now.items after was c.open_disk.new.disk at u c.open_disk.ensures.unwritten;
    }
