use Rattle.std.proofs.Common.{false, refl, ap}
use Rattle.std.proofs.lemmas.Result.{err_from_is_err_and}
use Rattle.vs_core.specs.Core.{means}
use Rattle.vs_event.specs.declared.event.Event.TheVariants.{Restart}
use Rattle.vs_world.specs.Whole.{due_of, played_in}
use Rattle.vs_world.proofs.Playing.{is_reached}
use Rattle.vs_world.proofs.RestartCauses.{stays_down}
use Rattle.vs_world.proofs.Restarted.{may_be_found}
use Rattle.vs_world.proofs.Touched.{fit_on, has_restarted, raised_whole, still_whole, touched_by, touched_disks, touched_on}
use Rattle.vs_world.proofs.restarts.restart.Goals as goal

pub reopen-requires : goal.reopen-requires
reopen-requires g c = record { has = has_restarted c.args.core.now c.args.events.now c.args.opening.now c.args.stores.now c.args.set false c.args.by c.requires.whole c.requires.possible }

-- ---- the disk failed

pub returns-in-Err-clause-whole : goal.returns-in-Err-clause-whole
returns-in-Err-clause-whole g c =
    let x = c.args.set in
    let s = means c.args.core.now in
    let whole = c.requires.whole in
    let has = has_restarted c.args.core.now c.args.events.now c.args.opening.now c.args.stores.now x false c.args.by whole c.requires.possible in
    let touched = touched_by s c.args.stores.now c.reopen.new.self x whole.hold (s.pending x) refl c.reopen.ensures.others (c.reopen.ensures.any_moment (s.pending x)) in
    still_whole c.args.core.now c.args.core.now c.args.events.now c.args.events.now c.args.opening.now c.args.stores.now c.reopen.new.self x whole has touched c.requires.down
    (record { state = refl; events = refl; opening = refl }) whole.room
    (record { hold = c.reopen.ensures.still (due_of s) whole.hold; calm = λ none. c.reopen.ensures.still_calm (whole.calm x none) })

pub returns-in-Err-clause-cause : goal.returns-in-Err-clause-cause
returns-in-Err-clause-cause g c =
    let x = c.args.set in
    let s = means c.args.core.now in
    let whole = c.requires.whole in
    let has = has_restarted c.args.core.now c.args.events.now c.args.opening.now c.args.stores.now x false c.args.by whole c.requires.possible in
    let touched = touched_by s c.args.stores.now c.reopen.new.self x whole.hold (s.pending x) refl c.reopen.ensures.others (c.reopen.ensures.any_moment (s.pending x)) in (
      refl,
      stays_down c.args.core.now c.args.core.now c.args.events.now c.args.events.now c.args.opening.now c.args.stores.now c.reopen.new.self x whole has touched c.requires.down c.args.by false c.in-Err.ensures.failed,
      record { state = refl; events = refl; opening = refl },
    )

pub returns-in-Err-clause-disks : goal.returns-in-Err-clause-disks
returns-in-Err-clause-disks g c =
    let x = c.args.set in
    let s = means c.args.core.now in
    let whole = c.requires.whole in
    let has = has_restarted c.args.core.now c.args.events.now c.args.opening.now c.args.stores.now x false c.args.by whole c.requires.possible in
    let touched = touched_by s c.args.stores.now c.reopen.new.self x whole.hold (s.pending x) refl c.reopen.ensures.others (c.reopen.ensures.any_moment (s.pending x)) in
    touched_disks c.args.core.now c.args.core.now c.args.events.now c.args.events.now c.args.opening.now c.args.stores.now c.reopen.new.self x whole has touched g.met.D.Disk.lawful false c.args.by

-- ---- it can be carried out

pub carry_out-requires-clause-possible : goal.carry_out-requires-clause-possible
carry_out-requires-clause-possible g c =
    let x = c.args.set in
    may_be_found (means c.args.core.now) x c.args.by c.in-Ok.kept c.requires.down (λ none. c.in-Ok.ensures.none (c.requires.whole.calm x none)) c.requires.possible

-- ---- there is no memory

pub returns-in_err-carry_out-clause-whole : goal.returns-in_err-carry_out-clause-whole
returns-in_err-carry_out-clause-whole g c =
    let x = c.args.set in
    let s = means c.args.core.now in
    let whole = c.requires.whole in
    let has = has_restarted c.args.core.now c.args.events.now c.args.opening.now c.args.stores.now x false c.args.by whole c.requires.possible in
    let touched = touched_by s c.args.stores.now c.reopen.new.self x whole.hold (s.pending x) refl c.reopen.ensures.others (c.reopen.ensures.any_moment (s.pending x)) in
    still_whole c.args.core.now c.carry_out.new.core c.args.events.now c.carry_out.new.events c.args.opening.now c.args.stores.now c.reopen.new.self x whole has touched c.requires.down
    (record { state = c.in_err-carry_out.ensures.same; events = ap (λ list. list.items) c.in_err-carry_out.ensures.none; opening = refl })
    (λ reserved. absurd (cc (reserved, c.carry_out.ensures.unreserved)))
    (record { hold = c.reopen.ensures.still (due_of s) whole.hold; calm = λ none. c.reopen.ensures.still_calm (whole.calm x none) })

pub returns-in_err-carry_out-clause-cause : goal.returns-in_err-carry_out-clause-cause
returns-in_err-carry_out-clause-cause g c =
    let p = err_from_is_err_and c.from_residual.result c.from_residual.ensures.1 in
    rw (p.1, p.2) (record { state = c.in_err-carry_out.ensures.same; events = ap (λ list. list.items) c.in_err-carry_out.ensures.none; opening = refl })

pub returns-in_err-carry_out-clause-disks : goal.returns-in_err-carry_out-clause-disks
returns-in_err-carry_out-clause-disks g c =
    let x = c.args.set in
    let s = means c.args.core.now in
    let whole = c.requires.whole in
    let has = has_restarted c.args.core.now c.args.events.now c.args.opening.now c.args.stores.now x false c.args.by whole c.requires.possible in
    let touched = touched_by s c.args.stores.now c.reopen.new.self x whole.hold (s.pending x) refl c.reopen.ensures.others (c.reopen.ensures.any_moment (s.pending x)) in
    touched_disks c.args.core.now c.carry_out.new.core c.args.events.now c.carry_out.new.events c.args.opening.now c.args.stores.now c.reopen.new.self x whole has touched g.met.D.Disk.lawful false c.args.by

-- ---- it is up again

pub returns-clause-whole : goal.returns-clause-whole
returns-clause-whole g c =
    let x = c.args.set in
    let s = means c.args.core.now in
    let t = means c.carry_out.new.core in
    let kept = c.in-Ok.kept in
    let whole = c.requires.whole in
    let has = has_restarted c.args.core.now c.args.events.now c.args.opening.now c.args.stores.now x false c.args.by whole c.requires.possible in
    let first = touched_by s c.args.stores.now c.reopen.new.self x whole.hold (s.pending x) refl c.reopen.ensures.others (c.reopen.ensures.any_moment (s.pending x)) in
    let touched = touched_on s c.args.stores.now c.reopen.new.self c.forget_last.new.self x has first c.forget_last.ensures.others c.forget_last.ensures.disk in
    let fit = fit_on s c.args.stores.now c.forget_last.new.self x whole.hold c.reopen.new.self kept c.in-Ok.ensures.decided c.forget_last.ensures.still c.forget_last.ensures.ready c.forget_last.ensures.calm in
    let stepped = c.in_ok-carry_out.ensures.step in
    raised_whole c.args.core.now c.carry_out.new.core c.args.events.now c.carry_out.new.events c.args.opening.now c.args.stores.now c.forget_last.new.self x whole has touched c.requires.down kept c.args.by
    (record { step = stepped; events = c.in_ok-carry_out.ensures.events; opening = refl })
    (c.recorded_changes.ensures.written s t (Restart x kept c.args.by) (is_reached (played_in c.args.core.now c.args.events.now c.args.opening.now) whole.run) stepped)
    (c.given_inputs.ensures.kept s t (Restart x kept c.args.by) stepped).config
    c.carry_out.ensures.unreserved fit

pub returns-clause-disks : goal.returns-clause-disks
returns-clause-disks g c =
    let x = c.args.set in
    let s = means c.args.core.now in
    let whole = c.requires.whole in
    let has = has_restarted c.args.core.now c.args.events.now c.args.opening.now c.args.stores.now x false c.args.by whole c.requires.possible in
    let first = touched_by s c.args.stores.now c.reopen.new.self x whole.hold (s.pending x) refl c.reopen.ensures.others (c.reopen.ensures.any_moment (s.pending x)) in
    let touched = touched_on s c.args.stores.now c.reopen.new.self c.forget_last.new.self x has first c.forget_last.ensures.others c.forget_last.ensures.disk in
    touched_disks c.args.core.now c.carry_out.new.core c.args.events.now c.carry_out.new.events c.args.opening.now c.args.stores.now c.forget_last.new.self x whole has touched g.met.D.Disk.lawful false c.args.by
