use Rattle.std.proofs.Common.{◌≡◌, ℕ, Ok, true, refl, sym, ap, subst, ◌∙◌}
use Rattle.std.proofs.lemmas.Result.{err_from_is_err_and}
use Rattle.vs_core.specs.Core.{means}
use Rattle.vs_event.specs.declared.event.Event.TheVariants.{Restart}
use Rattle.vs_machine.specs.State.{State, has_set}
use Rattle.vs_machine.specs.Step.{step}
use Rattle.vs_state.specs.Guard.{verdict}
use Rattle.vs_world.specs.Touched.{IsFit, IsStill, IsTouched, IsUnfit}
use Rattle.vs_world.specs.Whole.{played_in, shown}
use Rattle.vs_world.specs.World.{IsLengthAt}
use Rattle.vs_world.specs.declared.fault.StepFault.TheVariants.{Full}
use Rattle.vs_world.proofs.Lengths.{length_shown}
use Rattle.vs_world.proofs.Playing.{is_reached}
use Rattle.vs_world.proofs.RestartCauses.{step_cause, unfit_ready}
use Rattle.vs_world.proofs.Restarted.{restarts_set}
use Rattle.vs_world.proofs.Touched.{has_restarted, raised_whole, still_whole, touched_disks, untouched}
use Rattle.vs_world.proofs.restarts.restart_as.Goals as goal

-- ---- there is no memory for the event

pub returns-in_err-reserve_for-clause-whole : goal.returns-in_err-reserve_for-clause-whole
returns-in_err-reserve_for-clause-whole g c =
    let x = c.args.set in
    let s = means c.args.core.now in
    let whole = c.requires.whole in
    let has = has_restarted c.args.core.now c.args.events.now c.args.opening.now c.args.stores.now x c.args.kept c.args.by whole c.requires.possible in
    still_whole c.args.core.now c.reserve_for.new.self c.args.events.now c.args.events.now c.args.opening.now c.args.stores.now c.args.stores.now x whole has
    (untouched s c.args.stores.now x g.met.D.Disk.lawful whole.hold) c.requires.down
    (record { state = c.reserve_for.ensures.same; events = refl; opening = refl })
    (λ reserved. absurd (cc (reserved, c.reserve_for.ensures.unreserved)))
    (record { hold = whole.hold; calm = whole.calm x })

pub returns-in_err-reserve_for-clause-cause : goal.returns-in_err-reserve_for-clause-cause
returns-in_err-reserve_for-clause-cause g c =
    let p = err_from_is_err_and c.from_residual.result c.from_residual.ensures.1 in
    rw (p.1, p.2) (record { state = c.reserve_for.ensures.same; events = refl; opening = refl })

pub returns-in_err-reserve_for-clause-disks : goal.returns-in_err-reserve_for-clause-disks
returns-in_err-reserve_for-clause-disks g c =
    let x = c.args.set in
    let s = means c.args.core.now in
    let whole = c.requires.whole in
    let has = has_restarted c.args.core.now c.args.events.now c.args.opening.now c.args.stores.now x c.args.kept c.args.by whole c.requires.possible in
    touched_disks c.args.core.now c.reserve_for.new.self c.args.events.now c.args.events.now c.args.opening.now c.args.stores.now c.args.stores.now x whole has
    (untouched s c.args.stores.now x g.met.D.Disk.lawful whole.hold) g.met.D.Disk.lawful c.args.kept c.args.by

-- ---- the journal is made to fit it

pub make_fit-requires-clause-has : goal.make_fit-requires-clause-has
make_fit-requires-clause-has g c = has_restarted c.args.core.now c.args.events.now c.args.opening.now c.args.stores.now c.args.set c.args.kept c.args.by c.requires.whole c.requires.possible

pub make_fit-requires-clause-still : goal.make_fit-requires-clause-still
make_fit-requires-clause-still g c =
    let here : IsStill (means c.args.core.now) c.args.stores.now c.args.set = record { hold = c.requires.whole.hold; calm = c.requires.whole.calm c.args.set } in
    subst (λ (s : State). IsStill s c.args.stores.now c.args.set) (sym c.reserve_for.ensures.same) here

-- ---- it can't be

pub returns-in_err-make_fit-clause-whole : goal.returns-in_err-make_fit-clause-whole
returns-in_err-make_fit-clause-whole g c =
    let x = c.args.set in
    let s = means c.args.core.now in
    let whole = c.requires.whole in
    let has = has_restarted c.args.core.now c.args.events.now c.args.opening.now c.args.stores.now x c.args.kept c.args.by whole c.requires.possible in
    let same = c.reserve_for.ensures.same in
    let touched : IsTouched s c.args.stores.now c.make_fit.new.stores x = subst (λ (u : State). IsTouched u c.args.stores.now c.make_fit.new.stores x) same c.make_fit.ensures.touched in
    let still : IsStill s c.make_fit.new.stores x = subst (λ (u : State). IsStill u c.make_fit.new.stores x) same c.in_err-make_fit.ensures.still in
    still_whole c.args.core.now c.reserve_for.new.self c.args.events.now c.args.events.now c.args.opening.now c.args.stores.now c.make_fit.new.stores x whole has touched c.requires.down
    (record { state = same; events = refl; opening = refl })
    (λ reserved. absurd (cc (reserved, c.reserve_for.ensures.unreserved)))
    still

pub returns-in_err-make_fit-clause-cause : goal.returns-in_err-make_fit-clause-cause
returns-in_err-make_fit-clause-cause g c =
    let x = c.args.set in
    let s = means c.args.core.now in
    let whole = c.requires.whole in
    let has = has_restarted c.args.core.now c.args.events.now c.args.opening.now c.args.stores.now x c.args.kept c.args.by whole c.requires.possible in
    let same = c.reserve_for.ensures.same in
    let touched : IsTouched s c.args.stores.now c.make_fit.new.stores x = subst (λ (u : State). IsTouched u c.args.stores.now c.make_fit.new.stores x) same c.make_fit.ensures.touched in
    let unfit : IsUnfit s c.args.stores.now c.make_fit.new.stores x c.args.kept c.in_err-make_fit.field-0.0 = subst (λ (u : State). IsUnfit u c.args.stores.now c.make_fit.new.stores x c.args.kept c.in_err-make_fit.field-0.0) same c.in_err-make_fit.ensures.cause in
    let p = err_from_is_err_and c.from_residual-in_err-make_fit.result c.from_residual-in_err-make_fit.ensures.1 in
    rw (p.1, p.2)
    (step_cause c.args.core.now c.reserve_for.new.self c.args.events.now c.args.events.now c.args.opening.now c.args.stores.now c.make_fit.new.stores x whole has touched c.requires.down c.args.by c.args.kept c.in_err-make_fit.field-0.0
    (record { state = same; events = refl; opening = refl }) unfit)

pub returns-in_err-make_fit-clause-disks : goal.returns-in_err-make_fit-clause-disks
returns-in_err-make_fit-clause-disks g c =
    let x = c.args.set in
    let s = means c.args.core.now in
    let whole = c.requires.whole in
    let has = has_restarted c.args.core.now c.args.events.now c.args.opening.now c.args.stores.now x c.args.kept c.args.by whole c.requires.possible in
    let touched : IsTouched s c.args.stores.now c.make_fit.new.stores x = subst (λ (u : State). IsTouched u c.args.stores.now c.make_fit.new.stores x) c.reserve_for.ensures.same c.make_fit.ensures.touched in
    touched_disks c.args.core.now c.reserve_for.new.self c.args.events.now c.args.events.now c.args.opening.now c.args.stores.now c.make_fit.new.stores x whole has touched g.met.D.Disk.lawful c.args.kept c.args.by

-- ---- it is up again

pub apply-requires-clause-possible : goal.apply-requires-clause-possible
apply-requires-clause-possible g c = subst (λ (s : State). verdict (step s (Restart c.args.set c.args.kept c.args.by)) ≡ Ok tt) (sym c.reserve_for.ensures.same) c.requires.possible

pub returns-clause-ok : goal.returns-clause-ok
returns-clause-ok g c = record {
  step = ap (λ s. step s (Restart c.args.set c.args.kept c.args.by)) (sym c.reserve_for.ensures.same) ∙ c.apply.ensures.step;
  events = c.push.ensures.items;
  opening = refl;
}

pub returns-clause-whole : goal.returns-clause-whole
returns-clause-whole g c =
    let x = c.args.set in
    let s = means c.args.core.now in
    let t = means c.apply.new.self in
    let kept = c.args.kept in
    let whole = c.requires.whole in
    let has = has_restarted c.args.core.now c.args.events.now c.args.opening.now c.args.stores.now x kept c.args.by whole c.requires.possible in
    let same = c.reserve_for.ensures.same in
    let touched : IsTouched s c.args.stores.now c.make_fit.new.stores x = subst (λ (u : State). IsTouched u c.args.stores.now c.make_fit.new.stores x) same c.make_fit.ensures.touched in
    let fit : IsFit s c.make_fit.new.stores x kept = subst (λ (u : State). IsFit u c.make_fit.new.stores x kept) same c.in_ok-make_fit.ensures.fit in
    let stepped : step s (Restart x kept c.args.by) ≡ Ok t = ap (λ u. step u (Restart x kept c.args.by)) (sym same) ∙ c.apply.ensures.step in
    raised_whole c.args.core.now c.apply.new.self c.args.events.now c.push.new.self c.args.opening.now c.args.stores.now c.make_fit.new.stores x whole has touched c.requires.down kept c.args.by
    (record { step = stepped; events = c.push.ensures.items; opening = refl })
    (c.recorded_changes.ensures.written s t (Restart x kept c.args.by) (is_reached (played_in c.args.core.now c.args.events.now c.args.opening.now) whole.run) stepped)
    (c.given_inputs.ensures.kept s t (Restart x kept c.args.by) stepped).config
    c.apply.ensures.spent fit

pub returns-clause-disks : goal.returns-clause-disks
returns-clause-disks g c =
    let x = c.args.set in
    let s = means c.args.core.now in
    let whole = c.requires.whole in
    let has = has_restarted c.args.core.now c.args.events.now c.args.opening.now c.args.stores.now x c.args.kept c.args.by whole c.requires.possible in
    let touched : IsTouched s c.args.stores.now c.make_fit.new.stores x = subst (λ (u : State). IsTouched u c.args.stores.now c.make_fit.new.stores x) c.reserve_for.ensures.same c.make_fit.ensures.touched in
    touched_disks c.args.core.now c.apply.new.self c.args.events.now c.push.new.self c.args.opening.now c.args.stores.now c.make_fit.new.stores x whole has touched g.met.D.Disk.lawful c.args.kept c.args.by

-- ---- the length of a journal that is full

pub returns-in_err-reserve_for-clause-length : goal.returns-in_err-reserve_for-clause-length
returns-in_err-reserve_for-clause-length g c y is =
    let p = err_from_is_err_and c.from_residual.result c.from_residual.ensures.1 in
    absurd (cc (p.1, p.2, is))

pub returns-in_err-make_fit-clause-length : goal.returns-in_err-make_fit-clause-length
returns-in_err-make_fit-clause-length g c y is =
    let x = c.args.set in
    let s = means c.args.core.now in
    let whole = c.requires.whole in
    let has = has_restarted c.args.core.now c.args.events.now c.args.opening.now c.args.stores.now x c.args.kept c.args.by whole c.requires.possible in
    let same = c.reserve_for.ensures.same in
    let fault = c.in_err-make_fit.field-0.0 in
    let touched : IsTouched s c.args.stores.now c.make_fit.new.stores x = subst (λ (u : State). IsTouched u c.args.stores.now c.make_fit.new.stores x) same c.make_fit.ensures.touched in
    let still : IsStill s c.make_fit.new.stores x = subst (λ (u : State). IsStill u c.make_fit.new.stores x) same c.in_err-make_fit.ensures.still in
    let unfit : IsUnfit s c.args.stores.now c.make_fit.new.stores x c.args.kept fault = subst (λ (u : State). IsUnfit u c.args.stores.now c.make_fit.new.stores x c.args.kept fault) same c.in_err-make_fit.ensures.cause in
    let p = err_from_is_err_and c.from_residual-in_err-make_fit.result c.from_residual-in_err-make_fit.ensures.1 in
    let full : fault ≡ Full y = cc (p.1, p.2, is) in
    let ready = unfit_ready c.args.core.now c.reserve_for.new.self c.args.events.now c.args.events.now c.args.opening.now c.args.stores.now c.make_fit.new.stores x whole has touched c.requires.down c.args.by c.args.kept fault y unfit full in
    let whole_now = still_whole c.args.core.now c.reserve_for.new.self c.args.events.now c.args.events.now c.args.opening.now c.args.stores.now c.make_fit.new.stores x whole has touched c.requires.down
    (record { state = same; events = refl; opening = refl })
    (λ reserved. absurd (cc (reserved, c.reserve_for.ensures.unreserved)))
    still in
    let there : has_set (means c.reserve_for.new.self) x ≡ true = ap (λ u. has_set u x) same ∙ restarts_set s x c.args.kept c.args.by c.requires.possible in
    subst (λ (z : ℕ). IsLengthAt g.D.Disk.told (shown c.reserve_for.new.self c.args.events.now c.args.opening.now c.make_fit.new.stores) z) (sym ready.0)
    (length_shown c.reserve_for.new.self c.args.events.now c.args.opening.now c.make_fit.new.stores whole_now x there ready.1)
