use Rattle.std.proofs.Common.{false, List, [], ◌∷◌, ◌++◌, Err, refl, sym, ap, ◌∙◌}
use Rattle.std.proofs.lemmas.Result.{err_from_is_err_and}
use Rattle.vs_event.specs.declared.event.Event.{Event}
use Rattle.vs_event.specs.declared.event.Event.TheVariants.{Restart}
use Rattle.vs_world.specs.Restarts.{IsRestartCause}
use Rattle.vs_world.specs.Whole.{shown}
use Rattle.vs_world.proofs.Carrying.{whole_carried}
use Rattle.vs_world.proofs.Grown.{whole_same, untouched_stores}
use Rattle.vs_world.proofs.Kept.{kept, same_disks, no_memory}
use Rattle.vs_world.proofs.Writing.{Laws}
use Rattle.vs_world.proofs.steps.play_restart.Goals as goal

pub returns-in_err-reserve-clause-disks : goal.returns-in_err-reserve-clause-disks
returns-in_err-reserve-clause-disks g c = same_disks g.D.Disk.told g.met.D.Disk.lawful (shown c.args.core.now c.args.events.now c.args.opening.now c.args.stores.now) (shown c.args.core.now c.reserve.new.self c.args.opening.now c.args.stores.now) (kept c.args.core.now c.args.events.now c.args.opening.now c.args.stores.now c.requires.whole) refl (Restart c.args.set false c.args.by)

-- ---- it is up, and there is no memory

pub returns-in_err-carry_out-clause-whole : goal.returns-in_err-carry_out-clause-whole
returns-in_err-carry_out-clause-whole g c =
    let free = c.in_err-carry_out.ensures.unreserved in
    whole_same c.args.core.now c.carry_out.new.core c.args.events.now c.carry_out.new.events c.args.opening.now c.args.stores.now c.args.stores.now 0 c.requires.whole (untouched_stores c.args.stores.now 0)
    c.in_err-carry_out.ensures.same (ap (λ list. list.items) c.in_err-carry_out.ensures.none ∙ c.in_ok-reserve.ensures.items) (λ due hold. hold) (λ r. r) (λ r. r) (λ reserved. absurd (cc (reserved, free)))

pub returns-in_err-carry_out-clause-cause : goal.returns-in_err-carry_out-clause-cause
returns-in_err-carry_out-clause-cause g c =
    let p = err_from_is_err_and c.from_residual-in_err-carry_out.result c.from_residual-in_err-carry_out.ensures.1 in
    no_memory c.from_residual-in_err-carry_out.result (IsRestartCause g.D.Disk.told (shown c.args.core.now c.args.events.now c.args.opening.now c.args.stores.now) (shown c.carry_out.new.core c.carry_out.new.events c.args.opening.now c.args.stores.now) c.args.set c.args.by) (p.1 ∙ ap Err p.2)
    (record { state = c.in_err-carry_out.ensures.same; events = ap (λ list. list.items) c.in_err-carry_out.ensures.none ∙ c.in_ok-reserve.ensures.items; opening = refl })

pub returns-in_err-carry_out-clause-disks : goal.returns-in_err-carry_out-clause-disks
returns-in_err-carry_out-clause-disks g c = same_disks g.D.Disk.told g.met.D.Disk.lawful (shown c.args.core.now c.args.events.now c.args.opening.now c.args.stores.now) (shown c.carry_out.new.core c.carry_out.new.events c.args.opening.now c.args.stores.now) (kept c.args.core.now c.args.events.now c.args.opening.now c.args.stores.now c.requires.whole) refl (Restart c.args.set false c.args.by)

-- ---- it is up, and its command is answered

pub returns-then-is_up-clause-whole : goal.returns-then-is_up-clause-whole
returns-then-is_up-clause-whole g c =
    let laws : Laws = record {
      inputs = c.given_inputs.ensures.kept;
      events = c.recorded_changes.ensures.events;
      written = c.recorded_changes.ensures.written;
      faults = c.recorded_changes.ensures.faults;
      pending = c.recorded_changes.ensures.pending;
    } in
    whole_carried laws c.args.core.now c.carry_out.new.core c.args.events.now c.carry_out.new.events c.args.opening.now c.args.stores.now c.requires.whole (Restart c.args.set false c.args.by)
    (sym c.is_up.ensures ∙ c.if-is_up.true) refl c.in_ok-carry_out.ensures.step
    (c.in_ok-carry_out.ensures.events ∙ ap (λ (list : List Event). list ++ (Restart c.args.set false c.args.by) ∷ []) c.in_ok-reserve.ensures.items)
    c.in_ok-carry_out.ensures.unreserved

pub returns-then-is_up-clause-disks : goal.returns-then-is_up-clause-disks
returns-then-is_up-clause-disks g c = same_disks g.D.Disk.told g.met.D.Disk.lawful (shown c.args.core.now c.args.events.now c.args.opening.now c.args.stores.now) (shown c.carry_out.new.core c.carry_out.new.events c.args.opening.now c.args.stores.now) (kept c.args.core.now c.args.events.now c.args.opening.now c.args.stores.now c.requires.whole) refl (Restart c.args.set false c.args.by)
