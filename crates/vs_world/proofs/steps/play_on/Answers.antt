use Rattle.std.proofs.Common.{Err, refl, sym, ap, ◌∙◌}
use Rattle.std.proofs.lemmas.Result.{err_from_is_err_and}
use Rattle.std.specs.Option.{option_map}
use Rattle.vs_core.specs.Core.{means}
use Rattle.vs_core.specs.Records.{recording}
use Rattle.vs_world.specs.Steps.{IsStepCause}
use Rattle.vs_world.specs.Whole.{shown}
use Rattle.vs_world.proofs.Carrying.{not_written, whole_carried}
use Rattle.vs_world.proofs.Grown.{whole_same, untouched_stores}
use Rattle.vs_world.proofs.Kept.{kept, same_disks, no_memory}
use Rattle.vs_world.proofs.Writing.{Laws}
use Rattle.vs_world.proofs.steps.play_on.Goals as goal

pub returns-in_err-recording-clause-disks : goal.returns-in_err-recording-clause-disks
returns-in_err-recording-clause-disks g c =
    same_disks g.D.Disk.told g.met.D.Disk.lawful (shown c.args.core.now c.args.events.now c.args.opening.now c.args.stores.now) (shown c.args.core.now c.args.events.now c.args.opening.now c.args.stores.now) (kept c.args.core.now c.args.events.now c.args.opening.now c.args.stores.now c.requires.whole) refl c.args.event

pub returns-in_err-carry_out-in-None-clause-whole : goal.returns-in_err-carry_out-in-None-clause-whole
returns-in_err-carry_out-in-None-clause-whole g c =
    let free = c.in_err-carry_out-in-None.ensures.unreserved in
    whole_same c.args.core.now c.carry_out.new.core c.args.events.now c.carry_out.new.events c.args.opening.now c.args.stores.now c.args.stores.now 0 c.requires.whole (untouched_stores c.args.stores.now 0)
    c.in_err-carry_out-in-None.ensures.same (ap (λ list. list.items) c.in_err-carry_out-in-None.ensures.none) (λ due hold. hold) (λ r. r) (λ r. r) (λ reserved. absurd (cc (reserved, free)))

pub returns-in_err-carry_out-in-None-clause-cause : goal.returns-in_err-carry_out-in-None-clause-cause
returns-in_err-carry_out-in-None-clause-cause g c =
    let p = err_from_is_err_and c.from_residual-in_err-carry_out-in-None.result c.from_residual-in_err-carry_out-in-None.ensures.1 in
    no_memory c.from_residual-in_err-carry_out-in-None.result (IsStepCause g.D.Disk.told (shown c.args.core.now c.args.events.now c.args.opening.now c.args.stores.now) (shown c.carry_out.new.core c.carry_out.new.events c.args.opening.now c.args.stores.now) c.args.event) (p.1 ∙ ap Err p.2)
    (record { state = c.in_err-carry_out-in-None.ensures.same; events = ap (λ list. list.items) c.in_err-carry_out-in-None.ensures.none; opening = refl })

pub returns-in_err-carry_out-in-None-clause-disks : goal.returns-in_err-carry_out-in-None-clause-disks
returns-in_err-carry_out-in-None-clause-disks g c =
    same_disks g.D.Disk.told g.met.D.Disk.lawful (shown c.args.core.now c.args.events.now c.args.opening.now c.args.stores.now) (shown c.carry_out.new.core c.carry_out.new.events c.args.opening.now c.args.stores.now) (kept c.args.core.now c.args.events.now c.args.opening.now c.args.stores.now c.requires.whole) refl c.args.event

pub returns-in_ok-carry_out-in-None-clause-whole : goal.returns-in_ok-carry_out-in-None-clause-whole
returns-in_ok-carry_out-in-None-clause-whole g c =
    let laws : Laws = record {
      inputs = c.given_inputs.ensures.kept;
      events = c.recorded_changes.ensures.events;
      written = c.recorded_changes.ensures.written;
      faults = c.recorded_changes.ensures.faults;
      pending = c.recorded_changes.ensures.pending;
    } in
    let none = not_written (means c.args.core.now) c.args.event c.requires.raises_none (sym c.in_ok-recording.ensures ∙ ap (option_map recording) c.in-None.is) in
    whole_carried laws c.args.core.now c.carry_out.new.core c.args.events.now c.carry_out.new.events c.args.opening.now c.args.stores.now c.requires.whole c.args.event c.requires.raises_none none c.in_ok-carry_out-in-None.ensures.step c.in_ok-carry_out-in-None.ensures.events c.in_ok-carry_out-in-None.ensures.unreserved

pub returns-in_ok-carry_out-in-None-clause-disks : goal.returns-in_ok-carry_out-in-None-clause-disks
returns-in_ok-carry_out-in-None-clause-disks g c =
    same_disks g.D.Disk.told g.met.D.Disk.lawful (shown c.args.core.now c.args.events.now c.args.opening.now c.args.stores.now) (shown c.carry_out.new.core c.carry_out.new.events c.args.opening.now c.args.stores.now) (kept c.args.core.now c.args.events.now c.args.opening.now c.args.stores.now c.requires.whole) refl c.args.event
