use Rattle.std.proofs.Common.{◌≡◌, ℕ, true, Ok, Err, refl, sym, ap, subst, ◌∙◌}
use Rattle.std.proofs.lemmas.Result.{err_from_is_err_and}
use Rattle.vs_core.specs.Core.{means}
use Rattle.vs_core.specs.Records.{recording}
use Rattle.vs_event.specs.declared.event.Event.TheVariants.{Fault}
use Rattle.vs_machine.specs.State.{State, has_set}
use Rattle.vs_machine.specs.Step.{step}
use Rattle.vs_state.specs.Guard.{verdict}
use Rattle.vs_machine.specs.Kinds.Stops.{is_next_fault}
use Rattle.vs_stores.specs.Stores.{faults_at}
use Rattle.vs_world.specs.Began.{begun}
use Rattle.vs_world.specs.Steps.{fault_number}
use Rattle.vs_world.specs.Steps.{IsStepCause}
use Rattle.vs_world.specs.Whole.{shown}
use Rattle.vs_world.proofs.Grown.{whole_same, untouched_stores}
use Rattle.vs_world.proofs.Kept.{kept, same_disks, no_memory}
use Rattle.vs_world.specs.World.{IsLengthAt}
use Rattle.vs_world.proofs.Lengths.{length_shown}
use Rattle.vs_world.proofs.Writing as w
use Rattle.vs_world.proofs.steps.write.Goals as goal

-- ---- there is no memory

pub returns-in_err-reserve_for-clause-whole : goal.returns-in_err-reserve_for-clause-whole
returns-in_err-reserve_for-clause-whole g c =
    let free = c.in_err-reserve_for.ensures.unreserved in
    whole_same c.args.core.now c.reserve_for.new.self c.args.events.now c.args.events.now c.args.opening.now c.args.stores.now c.args.stores.now 0 c.requires.whole (untouched_stores c.args.stores.now 0)
    c.in_err-reserve_for.ensures.same refl (λ due hold. hold) (λ r. r) (λ r. r) (λ reserved. absurd (cc (reserved, free)))

pub returns-in_err-reserve_for-clause-cause : goal.returns-in_err-reserve_for-clause-cause
returns-in_err-reserve_for-clause-cause g c =
    let p = err_from_is_err_and c.from_residual.result c.from_residual.ensures.1 in
    no_memory c.from_residual.result (IsStepCause g.D.Disk.told (shown c.args.core.now c.args.events.now c.args.opening.now c.args.stores.now) (shown c.reserve_for.new.self c.args.events.now c.args.opening.now c.args.stores.now) c.args.event) (p.1 ∙ ap Err p.2)
    (record { state = c.in_err-reserve_for.ensures.same; events = refl; opening = refl })

pub returns-in_err-reserve_for-clause-disks : goal.returns-in_err-reserve_for-clause-disks
returns-in_err-reserve_for-clause-disks g c =
    same_disks g.D.Disk.told g.met.D.Disk.lawful (shown c.args.core.now c.args.events.now c.args.opening.now c.args.stores.now) (shown c.reserve_for.new.self c.args.events.now c.args.opening.now c.args.stores.now) (kept c.args.core.now c.args.events.now c.args.opening.now c.args.stores.now c.requires.whole) refl c.args.event

-- ---- the change is written

pub append-requires-clause-has : goal.append-requires-clause-has
append-requires-clause-has g c =
    let laws : w.Laws = record {
      inputs = c.given_inputs.ensures.kept;
      events = c.recorded_changes.ensures.events;
      written = c.recorded_changes.ensures.written;
      faults = c.recorded_changes.ensures.faults;
      pending = c.recorded_changes.ensures.pending;
    } in
    w.has laws c.args.core.now c.args.events.now c.args.opening.now c.args.stores.now c.requires.whole c.args.event c.requires.possible (recording c.args.recording.now) c.requires.records

pub append-requires-clause-ready : goal.append-requires-clause-ready
append-requires-clause-ready g c =
    let laws : w.Laws = record {
      inputs = c.given_inputs.ensures.kept;
      events = c.recorded_changes.ensures.events;
      written = c.recorded_changes.ensures.written;
      faults = c.recorded_changes.ensures.faults;
      pending = c.recorded_changes.ensures.pending;
    } in
    w.ready laws c.args.core.now c.args.events.now c.args.opening.now c.args.stores.now c.requires.whole c.args.event c.requires.possible (recording c.args.recording.now) c.requires.records

pub append-requires-clause-counts : goal.append-requires-clause-counts
append-requires-clause-counts g c =
    let laws : w.Laws = record {
      inputs = c.given_inputs.ensures.kept;
      events = c.recorded_changes.ensures.events;
      written = c.recorded_changes.ensures.written;
      faults = c.recorded_changes.ensures.faults;
      pending = c.recorded_changes.ensures.pending;
    } in
    (w.may laws c.args.core.now c.args.events.now c.args.opening.now c.args.stores.now c.requires.whole c.args.event c.requires.possible (recording c.args.recording.now) c.requires.records).counts

pub append-requires-clause-fits : goal.append-requires-clause-fits
append-requires-clause-fits g c =
    let laws : w.Laws = record {
      inputs = c.given_inputs.ensures.kept;
      events = c.recorded_changes.ensures.events;
      written = c.recorded_changes.ensures.written;
      faults = c.recorded_changes.ensures.faults;
      pending = c.recorded_changes.ensures.pending;
    } in
    w.accepts laws c.args.core.now c.args.events.now c.args.opening.now c.args.stores.now c.requires.whole c.args.event c.requires.possible (recording c.args.recording.now) c.requires.records

pub apply-requires-clause-possible : goal.apply-requires-clause-possible
apply-requires-clause-possible g c =
    subst (λ (s : State). verdict (step s c.args.event) ≡ Ok tt) (sym c.in_ok-reserve_for.ensures.same) c.requires.possible

pub returns-in-Ok-clause-whole : goal.returns-in-Ok-clause-whole
returns-in-Ok-clause-whole g c =
    let laws : w.Laws = record {
      inputs = c.given_inputs.ensures.kept;
      events = c.recorded_changes.ensures.events;
      written = c.recorded_changes.ensures.written;
      faults = c.recorded_changes.ensures.faults;
      pending = c.recorded_changes.ensures.pending;
    } in
    w.whole_made laws c.args.core.now c.args.events.now c.args.opening.now c.args.stores.now c.requires.whole c.args.event c.requires.possible (recording c.args.recording.now) c.requires.records c.apply.new.self c.push.new.self c.append.new.self c.in-Ok.ensures.others c.in-Ok.ensures.made (subst (λ (s : State). step s c.args.event ≡ Ok (means c.apply.new.self)) c.in_ok-reserve_for.ensures.same c.apply.ensures.step) c.push.ensures.items c.apply.ensures.spent

pub returns-in-Ok-clause-ok : goal.returns-in-Ok-clause-ok
returns-in-Ok-clause-ok g c =
    let laws : w.Laws = record {
      inputs = c.given_inputs.ensures.kept;
      events = c.recorded_changes.ensures.events;
      written = c.recorded_changes.ensures.written;
      faults = c.recorded_changes.ensures.faults;
      pending = c.recorded_changes.ensures.pending;
    } in
    w.advanced_made laws c.args.core.now c.args.events.now c.args.opening.now c.args.stores.now c.requires.whole c.args.event c.requires.possible (recording c.args.recording.now) c.requires.records c.apply.new.self c.push.new.self c.append.new.self c.in-Ok.ensures.others c.in-Ok.ensures.made (subst (λ (s : State). step s c.args.event ≡ Ok (means c.apply.new.self)) c.in_ok-reserve_for.ensures.same c.apply.ensures.step) c.push.ensures.items c.apply.ensures.spent

pub returns-in-Ok-clause-has_room : goal.returns-in-Ok-clause-has_room
returns-in-Ok-clause-has_room g c =
    let laws : w.Laws = record {
      inputs = c.given_inputs.ensures.kept;
      events = c.recorded_changes.ensures.events;
      written = c.recorded_changes.ensures.written;
      faults = c.recorded_changes.ensures.faults;
      pending = c.recorded_changes.ensures.pending;
    } in
    w.room_made laws c.args.core.now c.args.events.now c.args.opening.now c.args.stores.now c.requires.whole c.args.event c.requires.possible (recording c.args.recording.now) c.requires.records c.apply.new.self c.push.new.self c.append.new.self c.in-Ok.ensures.others c.in-Ok.ensures.made (subst (λ (s : State). step s c.args.event ≡ Ok (means c.apply.new.self)) c.in_ok-reserve_for.ensures.same c.apply.ensures.step) c.push.ensures.items c.apply.ensures.spent

pub returns-in-Ok-clause-disks : goal.returns-in-Ok-clause-disks
returns-in-Ok-clause-disks g c =
    let laws : w.Laws = record {
      inputs = c.given_inputs.ensures.kept;
      events = c.recorded_changes.ensures.events;
      written = c.recorded_changes.ensures.written;
      faults = c.recorded_changes.ensures.faults;
      pending = c.recorded_changes.ensures.pending;
    } in
    w.disks_made laws c.args.core.now c.args.events.now c.args.opening.now c.args.stores.now c.requires.whole c.args.event c.requires.possible (recording c.args.recording.now) c.requires.records c.apply.new.self c.push.new.self c.append.new.self c.in-Ok.ensures.others c.in-Ok.ensures.made (subst (λ (s : State). step s c.args.event ≡ Ok (means c.apply.new.self)) c.in_ok-reserve_for.ensures.same c.apply.ensures.step) c.push.ensures.items c.apply.ensures.spent g.met.D.Disk.lawful c.in-Ok.ensures.any_moment

-- ---- it is refused

pub returns-in-Err-Full-clause-whole : goal.returns-in-Err-Full-clause-whole
returns-in-Err-Full-clause-whole g c =
    let laws : w.Laws = record {
      inputs = c.given_inputs.ensures.kept;
      events = c.recorded_changes.ensures.events;
      written = c.recorded_changes.ensures.written;
      faults = c.recorded_changes.ensures.faults;
      pending = c.recorded_changes.ensures.pending;
    } in
    let is = c.in-Err-Full.field-0-is in
    let refused = c.in-Err-Full.ensures.refused (λ e. absurd (cc (is, e))) in
    w.whole_refused laws c.args.core.now c.args.events.now c.args.opening.now c.args.stores.now c.requires.whole c.args.event c.requires.possible (recording c.args.recording.now) c.requires.records c.reserve_for.new.self c.args.events.now c.append.new.self c.in-Err-Full.ensures.others refused c.in_ok-reserve_for.ensures.same refl c.in_ok-reserve_for.ensures.unreserved

pub returns-in-Err-Full-clause-cause : goal.returns-in-Err-Full-clause-cause
returns-in-Err-Full-clause-cause g c =
    let laws : w.Laws = record {
      inputs = c.given_inputs.ensures.kept;
      events = c.recorded_changes.ensures.events;
      written = c.recorded_changes.ensures.written;
      faults = c.recorded_changes.ensures.faults;
      pending = c.recorded_changes.ensures.pending;
    } in
    let is = c.in-Err-Full.field-0-is in
    let refused = c.in-Err-Full.ensures.refused (λ e. absurd (cc (is, e))) in (
      w.too_long laws c.args.core.now c.args.events.now c.args.opening.now c.args.stores.now c.requires.whole c.args.event c.requires.possible (recording c.args.recording.now) c.requires.records c.reserve_for.new.self c.args.events.now c.append.new.self c.in-Err-Full.ensures.others refused c.in_ok-reserve_for.ensures.same refl c.in_ok-reserve_for.ensures.unreserved c.in-Err-Full.field-0-0 (c.in-Err-Full.ensures.full c.in-Err-Full.field-0-0 (cc is)),
      w.same_refused laws c.args.core.now c.args.events.now c.args.opening.now c.args.stores.now c.requires.whole c.args.event c.requires.possible (recording c.args.recording.now) c.requires.records c.reserve_for.new.self c.args.events.now c.append.new.self c.in-Err-Full.ensures.others refused c.in_ok-reserve_for.ensures.same refl c.in_ok-reserve_for.ensures.unreserved,
    )

pub returns-in-Err-Full-clause-disks : goal.returns-in-Err-Full-clause-disks
returns-in-Err-Full-clause-disks g c =
    let laws : w.Laws = record {
      inputs = c.given_inputs.ensures.kept;
      events = c.recorded_changes.ensures.events;
      written = c.recorded_changes.ensures.written;
      faults = c.recorded_changes.ensures.faults;
      pending = c.recorded_changes.ensures.pending;
    } in
    let is = c.in-Err-Full.field-0-is in
    let refused = c.in-Err-Full.ensures.refused (λ e. absurd (cc (is, e))) in
    w.disks_refused laws c.args.core.now c.args.events.now c.args.opening.now c.args.stores.now c.requires.whole c.args.event c.requires.possible (recording c.args.recording.now) c.requires.records c.reserve_for.new.self c.args.events.now c.append.new.self c.in-Err-Full.ensures.others refused c.in_ok-reserve_for.ensures.same refl c.in_ok-reserve_for.ensures.unreserved g.met.D.Disk.lawful

pub returns-in-Err-NoMemory-clause-whole : goal.returns-in-Err-NoMemory-clause-whole
returns-in-Err-NoMemory-clause-whole g c =
    let laws : w.Laws = record {
      inputs = c.given_inputs.ensures.kept;
      events = c.recorded_changes.ensures.events;
      written = c.recorded_changes.ensures.written;
      faults = c.recorded_changes.ensures.faults;
      pending = c.recorded_changes.ensures.pending;
    } in
    let is = c.in-Err-NoMemory.field-0-is in
    let refused = c.in-Err-NoMemory.ensures.refused (λ e. absurd (cc (is, e))) in
    w.whole_refused laws c.args.core.now c.args.events.now c.args.opening.now c.args.stores.now c.requires.whole c.args.event c.requires.possible (recording c.args.recording.now) c.requires.records c.reserve_for.new.self c.args.events.now c.append.new.self c.in-Err-NoMemory.ensures.others refused c.in_ok-reserve_for.ensures.same refl c.in_ok-reserve_for.ensures.unreserved

pub returns-in-Err-NoMemory-clause-disks : goal.returns-in-Err-NoMemory-clause-disks
returns-in-Err-NoMemory-clause-disks g c =
    let laws : w.Laws = record {
      inputs = c.given_inputs.ensures.kept;
      events = c.recorded_changes.ensures.events;
      written = c.recorded_changes.ensures.written;
      faults = c.recorded_changes.ensures.faults;
      pending = c.recorded_changes.ensures.pending;
    } in
    let is = c.in-Err-NoMemory.field-0-is in
    let refused = c.in-Err-NoMemory.ensures.refused (λ e. absurd (cc (is, e))) in
    w.disks_refused laws c.args.core.now c.args.events.now c.args.opening.now c.args.stores.now c.requires.whole c.args.event c.requires.possible (recording c.args.recording.now) c.requires.records c.reserve_for.new.self c.args.events.now c.append.new.self c.in-Err-NoMemory.ensures.others refused c.in_ok-reserve_for.ensures.same refl c.in_ok-reserve_for.ensures.unreserved g.met.D.Disk.lawful

-- ---- the disk fails

pub unreachable-requires : goal.unreachable-requires
unreachable-requires g c =
    let laws : w.Laws = record {
      inputs = c.given_inputs.ensures.kept;
      events = c.recorded_changes.ensures.events;
      written = c.recorded_changes.ensures.written;
      faults = c.recorded_changes.ensures.faults;
      pending = c.recorded_changes.ensures.pending;
    } in
    w.not_recorded laws c.args.core.now c.args.events.now c.args.opening.now c.args.stores.now c.requires.whole c.args.event c.requires.possible (recording c.args.recording.now) c.requires.records c.in-None.ensures

pub fault_number-number-requires-clause-has : goal.fault_number-number-requires-clause-has
fault_number-number-requires-clause-has g c =
    let laws : w.Laws = record {
      inputs = c.given_inputs.ensures.kept;
      events = c.recorded_changes.ensures.events;
      written = c.recorded_changes.ensures.written;
      faults = c.recorded_changes.ensures.faults;
      pending = c.recorded_changes.ensures.pending;
    } in
    w.has_still laws c.args.core.now c.args.events.now c.args.opening.now c.args.stores.now c.requires.whole c.args.event c.requires.possible (recording c.args.recording.now) c.requires.records c.append.new.self c.in-Err-DiskFault.ensures.others

pub fault_number-number-requires-clause-rose : goal.fault_number-number-requires-clause-rose
fault_number-number-requires-clause-rose g c =
    let laws : w.Laws = record {
      inputs = c.given_inputs.ensures.kept;
      events = c.recorded_changes.ensures.events;
      written = c.recorded_changes.ensures.written;
      faults = c.recorded_changes.ensures.faults;
      pending = c.recorded_changes.ensures.pending;
    } in
    w.rose laws c.args.core.now c.args.events.now c.args.opening.now c.args.stores.now c.requires.whole c.args.event c.requires.possible (recording c.args.recording.now) c.requires.records c.append.new.self c.in-Err-DiskFault.ensures.others

pub apply-requires-in-Some-clause-possible : goal.apply-requires-in-Some-clause-possible
apply-requires-in-Some-clause-possible g c =
    let laws : w.Laws = record {
      inputs = c.given_inputs.ensures.kept;
      events = c.recorded_changes.ensures.events;
      written = c.recorded_changes.ensures.written;
      faults = c.recorded_changes.ensures.faults;
      pending = c.recorded_changes.ensures.pending;
    } in
    let same = c.in_ok-reserve_for.ensures.same in
    let next = subst (λ (s : State). is_next_fault (s.last_fault c.args.recording.now.set) c.fault_number-number.result ≡ true) same c.fault_number-number.ensures.next in
    subst (λ (s : State). verdict (step s (Fault c.args.recording.now.set c.fault_number-number.result c.in-Some.recorded)) ≡ Ok tt) (sym same)
    (w.may_fail laws c.args.core.now c.args.events.now c.args.opening.now c.args.stores.now c.requires.whole c.args.event c.requires.possible (recording c.args.recording.now) c.requires.records c.in-Some.recorded c.in-Some.ensures c.fault_number-number.result next)

pub returns-in-Some-clause-whole : goal.returns-in-Some-clause-whole
returns-in-Some-clause-whole g c =
    let laws : w.Laws = record {
      inputs = c.given_inputs.ensures.kept;
      events = c.recorded_changes.ensures.events;
      written = c.recorded_changes.ensures.written;
      faults = c.recorded_changes.ensures.faults;
      pending = c.recorded_changes.ensures.pending;
    } in
    let is = c.in-Err-DiskFault.field-0-is in
    let pending = c.in-Err-DiskFault.ensures.pending (cc is) in
    w.whole_failed laws c.args.core.now c.args.events.now c.args.opening.now c.args.stores.now c.requires.whole c.args.event c.requires.possible (recording c.args.recording.now) c.requires.records c.in-Some.recorded c.in-Some.ensures c.apply-in-Some.new.self c.push-in-Some.new.self c.append.new.self c.in-Err-DiskFault.ensures.others pending c.fault_number-number.result (subst (λ (s : State). step s (Fault c.args.recording.now.set c.fault_number-number.result c.in-Some.recorded) ≡ Ok (means c.apply-in-Some.new.self)) c.in_ok-reserve_for.ensures.same c.apply-in-Some.ensures.step) c.push-in-Some.ensures.items c.apply-in-Some.ensures.spent

pub returns-in-Some-clause-cause : goal.returns-in-Some-clause-cause
returns-in-Some-clause-cause g c =
    let laws : w.Laws = record {
      inputs = c.given_inputs.ensures.kept;
      events = c.recorded_changes.ensures.events;
      written = c.recorded_changes.ensures.written;
      faults = c.recorded_changes.ensures.faults;
      pending = c.recorded_changes.ensures.pending;
    } in
    let is = c.in-Err-DiskFault.field-0-is in
    let pending = c.in-Err-DiskFault.ensures.pending (cc is) in
    let same = c.in_ok-reserve_for.ensures.same in
    let number = subst (λ (s : State). c.fault_number-number.result ≡ fault_number (faults_at c.append.new.self c.args.recording.now.set) ((begun c.args.opening.now).faults c.args.recording.now.set) (s.last_fault c.args.recording.now.set)) same c.fault_number-number.ensures.value in
    w.gone_down laws c.args.core.now c.args.events.now c.args.opening.now c.args.stores.now c.requires.whole c.args.event c.requires.possible (recording c.args.recording.now) c.requires.records c.in-Some.recorded c.in-Some.ensures c.apply-in-Some.new.self c.push-in-Some.new.self c.append.new.self c.in-Err-DiskFault.ensures.others pending c.fault_number-number.result (subst (λ (s : State). step s (Fault c.args.recording.now.set c.fault_number-number.result c.in-Some.recorded) ≡ Ok (means c.apply-in-Some.new.self)) c.in_ok-reserve_for.ensures.same c.apply-in-Some.ensures.step) c.push-in-Some.ensures.items c.apply-in-Some.ensures.spent number

pub returns-in-Some-clause-disks : goal.returns-in-Some-clause-disks
returns-in-Some-clause-disks g c =
    let laws : w.Laws = record {
      inputs = c.given_inputs.ensures.kept;
      events = c.recorded_changes.ensures.events;
      written = c.recorded_changes.ensures.written;
      faults = c.recorded_changes.ensures.faults;
      pending = c.recorded_changes.ensures.pending;
    } in
    let is = c.in-Err-DiskFault.field-0-is in
    let pending = c.in-Err-DiskFault.ensures.pending (cc is) in
    w.disks_failed laws c.args.core.now c.args.events.now c.args.opening.now c.args.stores.now c.requires.whole c.args.event c.requires.possible (recording c.args.recording.now) c.requires.records c.in-Some.recorded c.in-Some.ensures c.apply-in-Some.new.self c.push-in-Some.new.self c.append.new.self c.in-Err-DiskFault.ensures.others pending c.fault_number-number.result (subst (λ (s : State). step s (Fault c.args.recording.now.set c.fault_number-number.result c.in-Some.recorded) ≡ Ok (means c.apply-in-Some.new.self)) c.in_ok-reserve_for.ensures.same c.apply-in-Some.ensures.step) c.push-in-Some.ensures.items c.apply-in-Some.ensures.spent g.met.D.Disk.lawful c.in-Err-DiskFault.ensures.any_moment

-- ---- the length of a journal that is full

pub returns-in_err-reserve_for-clause-length : goal.returns-in_err-reserve_for-clause-length
returns-in_err-reserve_for-clause-length g c y is =
    let p = err_from_is_err_and c.from_residual.result c.from_residual.ensures.1 in
    absurd (cc (p.1, p.2, is))

pub returns-in-Err-Full-clause-length : goal.returns-in-Err-Full-clause-length
returns-in-Err-Full-clause-length g c y answer =
    let laws : w.Laws = record {
      inputs = c.given_inputs.ensures.kept;
      events = c.recorded_changes.ensures.events;
      written = c.recorded_changes.ensures.written;
      faults = c.recorded_changes.ensures.faults;
      pending = c.recorded_changes.ensures.pending;
    } in
    let x = c.args.recording.now.set in
    let is = c.in-Err-Full.field-0-is in
    let refused = c.in-Err-Full.ensures.refused (λ e. absurd (cc (is, e))) in
    let may = w.may laws c.args.core.now c.args.events.now c.args.opening.now c.args.stores.now c.requires.whole c.args.event c.requires.possible (recording c.args.recording.now) c.requires.records in
    let there : has_set (means c.reserve_for.new.self) x ≡ true = ap (λ s. has_set s x) c.in_ok-reserve_for.ensures.same ∙ may.set in
    let same : x ≡ y = cc answer in
    subst (λ (z : ℕ). IsLengthAt g.D.Disk.told (shown c.reserve_for.new.self c.args.events.now c.args.opening.now c.append.new.self) z) same
    (length_shown c.reserve_for.new.self c.args.events.now c.args.opening.now c.append.new.self (returns-in-Err-Full-clause-whole g c) x there refused.ready)
