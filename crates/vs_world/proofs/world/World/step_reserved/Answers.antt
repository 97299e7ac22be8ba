use Rattle.std.proofs.Common.{◌≡◌, Ok, Err, refl, sym, ap, subst, ◌∙◌}
use Rattle.std.proofs.lemmas.Result.{err_from_is_err_and}
use Rattle.vs_core.specs.Core.{means}
use Rattle.vs_core.specs.Safety.{IsSafeEvent, IsSafeRun}
use Rattle.vs_machine.specs.Step.{step}
use Rattle.vs_state.specs.Guard.{verdict}
use Rattle.vs_world.specs.Began.{start_of}
use Rattle.vs_world.specs.Played.{IsAdvanced, began, state_of}
use Rattle.vs_world.specs.Counted.{KeepsCount}
use Rattle.vs_world.specs.Whole.{played_in, shown}
use Rattle.vs_world.proofs.Counting.{counted_on}
use Rattle.vs_world.specs.World.{World, IsKept}
use Rattle.vs_world.proofs.Carrying.{whole_carried}
use Rattle.vs_world.proofs.Kept.{kept, same_disks}
use Rattle.vs_world.proofs.Reserving.{kind_no_fault, kind_raises, kind_written, not_refused, refused_as, safe_run}
use Rattle.vs_world.proofs.Writing.{Laws}
use Rattle.vs_world.proofs.world.World.step_reserved.Goals as goal

-- ---- it can't happen

pub returns-in_err-can-clause-refused : goal.returns-in_err-can-clause-refused
returns-in_err-can-clause-refused g c =
    let p = err_from_is_err_and c.from_residual.result c.from_residual.ensures.1 in
    let is = subst (λ (w : World g.row.D.Denot). verdict (step (state_of w.played) c.args.event) ≡ Err c.in_err-can.field-0.0) c.self.view_is (sym c.in_err-can.ensures) in
    refused_as (step (state_of c.args.self.now.played) c.args.event) c.from_residual.result c.in_err-can.field-0.0 is (p.1 ∙ ap Err p.2)

pub returns-in_err-can-clause-kept : goal.returns-in_err-can-clause-kept
returns-in_err-can-clause-kept g c =
    let w = c.self.inside in
    subst (λ (v : World g.row.D.Denot). IsKept g.D.Disk.told v) c.self.view_is (kept w.core w.events w.opening w.stores c.self.invariant)

pub returns-in_err-can-clause-run : goal.returns-in_err-can-clause-run
returns-in_err-can-clause-run g c =
    let w = c.self.inside in
    subst (λ (v : World g.row.D.Denot). IsSafeRun (start_of (began v.played)) v.played.events) c.self.view_is (safe_run c.safe_runs.ensures.runs (played_in w.core w.events w.opening) c.self.invariant.run)

-- ---- it happens

pub invariant_of-self : goal.invariant_of-self
invariant_of-self g c =
    let w = c.self.inside in
    let laws : Laws = record { inputs = c.given_inputs.ensures.kept; events = c.recorded_changes.ensures.events; written = c.recorded_changes.ensures.written; faults = c.recorded_changes.ensures.faults; pending = c.recorded_changes.ensures.pending } in
    whole_carried laws w.core c.apply.new.self w.events c.push.new.self w.opening w.stores c.self.invariant c.args.event
    (kind_raises (means w.core) c.args.event c.requires.kind) (kind_written (means w.core) c.args.event c.requires.kind) c.apply.ensures.step c.push.ensures.items c.apply.ensures.spent

pub returns-clause-ok : goal.returns-clause-ok
returns-clause-ok g c =
    subst (λ (v : World g.row.D.Denot). IsAdvanced v.played (played_in c.apply.new.self c.push.new.self c.self.inside.opening) c.args.event) c.self.view_is
    (record { step = c.apply.ensures.step; events = c.push.ensures.items; opening = refl })

pub returns-clause-refused : goal.returns-clause-refused
returns-clause-refused g c =
    let is = subst (λ (v : World g.row.D.Denot). step (state_of v.played) c.args.event ≡ Ok (means c.apply.new.self)) c.self.view_is c.apply.ensures.step in
    not_refused (step (state_of c.args.self.now.played) c.args.event) (means c.apply.new.self) tt is

pub returns-clause-kept : goal.returns-clause-kept
returns-clause-kept g c =
    let w = c.self.inside in
    let laws : Laws = record { inputs = c.given_inputs.ensures.kept; events = c.recorded_changes.ensures.events; written = c.recorded_changes.ensures.written; faults = c.recorded_changes.ensures.faults; pending = c.recorded_changes.ensures.pending } in
    kept c.apply.new.self c.push.new.self w.opening w.stores
    (whole_carried laws w.core c.apply.new.self w.events c.push.new.self w.opening w.stores c.self.invariant c.args.event
    (kind_raises (means w.core) c.args.event c.requires.kind) (kind_written (means w.core) c.args.event c.requires.kind) c.apply.ensures.step c.push.ensures.items c.apply.ensures.spent)

pub returns-clause-event : goal.returns-clause-event
returns-clause-event g c = subst (λ (v : World g.row.D.Denot). IsSafeEvent (state_of v.played) c.args.event (means c.apply.new.self)) c.self.view_is c.apply.ensures.event

pub returns-clause-run : goal.returns-clause-run
returns-clause-run g c =
    let w = c.self.inside in
    let laws : Laws = record { inputs = c.given_inputs.ensures.kept; events = c.recorded_changes.ensures.events; written = c.recorded_changes.ensures.written; faults = c.recorded_changes.ensures.faults; pending = c.recorded_changes.ensures.pending } in
    let whole = whole_carried laws w.core c.apply.new.self w.events c.push.new.self w.opening w.stores c.self.invariant c.args.event
    (kind_raises (means w.core) c.args.event c.requires.kind) (kind_written (means w.core) c.args.event c.requires.kind) c.apply.ensures.step c.push.ensures.items c.apply.ensures.spent in
    safe_run c.safe_runs.ensures.runs (played_in c.apply.new.self c.push.new.self w.opening) whole.run

-- ---- the number of a fault

pub returns-in_err-can-clause-counted : goal.returns-in_err-can-clause-counted
returns-in_err-can-clause-counted g c x known counted = counted

pub returns-clause-counted : goal.returns-clause-counted
returns-clause-counted g c =
    let w = c.self.inside in
    let old = shown w.core w.events w.opening w.stores in
    let new = shown c.apply.new.self c.push.new.self w.opening w.stores in
    let keeps = (same_disks g.D.Disk.told g.met.D.Disk.lawful old new (kept w.core w.events w.opening w.stores c.self.invariant) refl c.args.event).keeps in
    subst (λ (v : World g.row.D.Denot). KeepsCount g.D.Disk.told v new) c.self.view_is
    (counted_on g.D.Disk.told old new refl keeps c.steered_posts.ensures.numbers c.args.event (kind_no_fault c.args.event c.requires.kind)
    (record { step = c.apply.ensures.step; events = c.push.ensures.items; opening = refl }))
