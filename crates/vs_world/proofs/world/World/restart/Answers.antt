use Rattle.std.proofs.Common.{◌≡◌, Bool, false, Ok, Err, refl, sym, subst, ◌∙◌}
use Rattle.vs_core.specs.Safety.{IsSafe, IsSafeRun}
use Rattle.vs_event.specs.declared.event.Event.TheVariants.{Restart}
use Rattle.vs_machine.specs.Step.{step}
use Rattle.vs_state.specs.Guard.{verdict}
use Rattle.vs_world.specs.Began.{start_of}
use Rattle.vs_world.specs.Counted.{KeepsCount}
use Rattle.vs_world.specs.Played.{began, state_of}
use Rattle.vs_world.specs.Whole.{played_in, shown}
use Rattle.vs_world.specs.World.{World, IsKept}
use Rattle.vs_world.proofs.Counting.{restart_counted}
use Rattle.vs_world.proofs.Kept.{kept, same_disks}
use Rattle.vs_world.proofs.Reserving.{safe_run}
use Rattle.vs_world.proofs.Safe.{safe_state, refused_now, not_refused_now}
use Rattle.vs_world.proofs.world.World.restart.Goals as goal

-- ---- it can't happen

pub returns-in-Err-clause-refused : goal.returns-in-Err-clause-refused
returns-in-Err-clause-refused g c =
    let is = subst (λ (v : World g.row.D.Denot). verdict (step (state_of v.played) (Restart c.args.set false c.args.by)) ≡ Err c.in-Err.reason) c.self.view_is (sym c.in-Err.ensures) in
    refused_now Bool (step (state_of c.args.self.now.played) (Restart c.args.set false c.args.by)) c.in-Err.reason is

pub returns-in-Err-clause-disks : goal.returns-in-Err-clause-disks
returns-in-Err-clause-disks g c =
    let w = c.self.inside in
    same_disks g.D.Disk.told g.met.D.Disk.lawful c.args.self.now c.args.self.now (subst (λ (v : World g.row.D.Denot). IsKept g.D.Disk.told v) c.self.view_is (kept w.core w.events w.opening w.stores c.self.invariant)) refl (Restart c.args.set false c.args.by)

pub returns-in-Err-clause-kept : goal.returns-in-Err-clause-kept
returns-in-Err-clause-kept g c =
    let w = c.self.inside in
    subst (λ (v : World g.row.D.Denot). IsKept g.D.Disk.told v) c.self.view_is (kept w.core w.events w.opening w.stores c.self.invariant)

pub returns-in-Err-clause-safe : goal.returns-in-Err-clause-safe
returns-in-Err-clause-safe g c =
    let w = c.self.inside in
    subst (λ (v : World g.row.D.Denot). IsSafe (state_of v.played)) c.self.view_is (safe_state c.safe_runs.ensures.states (played_in w.core w.events w.opening) c.self.invariant.run)

pub returns-in-Err-clause-run : goal.returns-in-Err-clause-run
returns-in-Err-clause-run g c =
    let w = c.self.inside in
    subst (λ (v : World g.row.D.Denot). IsSafeRun (start_of (began v.played)) v.played.events) c.self.view_is (safe_run c.safe_runs.ensures.runs (played_in w.core w.events w.opening) c.self.invariant.run)

-- ---- it was tried

pub returns-clause-refused : goal.returns-clause-refused
returns-clause-refused g c =
    let is = subst (λ (v : World g.row.D.Denot). verdict (step (state_of v.played) (Restart c.args.set false c.args.by)) ≡ Ok tt) c.self.view_is (sym c.in_default.ensures) in
    not_refused_now (step (state_of c.args.self.now.played) (Restart c.args.set false c.args.by)) c.play_restart.result is c.play_restart.ensures.other

pub returns-clause-kept : goal.returns-clause-kept
returns-clause-kept g c = kept c.play_restart.new.core c.play_restart.new.events c.self.inside.opening c.play_restart.new.stores c.play_restart.ensures.whole

pub returns-clause-safe : goal.returns-clause-safe
returns-clause-safe g c = safe_state c.safe_runs.ensures.states (played_in c.play_restart.new.core c.play_restart.new.events c.self.inside.opening) c.play_restart.ensures.whole.run

pub returns-clause-run : goal.returns-clause-run
returns-clause-run g c = safe_run c.safe_runs.ensures.runs (played_in c.play_restart.new.core c.play_restart.new.events c.self.inside.opening) c.play_restart.ensures.whole.run

pub returns-clause-counted : goal.returns-clause-counted
returns-clause-counted g c =
    subst (λ (v : World g.row.D.Denot). KeepsCount g.D.Disk.told v (shown c.play_restart.new.core c.play_restart.new.events c.self.inside.opening c.play_restart.new.stores)) c.self.view_is
    (restart_counted g.D.Disk.told (shown c.self.inside.core c.self.inside.events c.self.inside.opening c.self.inside.stores) (shown c.play_restart.new.core c.play_restart.new.events c.self.inside.opening c.play_restart.new.stores) (c.self.invariant.disks ∙ sym c.play_restart.ensures.whole.disks) c.play_restart.ensures.disks.keeps
    c.steered_posts.ensures.numbers c.args.set c.args.by c.play_restart.result c.play_restart.ensures.ok c.play_restart.ensures.cause)
