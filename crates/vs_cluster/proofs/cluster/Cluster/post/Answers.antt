use Rattle.std.proofs.Common.{◌≡◌, Bool, true, Result, Ok, Err, sym, subst}
use Rattle.std.specs.Prelude.{◌↔◌}
use Rattle.vs_core.specs.Safety.{IsSafeEvent}
use Rattle.vs_event.specs.declared.event.Event.TheVariants.{Post}
use Rattle.vs_machine.specs.Driven.{GoesByHint}
use Rattle.vs_machine.specs.State.{State}
use Rattle.vs_machine.specs.Step.{step}
use Rattle.vs_world.specs.Played.{IsAdvanced, state_of}
use Rattle.vs_world.specs.declared.fault.StepFault.{StepFault}
use Rattle.vs_world.specs.declared.fault.StepFault.TheVariants.{NotNow}
use Rattle.vs_cluster.specs.Calls.{IsPostAllowed, Leaves}
use Rattle.vs_cluster.specs.Cluster.{Cluster}
use Rattle.vs_cluster.specs.Steering.{is_hinted}
use Rattle.vs_cluster.proofs.Keeping.{kept_posted, kept_refused}
use Rattle.vs_cluster.proofs.cluster.Cluster.post.Goals as goal

-- ---- it was posted

pub invariant_of-self : goal.invariant_of-self
invariant_of-self g c =
    let hints = c.self.inside.hints.flags in
    let allowed = subst (λ (k : Cluster g.row.D.Denot). IsPostAllowed k c.args.client c.args.set) (sym c.self.view_is) c.requires in
    let goes = subst (λ (b : Bool). (b ≡ true) ↔ GoesByHint (state_of c.self.inside.world.played) c.args.client c.args.set) (sym c.is_hinted-by_hint.ensures)
    (subst (λ (s : State). (is_hinted c.steering_of.result ≡ true) ↔ GoesByHint s c.args.client c.args.set) c.core.ensures.state c.steering_of.ensures.hinted) in
    let kept = kept_posted g.D.Disk.told c.given_inputs.ensures.begun c.self.inside.world c.step.new.self c.core.ensures.kept c.step.ensures.kept (c.step.ensures.counted tt) c.steered_posts.ensures.posts
    hints c.put.new.self.flags c.args.client c.args.set c.is_hinted-by_hint.result allowed goes c.in-Ok.ensures.ok c.put.ensures.flags c.put.ensures.count c.self.invariant in
    kept

pub returns-in-Ok-clause-ok : goal.returns-in-Ok-clause-ok
returns-in-Ok-clause-ok g c = subst (λ (k : Cluster g.row.D.Denot). IsAdvanced k.world.played c.step.new.self.played (Post c.args.client c.args.set)) c.self.view_is c.in-Ok.ensures.ok

pub returns-in-Ok-clause-refused : goal.returns-in-Ok-clause-refused
returns-in-Ok-clause-refused g c reason =
    subst (λ (k : Cluster g.row.D.Denot). ◌≡◌ {A = Result (Unit {0}) StepFault} (Ok tt) (Err (NotNow reason)) ↔ (step (state_of k.world.played) (Post c.args.client c.args.set) ≡ Err reason)) c.self.view_is (c.in-Ok.ensures.refused reason)

pub returns-in-Ok-clause-event : goal.returns-in-Ok-clause-event
returns-in-Ok-clause-event g c = subst (λ (k : Cluster g.row.D.Denot). IsSafeEvent (state_of k.world.played) (Post c.args.client c.args.set) (state_of c.step.new.self.played)) c.self.view_is c.in-Ok.ensures.event

pub returns-in-Ok-clause-leaves : goal.returns-in-Ok-clause-leaves
returns-in-Ok-clause-leaves g c =
    let hints = c.self.inside.hints.flags in
    let allowed = subst (λ (k : Cluster g.row.D.Denot). IsPostAllowed k c.args.client c.args.set) (sym c.self.view_is) c.requires in
    let goes = subst (λ (b : Bool). (b ≡ true) ↔ GoesByHint (state_of c.self.inside.world.played) c.args.client c.args.set) (sym c.is_hinted-by_hint.ensures)
    (subst (λ (s : State). (is_hinted c.steering_of.result ≡ true) ↔ GoesByHint s c.args.client c.args.set) c.core.ensures.state c.steering_of.ensures.hinted) in
    let kept = kept_posted g.D.Disk.told c.given_inputs.ensures.begun c.self.inside.world c.step.new.self c.core.ensures.kept c.step.ensures.kept (c.step.ensures.counted tt) c.steered_posts.ensures.posts
    hints c.put.new.self.flags c.args.client c.args.set c.is_hinted-by_hint.result allowed goes c.in-Ok.ensures.ok c.put.ensures.flags c.put.ensures.count c.self.invariant in
    subst (λ (k : Cluster g.row.D.Denot). Leaves g.D.Disk.told k (record { world = c.step.new.self; hints = c.put.new.self.flags }) (Post c.args.client c.args.set)) c.self.view_is
    (record { world = c.step.ensures.kept; cluster = kept; disks = c.step.ensures.disks; safe = c.step.ensures.safe; run = c.step.ensures.run })

-- ---- it was not

pub invariant_of-self-in-Err : goal.invariant_of-self-in-Err
invariant_of-self-in-Err g c =
    let hints = c.self.inside.hints.flags in
    let kept = kept_refused g.D.Disk.told c.given_inputs.ensures.begun c.self.inside.world c.step.new.self c.core.ensures.kept c.step.ensures.kept (c.step.ensures.counted tt) c.steered_posts.ensures.others
    (Post c.args.client c.args.set) hints c.in-Err.fault c.in-Err.ensures.cause c.self.invariant in
    kept

pub returns-in-Err-clause-refused : goal.returns-in-Err-clause-refused
returns-in-Err-clause-refused g c reason =
    subst (λ (k : Cluster g.row.D.Denot). ◌≡◌ {A = Result (Unit {0}) StepFault} (Err c.in-Err.fault) (Err (NotNow reason)) ↔ (step (state_of k.world.played) (Post c.args.client c.args.set) ≡ Err reason)) c.self.view_is (c.in-Err.ensures.refused reason)

pub returns-in-Err-clause-leaves : goal.returns-in-Err-clause-leaves
returns-in-Err-clause-leaves g c =
    let hints = c.self.inside.hints.flags in
    let kept = kept_refused g.D.Disk.told c.given_inputs.ensures.begun c.self.inside.world c.step.new.self c.core.ensures.kept c.step.ensures.kept (c.step.ensures.counted tt) c.steered_posts.ensures.others
    (Post c.args.client c.args.set) hints c.in-Err.fault c.in-Err.ensures.cause c.self.invariant in
    subst (λ (k : Cluster g.row.D.Denot). Leaves g.D.Disk.told k (record { world = c.step.new.self; hints = c.self.inside.hints.flags }) (Post c.args.client c.args.set)) c.self.view_is
    (record { world = c.step.ensures.kept; cluster = kept; disks = c.step.ensures.disks; safe = c.step.ensures.safe; run = c.step.ensures.run })
