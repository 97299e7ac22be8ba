use Rattle.std.proofs.Common.{◌≡◌, Err, subst}
use Rattle.std.specs.Prelude.{◌↔◌, IfErr, OnOk}
use Rattle.vs_core.specs.Safety.{IsSafeEvent}
use Rattle.vs_machine.specs.Step.{step}
use Rattle.vs_world.specs.Played.{IsAdvanced, state_of}
use Rattle.vs_world.specs.Steps.{HasRoom, IsStepCause}
use Rattle.vs_world.specs.declared.fault.StepFault.TheVariants.{NotNow}
use Rattle.vs_cluster.specs.Calls.{Leaves}
use Rattle.vs_cluster.specs.Cluster.{Cluster}
use Rattle.vs_cluster.proofs.Keeping.{kept_stepped}
use Rattle.vs_cluster.proofs.cluster.Cluster.step.Goals as goal

pub invariant_of-self : goal.invariant_of-self
invariant_of-self g c =
    kept_stepped g.D.Disk.told c.given_inputs.ensures.begun c.self.inside.world c.step.new.self c.core-core.ensures.kept c.step.ensures.kept (c.step.ensures.counted c.requires.1) c.steered_posts.ensures.others
    c.args.event c.self.inside.hints.flags c.step.result c.requires.0 c.step.ensures.ok c.step.ensures.cause c.self.invariant

pub returns-clause-ok : goal.returns-clause-ok
returns-clause-ok g c = subst (λ (k : Cluster g.row.D.Denot). OnOk c.step.result (IsAdvanced k.world.played c.step.new.self.played c.args.event)) c.self.view_is c.step.ensures.ok

pub returns-clause-room : goal.returns-clause-room
returns-clause-room g c = subst (λ (k : Cluster g.row.D.Denot). OnOk c.step.result (HasRoom k.world c.args.event)) c.self.view_is c.step.ensures.room

pub returns-clause-refused : goal.returns-clause-refused
returns-clause-refused g c reason =
    subst (λ (k : Cluster g.row.D.Denot). (c.step.result ≡ Err (NotNow reason)) ↔ (step (state_of k.world.played) c.args.event ≡ Err reason)) c.self.view_is (c.step.ensures.refused reason)

pub returns-clause-cause : goal.returns-clause-cause
returns-clause-cause g c = subst (λ (k : Cluster g.row.D.Denot). IfErr c.step.result (IsStepCause g.D.Disk.told k.world c.step.new.self c.args.event)) c.self.view_is c.step.ensures.cause

pub returns-clause-length : goal.returns-clause-length
returns-clause-length g c = c.step.ensures.length

pub returns-clause-event : goal.returns-clause-event
returns-clause-event g c = subst (λ (k : Cluster g.row.D.Denot). OnOk c.step.result (IsSafeEvent (state_of k.world.played) c.args.event (state_of c.step.new.self.played))) c.self.view_is c.step.ensures.event

pub returns-clause-leaves : goal.returns-clause-leaves
returns-clause-leaves g c =
    let kept = kept_stepped g.D.Disk.told c.given_inputs.ensures.begun c.self.inside.world c.step.new.self c.core-core.ensures.kept c.step.ensures.kept (c.step.ensures.counted c.requires.1) c.steered_posts.ensures.others
    c.args.event c.self.inside.hints.flags c.step.result c.requires.0 c.step.ensures.ok c.step.ensures.cause c.self.invariant in
    subst (λ (k : Cluster g.row.D.Denot). Leaves g.D.Disk.told k (record { world = c.step.new.self; hints = c.self.inside.hints.flags }) c.args.event) c.self.view_is
    (record { world = c.step.ensures.kept; cluster = kept; disks = c.step.ensures.disks; safe = c.step.ensures.safe; run = c.step.ensures.run })
