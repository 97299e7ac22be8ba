use Rattle.std.proofs.Common.{◌≡◌, false, Err, subst}
use Rattle.std.specs.Prelude.{◌↔◌, IfErr, IfOk}
use Rattle.vs_event.specs.declared.event.Event.TheVariants.{Restart}
use Rattle.vs_machine.specs.Step.{step}
use Rattle.vs_world.specs.Played.{IsAdvanced, state_of}
use Rattle.vs_world.specs.Restarts.{IsRestartCause}
use Rattle.vs_world.specs.declared.fault.StepFault.TheVariants.{NotNow}
use Rattle.vs_cluster.specs.Calls.{Leaves}
use Rattle.vs_cluster.specs.Cluster.{Cluster}
use Rattle.vs_cluster.proofs.Keeping.{kept_restarted}
use Rattle.vs_cluster.proofs.cluster.Cluster.restart.Goals as goal

pub invariant_of-self : goal.invariant_of-self
invariant_of-self g c =
    kept_restarted g.D.Disk.told c.given_inputs.ensures.begun c.self.inside.world c.restart.new.self c.core-core.ensures.kept c.restart.ensures.kept c.restart.ensures.counted c.steered_posts.ensures.others
    c.args.set c.args.by c.self.inside.hints.flags c.restart.result c.restart.ensures.ok c.restart.ensures.cause c.self.invariant

pub returns-clause-ok : goal.returns-clause-ok
returns-clause-ok g c = subst (λ (k : Cluster g.row.D.Denot). IfOk c.restart.result (λ kept. IsAdvanced k.world.played c.restart.new.self.played (Restart c.args.set kept c.args.by))) c.self.view_is c.restart.ensures.ok

pub returns-clause-refused : goal.returns-clause-refused
returns-clause-refused g c reason =
    subst (λ (k : Cluster g.row.D.Denot). (c.restart.result ≡ Err (NotNow reason)) ↔ (step (state_of k.world.played) (Restart c.args.set false c.args.by) ≡ Err reason)) c.self.view_is (c.restart.ensures.refused reason)

pub returns-clause-cause : goal.returns-clause-cause
returns-clause-cause g c = subst (λ (k : Cluster g.row.D.Denot). IfErr c.restart.result (IsRestartCause g.D.Disk.told k.world c.restart.new.self c.args.set c.args.by)) c.self.view_is c.restart.ensures.cause

pub returns-clause-leaves : goal.returns-clause-leaves
returns-clause-leaves g c =
    let kept = kept_restarted g.D.Disk.told c.given_inputs.ensures.begun c.self.inside.world c.restart.new.self c.core-core.ensures.kept c.restart.ensures.kept c.restart.ensures.counted c.steered_posts.ensures.others
    c.args.set c.args.by c.self.inside.hints.flags c.restart.result c.restart.ensures.ok c.restart.ensures.cause c.self.invariant in
    subst (λ (k : Cluster g.row.D.Denot). Leaves g.D.Disk.told k (record { world = c.restart.new.self; hints = c.self.inside.hints.flags }) (Restart c.args.set false c.args.by)) c.self.view_is
    (record { world = c.restart.ensures.kept; cluster = kept; disks = c.restart.ensures.disks; safe = c.restart.ensures.safe; run = c.restart.ensures.run })
