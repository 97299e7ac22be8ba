use Rattle.std.proofs.Common.{sym, ◌∙◌}
use Rattle.vs_run.proofs.DrivenWorld.{ends_run, driven_from}
use Rattle.vs_run.proofs.driving.driven.Goals as goal

pub with_length-fault-requires : goal.with_length-fault-requires
with_length-fault-requires g c =
    ends_run c.new-cluster.result.world c.in-Err-drive.cluster.world c.into_world-world-in-Err-drive.result c.in-Err-drive.fault
    c.into_world-world-in-Err-drive.ensures.world c.in-Err-drive.ensures.cause

pub returns-in-Ok-drive-clause-driven : goal.returns-in-Ok-drive-clause-driven
returns-in-Ok-drive-clause-driven g c =
    driven_from g.D.Disk.told c.args.world c.in-Ok-drive.cluster c.into_world-world.result c.into_world-world.ensures.world c.into_world-world.ensures.kept
    c.new-cluster.result.world c.new-cluster.ensures.world c.in-Ok-drive.ensures.finished c.in-Ok-drive.ensures.began

pub returns-in-Err-drive-clause-length : goal.returns-in-Err-drive-clause-length
returns-in-Err-drive-clause-length g c = λ x is. c.with_length-fault.ensures.length x (sym c.with_length-fault.ensures.same ∙ is)
