use Rattle.vs_world.specs.Played.{state_of}
use Rattle.vs_drive.proofs.Turning.{bare_possible, missed, missed_restart, on_ok, step_happened}
use Rattle.vs_drive.proofs.turns.carry_out.Goals as goal

-- ---- a restart

pub returns-in-Err-clause-err : goal.returns-in-Err-clause-err
returns-in-Err-clause-err g c =
    let possible = bare_possible (state_of c.args.cluster.now.world.played) c.args.event c.in-Restart.set c.in-Restart.field-1 c.in-Restart.by c.in-Restart.is c.requires.bare c.requires.possible in
    missed_restart g.D.Disk.told c.args.cluster.now.world c.restart.new.self.world c.in-Restart.set c.in-Restart.by c.in-Err.fault c.restart.result c.in-Err.is possible c.restart.ensures.refused c.in-Err.ensures.cause

-- ---- another event

pub returns-in_default-clause-ok : goal.returns-in_default-clause-ok
returns-in_default-clause-ok g c =
    on_ok c.step.result (step_happened c.args.cluster.now.world.played c.step.new.self.world.played c.args.event c.in_default.not-Restart) c.step.ensures.ok

pub returns-in_default-clause-err : goal.returns-in_default-clause-err
returns-in_default-clause-err g c = missed g.D.Disk.told c.args.cluster.now.world c.step.new.self.world c.args.event c.step.result c.requires.possible c.step.ensures.refused c.step.ensures.cause
