use Rattle.std.proofs.Common.{subst}
use Rattle.vs_event.specs.declared.event.Event.TheVariants.{Post}
use Rattle.vs_machine.specs.Actors.{IsPossible}
use Rattle.vs_world.specs.Played.{state_of}
use Rattle.vs_drive.proofs.Choosing.{call_no_restart}
use Rattle.vs_drive.proofs.Turning.{missed, on_ok, step_happened}
use Rattle.vs_drive.proofs.turns.run_call.Goals as goal

pub returns-in-Post-clause-err : goal.returns-in-Post-clause-err
returns-in-Post-clause-err g c =
    let possible = subst (IsPossible (state_of c.args.cluster.now.world.played)) c.in-Post.is c.requires.possible in
    missed g.D.Disk.told c.args.cluster.now.world c.post.new.self.world (Post c.in-Post.client c.in-Post.set) c.post.result possible c.post.ensures.refused c.post.ensures.cause

pub returns-in_default-clause-ok : goal.returns-in_default-clause-ok
returns-in_default-clause-ok g c =
    on_ok c.step.result (step_happened c.args.cluster.now.world.played c.step.new.self.world.played c.args.event (call_no_restart c.args.cluster.now c.args.event c.requires.event)) c.step.ensures.ok

pub returns-in_default-clause-err : goal.returns-in_default-clause-err
returns-in_default-clause-err g c = missed g.D.Disk.told c.args.cluster.now.world c.step.new.self.world c.args.event c.step.result c.requires.possible c.step.ensures.refused c.step.ensures.cause
