use Rattle.std.proofs.Common.{false}
use Rattle.vs_event.specs.declared.event.Event.TheVariants.{Restart}
use Rattle.vs_event.specs.declared.event.RestartBy.TheVariants.{Service}
use Rattle.vs_world.specs.Played.{state_of}
use Rattle.vs_settle.proofs.Keeping.{faults_one}
use Rattle.vs_settle.proofs.Possible.{possible}
use Rattle.vs_settle.proofs.Raises.{raised_now, restart_is}
use Rattle.vs_settle.proofs.Stopping.{ends_start, stops_at}
use Rattle.vs_settle.proofs.raising.restart.Goals as goal

pub cause_of-requires : goal.cause_of-requires
cause_of-requires g c = λ reason e.
    let refused = (c.restart.ensures.refused reason).0 (cc (c.in-Err.is, e)) in
    let goes = restart_is (state_of c.args.world.now.played) c.args.set c.requires.set c.requires.down c.requires.calm.finished in
    absurd (cc (refused, goes))

pub returns-in-Ok-clause-raised : goal.returns-in-Ok-clause-raised
returns-in-Ok-clause-raised g c =
    raised_now g.D.Disk.told c.finished_is_quiet.ensures c.args.world.now c.restart.new.self c.args.steps.now c.tick.new.self c.args.set c.in-Ok.field-0 c.requires.calm c.in-Ok.ensures.ok c.tick.ensures
    (faults_one g.D.Disk.told c.args.world.now c.restart.new.self (Restart c.args.set false Service) c.know.ensures.kept c.restart.ensures.kept c.restart.ensures.disks c.restart.ensures.counted)

pub returns-in-Err-clause-stops : goal.returns-in-Err-clause-stops
returns-in-Err-clause-stops g c =
    let s = state_of c.args.world.now.played in
    stops_at g.D.Disk.told c.args.world.now c.restart.new.self c.args.steps.now c.args.steps.now (Restart c.args.set false Service) c.cause_of.result tt
    (possible s _ (Restart c.args.set false Service) (restart_is s c.args.set c.requires.set c.requires.down c.requires.calm.finished))
    (ends_start g.D.Disk.told c.args.world.now c.restart.new.self c.args.steps.now c.args.set c.in-Err.fault c.cause_of.result c.in-Err.ensures.cause c.cause_of.ensures)
    (faults_one g.D.Disk.told c.args.world.now c.restart.new.self (Restart c.args.set false Service) c.know.ensures.kept c.restart.ensures.kept c.restart.ensures.disks c.restart.ensures.counted)
