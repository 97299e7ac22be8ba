use Rattle.vs_settle.proofs.Stopping.{still_finished, adds_services, adds_and_fails, causes, ended}
use Rattle.vs_settle.proofs.service.settle.Goals as goal

pub returns-clause-done : goal.returns-clause-done
returns-clause-done g c = still_finished g.D.Disk.told c.bring_to_rest-answer.result c.args.world.now c.bring_to_rest-answer.new.world c.args.steps.now c.bring_to_rest-answer.new.steps c.bring_to_rest-answer.ensures.goes

pub returns-clause-added : goal.returns-clause-added
returns-clause-added g c = adds_services g.D.Disk.told c.bring_to_rest-answer.result c.args.world.now c.bring_to_rest-answer.new.world c.args.steps.now c.bring_to_rest-answer.new.steps c.bring_to_rest-answer.ensures.goes

pub returns-clause-adds : goal.returns-clause-adds
returns-clause-adds g c = adds_and_fails g.D.Disk.told c.bring_to_rest-answer.result c.args.world.now c.bring_to_rest-answer.new.world c.args.steps.now c.bring_to_rest-answer.new.steps c.bring_to_rest-answer.ensures.stops

pub returns-clause-cause : goal.returns-clause-cause
returns-clause-cause g c = causes g.D.Disk.told c.bring_to_rest-answer.result c.args.world.now c.bring_to_rest-answer.new.world c.args.steps.now c.bring_to_rest-answer.new.steps c.bring_to_rest-answer.ensures.stops

pub returns-clause-ticks : goal.returns-clause-ticks
returns-clause-ticks g c = (ended g.D.Disk.told c.bring_to_rest-answer.result c.args.world.now c.bring_to_rest-answer.new.world c.args.steps.now c.bring_to_rest-answer.new.steps c.bring_to_rest-answer.ensures.goes c.bring_to_rest-answer.ensures.stops).ticks

pub returns-clause-counted : goal.returns-clause-counted
returns-clause-counted g c = (ended g.D.Disk.told c.bring_to_rest-answer.result c.args.world.now c.bring_to_rest-answer.new.world c.args.steps.now c.bring_to_rest-answer.new.steps c.bring_to_rest-answer.ensures.goes c.bring_to_rest-answer.ensures.stops).counted

pub returns-clause-opening : goal.returns-clause-opening
returns-clause-opening g c = (ended g.D.Disk.told c.bring_to_rest-answer.result c.args.world.now c.bring_to_rest-answer.new.world c.args.steps.now c.bring_to_rest-answer.new.steps c.bring_to_rest-answer.ensures.goes c.bring_to_rest-answer.ensures.stops).opening

pub returns-clause-faults : goal.returns-clause-faults
returns-clause-faults g c = (ended g.D.Disk.told c.bring_to_rest-answer.result c.args.world.now c.bring_to_rest-answer.new.world c.args.steps.now c.bring_to_rest-answer.new.steps c.bring_to_rest-answer.ensures.goes c.bring_to_rest-answer.ensures.stops).faults

pub returns-clause-run : goal.returns-clause-run
returns-clause-run g c = c.safe_runs.ensures.runs _ _ _ _ c.know.ensures.kept.run.opens
