use Rattle.vs_settle.specs.Stopped.{IsStopped}
use Rattle.vs_settle.proofs.Results.{on_ok, passed}
use Rattle.vs_settle.proofs.Sweeping.{done_both}
use Rattle.vs_settle.proofs.Stopping.{goes_on, goes_stops, goes_then, stops_on}
use Rattle.vs_settle.proofs.entries.settle_bucket.Goals as goal

pub returns-clause-done : goal.returns-clause-done
returns-clause-done g c =
    let p = c.args.world.now.played in
    let q = c.settle_sets.new.world.played in
    let r = c.settle_sets-2.new.world.played in
    let t = c.settle_sets-3.new.world.played in
    on_ok c.settle_sets-3.result
    (done_both p r t c.args.steps.now c.settle_sets-2.new.steps c.settle_sets-3.new.steps c.args.bucket 2 1
    (done_both p q r c.args.steps.now c.settle_sets.new.steps c.settle_sets-2.new.steps c.args.bucket 3 2 c.in_ok-settle_sets.ensures.done c.in_ok-settle_sets-2.ensures.done))
    c.settle_sets-3.ensures.done

pub returns-in_err-settle_sets-2-clause-stops : goal.returns-in_err-settle_sets-2-clause-stops
returns-in_err-settle_sets-2-clause-stops g c =
    passed c.from_residual-in_err-settle_sets-2.result (IsStopped g.D.Disk.told c.args.world.now c.args.steps.now c.settle_sets-2.new.world c.settle_sets-2.new.steps) _ c.from_residual-in_err-settle_sets-2.ensures.1
    (goes_stops g.D.Disk.told c.args.world.now c.settle_sets.new.world c.settle_sets-2.new.world c.args.steps.now c.settle_sets.new.steps c.settle_sets-2.new.steps _
    c.in_ok-settle_sets.ensures.goes c.in_err-settle_sets-2.ensures.stops)

pub returns-clause-goes : goal.returns-clause-goes
returns-clause-goes g c =
    goes_on g.D.Disk.told c.settle_sets-3.result c.args.world.now c.settle_sets-2.new.world c.settle_sets-3.new.world c.args.steps.now c.settle_sets-2.new.steps c.settle_sets-3.new.steps
    (goes_then g.D.Disk.told c.args.world.now c.settle_sets.new.world c.settle_sets-2.new.world c.args.steps.now c.settle_sets.new.steps c.settle_sets-2.new.steps c.in_ok-settle_sets.ensures.goes c.in_ok-settle_sets-2.ensures.goes) c.settle_sets-3.ensures.goes

pub returns-clause-stops : goal.returns-clause-stops
returns-clause-stops g c =
    stops_on g.D.Disk.told c.settle_sets-3.result c.args.world.now c.settle_sets-2.new.world c.settle_sets-3.new.world c.args.steps.now c.settle_sets-2.new.steps c.settle_sets-3.new.steps
    (goes_then g.D.Disk.told c.args.world.now c.settle_sets.new.world c.settle_sets-2.new.world c.args.steps.now c.settle_sets.new.steps c.settle_sets-2.new.steps c.in_ok-settle_sets.ensures.goes c.in_ok-settle_sets-2.ensures.goes) c.settle_sets-3.ensures.stops

pub returns-in_err-settle_sets-clause-stops : goal.returns-in_err-settle_sets-clause-stops
returns-in_err-settle_sets-clause-stops g c =
    passed c.from_residual.result (IsStopped g.D.Disk.told c.args.world.now c.args.steps.now c.settle_sets.new.world c.settle_sets.new.steps) _ c.from_residual.ensures.1 c.in_err-settle_sets.ensures.stops
