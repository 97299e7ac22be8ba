use Rattle.std.proofs.Common.{◌+◌, ◌≤◌, ◌<◌, arith}
use Rattle.vs_world.specs.Played.{state_of}
use Rattle.vs_settle.specs.Weight.{load, weight}
use Rattle.vs_settle.specs.Stopped.{IsStopped}
use Rattle.vs_settle.proofs.Keeping.{faults_none, faults_then}
use Rattle.vs_settle.proofs.Lines.{draining_starts, draining_goes_on, line_costs, line_lighter, line_possible, set_stays}
use Rattle.vs_settle.proofs.Stopping.{goes_stops}
use Rattle.vs_settle.proofs.Results.{passed}
use Rattle.vs_settle.proofs.messages.drain.Goals as goal

pub loop-event-init : goal.loop-event-init
loop-event-init g c = record {
  held = draining_starts c.args.world.now.played c.args.steps.now c.args.from c.args.to c.requires.rests;
  faults = faults_none g.D.Disk.told c.args.world.now;
}

pub carry_out-requires-clause-possible : goal.carry_out-requires-clause-possible
carry_out-requires-clause-possible g c =
    let p = c.args.world.now.played in
    let q = c.loop-event.world.played in
    let f = c.loop-event.invariant.held.follows in
    line_possible (state_of q) c.args.from c.args.to c.in-Some.event
    (set_stays p q c.args.steps.now c.loop-event.steps c.args.from f c.requires.from) (set_stays p q c.args.steps.now c.loop-event.steps c.args.to f c.requires.to) c.in-Some.ensures

pub loop-event-smaller : goal.loop-event-smaller
loop-event-smaller g c =
    let q = c.loop-event.world.played in
    let r = c.carry_out.new.world.played in
    let less : load ((state_of r).link c.args.from c.args.to) + 1 ≤ load ((state_of q).link c.args.from c.args.to) =
    (line_lighter (state_of q) (state_of r) c.args.from c.args.to c.in-Some.event c.loop-event.invariant.held.follows.rests c.in-Some.ensures c.in_ok-carry_out.ensures.step).shorter in
    let goal_is : load ((state_of r).link c.args.from c.args.to) < load ((state_of q).link c.args.from c.args.to) = omega (arith, less) in
    goal_is

pub loop-event-preserved : goal.loop-event-preserved
loop-event-preserved g c =
    record {
      held = draining_goes_on c.args.world.now.played c.loop-event.world.played c.carry_out.new.world.played c.args.steps.now c.loop-event.steps c.carry_out.new.steps c.args.from c.args.to c.in-Some.event c.loop-event.invariant.held
          c.in-Some.ensures c.in_ok-carry_out.ensures.step c.in_ok-carry_out.ensures.goes.follows c.in_ok-carry_out.ensures.ticks;
      faults = faults_then g.D.Disk.told c.args.world.now c.loop-event.world c.carry_out.new.world c.loop-event.invariant.held.follows.carries.config c.loop-event.invariant.faults c.in_ok-carry_out.ensures.goes.faults;
    }

pub returns-in_err-carry_out-clause-stops : goal.returns-in_err-carry_out-clause-stops
returns-in_err-carry_out-clause-stops g c =
    passed c.from_residual.result (IsStopped g.D.Disk.told c.args.world.now c.args.steps.now c.carry_out.new.world c.carry_out.new.steps) _ c.from_residual.ensures.1
    (goes_stops g.D.Disk.told c.args.world.now c.loop-event.world c.carry_out.new.world c.args.steps.now c.loop-event.steps c.carry_out.new.steps _
    (record { follows = c.loop-event.invariant.held.follows; faults = c.loop-event.invariant.faults }) c.in_err-carry_out.ensures.stops)

pub returns-clause-goes : goal.returns-clause-goes
returns-clause-goes g c =
    record { follows = c.loop-event.invariant.held.follows; faults = c.loop-event.invariant.faults }

pub returns-in_err-carry_out-clause-spent : goal.returns-in_err-carry_out-clause-spent
returns-in_err-carry_out-clause-spent g c =
    let q = c.loop-event.world.played in
    let f = c.loop-event.invariant.held.follows in
    let paid : c.loop-event.steps + weight (state_of q) ≤ c.args.steps.now + weight (state_of c.args.world.now.played) = c.loop-event.invariant.held.paid in
    let some : 1 ≤ weight (state_of q) = line_costs (state_of q) c.args.from c.args.to c.in-Some.event f.rests
    (set_stays c.args.world.now.played q c.args.steps.now c.loop-event.steps c.args.from f c.requires.from) (set_stays c.args.world.now.played q c.args.steps.now c.loop-event.steps c.args.to f c.requires.to) c.in-Some.ensures in
    omega (arith, paid, some, c.carry_out.ensures.most)
