use Rattle.std.proofs.Common.{◌+◌, ◌≤◌, arith}
use Rattle.vs_event.specs.declared.event.Event.TheVariants.{Wipe, Forget}
use Rattle.vs_world.specs.Played.{state_of}
use Rattle.vs_settle.specs.Weight.{weight}
use Rattle.vs_settle.specs.Stopped.{IsStopped}
use Rattle.vs_settle.proofs.Collecting.{wipes, forgets, forgotten, forgotten_lighter}
use Rattle.vs_settle.proofs.Keeping.{faults_none, faults_then}
use Rattle.vs_settle.proofs.Possible.{possible}
use Rattle.vs_settle.proofs.Results.{on_ok_both, passed}
use Rattle.vs_settle.proofs.Settling.{collecting_costs, wiping_starts, wiping_wipes, wiping_goes_on, wiping_ends}
use Rattle.vs_settle.proofs.Stopping.{goes_on, goes_stops, stops_on}
use Rattle.vs_settle.proofs.entries.collect.Goals as goal

pub loop-world-init : goal.loop-world-init
loop-world-init g c = record {
  held = wiping_starts c.args.world.now.played c.args.steps.now c.args.set c.args.bucket c.requires;
  faults = faults_none g.D.Disk.told c.args.world.now;
}

pub carry_out-requires-clause-possible : goal.carry_out-requires-clause-possible
carry_out-requires-clause-possible g c =
    possible (state_of c.loop-world.world.played) _ (Wipe c.args.set c.args.bucket)
    (wipes (state_of c.loop-world.world.played) c.args.set c.args.bucket c.loop-world.invariant.held.can (omega (arith, c.row_count.ensures, c.loop-world-test.true)))

pub loop-world-smaller : goal.loop-world-smaller
loop-world-smaller g c =
    (wiping_wipes (state_of c.loop-world.world.played) (state_of c.carry_out.new.world.played) c.args.set c.args.bucket c.loop-world.invariant.held.can (omega (arith, c.row_count.ensures, c.loop-world-test.true)) c.in_ok-carry_out.ensures.step).fewer

pub loop-world-preserved : goal.loop-world-preserved
loop-world-preserved g c = record {
  held = wiping_goes_on c.args.world.now.played c.loop-world.world.played c.carry_out.new.world.played c.args.steps.now c.loop-world.steps c.carry_out.new.steps c.args.set c.args.bucket c.loop-world.invariant.held
      (omega (arith, c.row_count.ensures, c.loop-world-test.true)) c.in_ok-carry_out.ensures.step c.in_ok-carry_out.ensures.goes.follows c.in_ok-carry_out.ensures.ticks;
  faults = faults_then g.D.Disk.told c.args.world.now c.loop-world.world c.carry_out.new.world c.loop-world.invariant.held.follows.carries.config c.loop-world.invariant.faults c.in_ok-carry_out.ensures.goes.faults;
}

pub carry_out-requires-2-clause-possible : goal.carry_out-requires-2-clause-possible
carry_out-requires-2-clause-possible g c =
    possible (state_of c.loop-world.world.played) _ (Forget c.args.set c.args.bucket)
    (forgets (state_of c.loop-world.world.played) c.args.set c.args.bucket c.loop-world.invariant.held.can (omega (arith, c.row_count.ensures, c.loop-world-test.false)))

pub returns-clause-spent : goal.returns-clause-spent
returns-clause-spent g c =
    let q = c.loop-world.world.played in
    let paid : c.loop-world.steps + weight (state_of q) ≤ c.args.steps.now + weight (state_of c.args.world.now.played) = c.loop-world.invariant.held.paid in
    let some : weight (forgotten (state_of q) c.args.set c.args.bucket c.loop-world.invariant.held.can) + 1 ≤ weight (state_of q) = forgotten_lighter (state_of q) c.args.set c.args.bucket c.loop-world.invariant.held.can in
    omega (arith, paid, some, c.carry_out-2.ensures.most)

pub returns-clause-done : goal.returns-clause-done
returns-clause-done g c =
    on_ok_both c.carry_out-2.result
    (λ step ticks. wiping_ends c.args.world.now.played c.loop-world.world.played c.carry_out-2.new.world.played c.args.steps.now c.loop-world.steps c.carry_out-2.new.steps c.args.set c.args.bucket c.loop-world.invariant.held
    (omega (arith, c.row_count.ensures, c.loop-world-test.false)) step ticks)
    c.carry_out-2.ensures.step c.carry_out-2.ensures.ticks

pub returns-in_err-carry_out-clause-stops : goal.returns-in_err-carry_out-clause-stops
returns-in_err-carry_out-clause-stops g c =
    passed c.from_residual.result (IsStopped g.D.Disk.told c.args.world.now c.args.steps.now c.carry_out.new.world c.carry_out.new.steps) _ c.from_residual.ensures.1
    (goes_stops g.D.Disk.told c.args.world.now c.loop-world.world c.carry_out.new.world c.args.steps.now c.loop-world.steps c.carry_out.new.steps _
    (record { follows = c.loop-world.invariant.held.follows; faults = c.loop-world.invariant.faults }) c.in_err-carry_out.ensures.stops)

pub returns-in_err-carry_out-clause-spent : goal.returns-in_err-carry_out-clause-spent
returns-in_err-carry_out-clause-spent g c =
    let q = c.loop-world.world.played in
    let paid : c.loop-world.steps + weight (state_of q) ≤ c.args.steps.now + weight (state_of c.args.world.now.played) = c.loop-world.invariant.held.paid in
    let some : 1 ≤ weight (state_of q) = collecting_costs (state_of q) c.args.set c.args.bucket c.loop-world.invariant.held.can in
    omega (arith, paid, some, c.carry_out.ensures.most)

pub returns-clause-goes : goal.returns-clause-goes
returns-clause-goes g c =
    goes_on g.D.Disk.told c.carry_out-2.result c.args.world.now c.loop-world.world c.carry_out-2.new.world c.args.steps.now c.loop-world.steps c.carry_out-2.new.steps
    (record { follows = c.loop-world.invariant.held.follows; faults = c.loop-world.invariant.faults }) c.carry_out-2.ensures.goes

pub returns-clause-stops : goal.returns-clause-stops
returns-clause-stops g c =
    stops_on g.D.Disk.told c.carry_out-2.result c.args.world.now c.loop-world.world c.carry_out-2.new.world c.args.steps.now c.loop-world.steps c.carry_out-2.new.steps
    (record { follows = c.loop-world.invariant.held.follows; faults = c.loop-world.invariant.faults }) c.carry_out-2.ensures.stops
