use Rattle.std.proofs.Common.{◌≤◌, arith}
use Rattle.vs_event.specs.declared.event.Event.TheVariants.{Ask, Deliver, Hear}
use Rattle.vs_world.specs.Played.{state_of}
use Rattle.vs_settle.specs.Weight.{weight}
use Rattle.vs_settle.specs.Stopped.{IsStopped}
use Rattle.vs_settle.proofs.Possible.{possible}
use Rattle.vs_settle.proofs.Recovering.{asks}
use Rattle.vs_settle.proofs.Results.{on_ok_both, passed}
use Rattle.vs_settle.proofs.Settling.{delivers_next, hears_next, recovers, asking_costs, done_by}
use Rattle.vs_settle.proofs.Stopping.{goes_on, goes_stops, goes_then, stops_on}
use Rattle.vs_settle.proofs.entries.recover.Goals as goal

pub carry_out-requires-clause-possible : goal.carry_out-requires-clause-possible
carry_out-requires-clause-possible g c = possible (state_of c.args.world.now.played) _ (Ask c.args.set c.args.bucket) (asks (state_of c.args.world.now.played) c.args.set c.args.bucket c.args.other c.requires)

pub carry_out-requires-2-clause-possible : goal.carry_out-requires-2-clause-possible
carry_out-requires-2-clause-possible g c =
    possible (state_of c.carry_out.new.world.played) _ (Deliver c.args.set c.args.other)
    (delivers_next (state_of c.args.world.now.played) c.args.set c.args.bucket c.args.other c.requires (state_of c.carry_out.new.world.played) c.in_ok-carry_out.ensures.step)

pub returns-in_err-carry_out-2-clause-spent : goal.returns-in_err-carry_out-2-clause-spent
returns-in_err-carry_out-2-clause-spent g c =
    let some : 3 ≤ weight (state_of c.args.world.now.played) = asking_costs (state_of c.args.world.now.played) c.args.set c.args.bucket c.args.other c.requires in
    omega (arith, some, c.carry_out.ensures.most, c.carry_out-2.ensures.most)

pub carry_out-requires-3-clause-possible : goal.carry_out-requires-3-clause-possible
carry_out-requires-3-clause-possible g c =
    possible (state_of c.carry_out-2.new.world.played) _ (Hear c.args.set c.args.other)
    (hears_next (state_of c.args.world.now.played) c.args.set c.args.bucket c.args.other c.requires (state_of c.carry_out.new.world.played) (state_of c.carry_out-2.new.world.played) c.in_ok-carry_out.ensures.step c.in_ok-carry_out-2.ensures.step)

pub returns-clause-spent : goal.returns-clause-spent
returns-clause-spent g c =
    let some : 3 ≤ weight (state_of c.args.world.now.played) = asking_costs (state_of c.args.world.now.played) c.args.set c.args.bucket c.args.other c.requires in
    omega (arith, some, c.carry_out.ensures.most, c.carry_out-2.ensures.most, c.carry_out-3.ensures.most)

pub returns-clause-done : goal.returns-clause-done
returns-clause-done g c =
    let p = c.args.world.now.played in
    let q = c.carry_out-3.new.world.played in
    on_ok_both c.carry_out-3.result
    (λ step ticks. done_by p q c.args.steps.now c.carry_out-3.new.steps c.args.set c.args.bucket 2 3
    (recovers (state_of p) c.args.set c.args.bucket c.args.other c.requires (state_of c.carry_out.new.world.played) (state_of c.carry_out-2.new.world.played) (state_of q) c.in_ok-carry_out.ensures.step c.in_ok-carry_out-2.ensures.step step)
    (omega (arith, ticks, c.in_ok-carry_out.ensures.ticks, c.in_ok-carry_out-2.ensures.ticks)))
    c.carry_out-3.ensures.step c.carry_out-3.ensures.ticks

pub returns-in_err-carry_out-clause-spent : goal.returns-in_err-carry_out-clause-spent
returns-in_err-carry_out-clause-spent g c =
    let some : 3 ≤ weight (state_of c.args.world.now.played) = asking_costs (state_of c.args.world.now.played) c.args.set c.args.bucket c.args.other c.requires in
    omega (arith, some, c.carry_out.ensures.most)

pub returns-in_err-carry_out-2-clause-stops : goal.returns-in_err-carry_out-2-clause-stops
returns-in_err-carry_out-2-clause-stops g c =
    passed c.from_residual-in_err-carry_out-2.result (IsStopped g.D.Disk.told c.args.world.now c.args.steps.now c.carry_out-2.new.world c.carry_out-2.new.steps) _ c.from_residual-in_err-carry_out-2.ensures.1
    (goes_stops g.D.Disk.told c.args.world.now c.carry_out.new.world c.carry_out-2.new.world c.args.steps.now c.carry_out.new.steps c.carry_out-2.new.steps _
    c.in_ok-carry_out.ensures.goes c.in_err-carry_out-2.ensures.stops)

pub returns-clause-goes : goal.returns-clause-goes
returns-clause-goes g c =
    goes_on g.D.Disk.told c.carry_out-3.result c.args.world.now c.carry_out-2.new.world c.carry_out-3.new.world c.args.steps.now c.carry_out-2.new.steps c.carry_out-3.new.steps
    (goes_then g.D.Disk.told c.args.world.now c.carry_out.new.world c.carry_out-2.new.world c.args.steps.now c.carry_out.new.steps c.carry_out-2.new.steps c.in_ok-carry_out.ensures.goes c.in_ok-carry_out-2.ensures.goes) c.carry_out-3.ensures.goes

pub returns-clause-stops : goal.returns-clause-stops
returns-clause-stops g c =
    stops_on g.D.Disk.told c.carry_out-3.result c.args.world.now c.carry_out-2.new.world c.carry_out-3.new.world c.args.steps.now c.carry_out-2.new.steps c.carry_out-3.new.steps
    (goes_then g.D.Disk.told c.args.world.now c.carry_out.new.world c.carry_out-2.new.world c.args.steps.now c.carry_out.new.steps c.carry_out-2.new.steps c.in_ok-carry_out.ensures.goes c.in_ok-carry_out-2.ensures.goes) c.carry_out-3.ensures.stops

pub returns-in_err-carry_out-clause-stops : goal.returns-in_err-carry_out-clause-stops
returns-in_err-carry_out-clause-stops g c =
    passed c.from_residual.result (IsStopped g.D.Disk.told c.args.world.now c.args.steps.now c.carry_out.new.world c.carry_out.new.steps) _ c.from_residual.ensures.1 c.in_err-carry_out.ensures.stops
