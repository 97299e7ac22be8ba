use Rattle.std.proofs.Common.{◌≡◌, ◌+◌, subst, arith}
use Rattle.vs_machine.specs.State.{sets_of}
use Rattle.vs_world.specs.Played.{state_of}
use Rattle.vs_settle.specs.Messages.{IsDrained}
use Rattle.vs_settle.specs.Stopped.{IsStopped}
use Rattle.vs_settle.proofs.Drained.{emptying_starts, emptying_goes_on, emptying_ends}
use Rattle.vs_settle.proofs.Keeping.{faults_none, faults_then}
use Rattle.vs_settle.proofs.Lines.{set_stays}
use Rattle.vs_settle.proofs.Tables.{is_within}
use Rattle.vs_settle.proofs.Stopping.{goes_stops}
use Rattle.vs_settle.proofs.Results.{passed}
use Rattle.vs_settle.proofs.messages.drain_from.Goals as goal

pub loop-index-init : goal.loop-index-init
loop-index-init g c = record {
  held = emptying_starts c.args.world.now.played c.args.steps.now c.args.from c.requires.rests;
  faults = faults_none g.D.Disk.told c.args.world.now;
}

pub drain-requires-clause-rests : goal.drain-requires-clause-rests
drain-requires-clause-rests g c = c.loop-index.invariant.held.follows.rests

pub drain-requires-clause-from : goal.drain-requires-clause-from
drain-requires-clause-from g c =
    set_stays c.args.world.now.played c.loop-index.world.played c.args.steps.now c.loop-index.steps c.args.from c.loop-index.invariant.held.follows c.requires.from

pub drain-requires-clause-to : goal.drain-requires-clause-to
drain-requires-clause-to g c =
    set_stays c.args.world.now.played c.loop-index.world.played c.args.steps.now c.loop-index.steps c.in-Some.to c.loop-index.invariant.held.follows
    (is_within (sets_of (state_of c.args.world.now.played)) c.in-Some.to (omega (arith, c.in-Some.ensures)) (omega (arith, c.in-Some.ensures, c.requires.count)))

pub loop-index-preserved : goal.loop-index-preserved
loop-index-preserved g c =
    let same : c.in-Some.to ≡ c.loop-index.index + 1 = omega (arith, c.in-Some.ensures) in
    record {
      held = emptying_goes_on c.args.world.now.played c.loop-index.world.played c.drain.new.world.played c.args.steps.now c.loop-index.steps c.drain.new.steps c.args.from c.loop-index.index c.loop-index.invariant.held c.in_ok-drain.ensures.goes.follows
          (subst (λ y. IsDrained c.loop-index.world.played c.loop-index.steps c.drain.new.world.played c.drain.new.steps c.args.from y) same c.in_ok-drain.ensures.drained);
      faults = faults_then g.D.Disk.told c.args.world.now c.loop-index.world c.drain.new.world c.loop-index.invariant.held.follows.carries.config c.loop-index.invariant.faults c.in_ok-drain.ensures.goes.faults;
    }

pub returns-clause-drained : goal.returns-clause-drained
returns-clause-drained g c =
    emptying_ends c.args.world.now.played c.loop-index.world.played c.args.steps.now c.loop-index.steps c.args.from c.loop-index.index c.loop-index.invariant.held
    (omega (arith, c.requires.count, c.loop-index-test.false))

pub returns-in_err-drain-clause-stops : goal.returns-in_err-drain-clause-stops
returns-in_err-drain-clause-stops g c =
    passed c.from_residual.result (IsStopped g.D.Disk.told c.args.world.now c.args.steps.now c.drain.new.world c.drain.new.steps) _ c.from_residual.ensures.1
    (goes_stops g.D.Disk.told c.args.world.now c.loop-index.world c.drain.new.world c.args.steps.now c.loop-index.steps c.drain.new.steps _
    (record { follows = c.loop-index.invariant.held.follows; faults = c.loop-index.invariant.faults }) c.in_err-drain.ensures.stops)

pub returns-clause-goes : goal.returns-clause-goes
returns-clause-goes g c =
    record { follows = c.loop-index.invariant.held.follows; faults = c.loop-index.invariant.faults }
