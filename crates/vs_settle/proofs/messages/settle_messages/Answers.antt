use Rattle.std.proofs.Common.{◌≡◌, ◌+◌, subst, ap, length, arith}
use Rattle.vs_config.specs.Configuration.{Configuration}
use Rattle.vs_machine.specs.State.{sets_of}
use Rattle.vs_world.specs.Played.{state_of}
use Rattle.vs_settle.specs.Messages.{AreDrained}
use Rattle.vs_settle.specs.Stopped.{IsStopped}
use Rattle.vs_settle.proofs.Drained.{quieting_starts, quieting_goes_on, quieting_ends}
use Rattle.vs_settle.proofs.Keeping.{faults_none, faults_then}
use Rattle.vs_settle.proofs.Lines.{set_stays}
use Rattle.vs_settle.proofs.Tables.{is_within}
use Rattle.vs_settle.proofs.Stopping.{goes_stops}
use Rattle.vs_settle.proofs.Results.{passed}
use Rattle.vs_settle.proofs.messages.settle_messages.Goals as goal

pub loop-index-init : goal.loop-index-init
loop-index-init g c = record {
  held = quieting_starts c.args.world.now.played c.args.steps.now c.requires.rests;
  faults = faults_none g.D.Disk.told c.args.world.now;
}

pub drain_from-requires-clause-from : goal.drain_from-requires-clause-from
drain_from-requires-clause-from g c =
    set_stays c.args.world.now.played c.loop-index.world.played c.args.steps.now c.loop-index.steps c.in-Some.from c.loop-index.invariant.held.follows
    (is_within (sets_of (state_of c.args.world.now.played)) c.in-Some.from (omega (arith, c.in-Some.ensures)) (omega (arith, c.in-Some.ensures, c.set_count-count.ensures.count, c.loop-index-test.true)))

pub drain_from-requires-clause-count : goal.drain_from-requires-clause-count
drain_from-requires-clause-count g c =
    let same : sets_of (state_of c.loop-index.world.played) ≡ sets_of (state_of c.args.world.now.played) = ap (λ (f : Configuration). length f.sets) c.loop-index.invariant.held.follows.carries.config in
    omega (arith, same, c.set_count-count.ensures.count)

pub loop-index-preserved : goal.loop-index-preserved
loop-index-preserved g c =
    let same : c.in-Some.from ≡ c.loop-index.index + 1 = omega (arith, c.in-Some.ensures) in
    record {
      held = quieting_goes_on c.args.world.now.played c.loop-index.world.played c.drain_from.new.world.played c.args.steps.now c.loop-index.steps c.drain_from.new.steps c.loop-index.index c.loop-index.invariant.held c.in_ok-drain_from.ensures.goes.follows
          (subst (λ x. AreDrained c.loop-index.world.played c.loop-index.steps c.drain_from.new.world.played c.drain_from.new.steps x) same c.in_ok-drain_from.ensures.drained);
      faults = faults_then g.D.Disk.told c.args.world.now c.loop-index.world c.drain_from.new.world c.loop-index.invariant.held.follows.carries.config c.loop-index.invariant.faults c.in_ok-drain_from.ensures.goes.faults;
    }

pub returns-clause-silent : goal.returns-clause-silent
returns-clause-silent g c =
    quieting_ends c.args.world.now.played c.loop-index.world.played c.args.steps.now c.loop-index.steps c.loop-index.index c.loop-index.invariant.held
    (omega (arith, c.set_count-count.ensures.count, c.loop-index-test.false)) c.know.ensures.lines

pub returns-in_err-drain_from-clause-stops : goal.returns-in_err-drain_from-clause-stops
returns-in_err-drain_from-clause-stops g c =
    passed c.from_residual.result (IsStopped g.D.Disk.told c.args.world.now c.args.steps.now c.drain_from.new.world c.drain_from.new.steps) _ c.from_residual.ensures.1
    (goes_stops g.D.Disk.told c.args.world.now c.loop-index.world c.drain_from.new.world c.args.steps.now c.loop-index.steps c.drain_from.new.steps _
    (record { follows = c.loop-index.invariant.held.follows; faults = c.loop-index.invariant.faults }) c.in_err-drain_from.ensures.stops)

pub returns-clause-goes : goal.returns-clause-goes
returns-clause-goes g c =
    record { follows = c.loop-index.invariant.held.follows; faults = c.loop-index.invariant.faults }
