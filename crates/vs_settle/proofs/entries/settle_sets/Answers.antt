use Rattle.std.proofs.Common.{◌≡◌, ◌+◌, ◌≤◌, sym, subst, arith}
use Rattle.vs_machine.specs.State.{sets_of}
use Rattle.vs_world.specs.Played.{state_of}
use Rattle.vs_settle.specs.Tasks.{IsDone, IsNextEntry, level}
use Rattle.vs_settle.specs.Stopped.{IsStopped}
use Rattle.vs_settle.proofs.Keeping.{faults_none, faults_then}
use Rattle.vs_settle.proofs.Sweeping.{sweeping_starts, sweeping_next, sweeping_goes_on, sweeping_ends, level_some}
use Rattle.vs_settle.proofs.Stopping.{goes_stops}
use Rattle.vs_settle.proofs.Results.{passed}
use Rattle.vs_settle.proofs.entries.settle_sets.Goals as goal

pub loop-index-init : goal.loop-index-init
loop-index-init g c = record {
  held = sweeping_starts c.args.world.now.played c.args.steps.now c.args.bucket (level c.args.task) c.requires.rests c.requires.silent c.requires.ranks;
  faults = faults_none g.D.Disk.told c.args.world.now;
}

pub settle_entry-requires : goal.settle_entry-requires
settle_entry-requires g c =
    let same : c.in-Some.set ≡ c.loop-index.index + 1 = omega (arith, c.in-Some.ensures) in
    let lt : c.loop-index.index + 1 ≤ sets_of (state_of c.args.world.now.played) = omega (arith, c.set_count-count.ensures.count, c.loop-index-test.true) in
    subst (λ x. IsNextEntry (state_of c.loop-index.world.played) x c.args.bucket (level c.args.task)) (sym same)
    (sweeping_next c.args.world.now.played c.loop-index.world.played c.args.steps.now c.loop-index.steps c.args.bucket (level c.args.task) c.loop-index.index c.loop-index.invariant.held c.requires.bucket lt)

pub loop-index-preserved : goal.loop-index-preserved
loop-index-preserved g c =
    let same : c.in-Some.set ≡ c.loop-index.index + 1 = omega (arith, c.in-Some.ensures) in
    record {
      held = sweeping_goes_on c.args.world.now.played c.loop-index.world.played c.settle_entry.new.world.played c.args.steps.now c.loop-index.steps c.settle_entry.new.steps c.args.bucket (level c.args.task) c.loop-index.index c.loop-index.invariant.held c.in_ok-settle_entry.ensures.goes.follows
          (subst (λ x. IsDone c.loop-index.world.played c.loop-index.steps c.settle_entry.new.world.played c.settle_entry.new.steps x c.args.bucket (level c.args.task)) same c.in_ok-settle_entry.ensures.done);
      faults = faults_then g.D.Disk.told c.args.world.now c.loop-index.world c.settle_entry.new.world c.loop-index.invariant.held.follows.carries.config c.loop-index.invariant.faults c.in_ok-settle_entry.ensures.goes.faults;
    }

pub returns-clause-done : goal.returns-clause-done
returns-clause-done g c =
    sweeping_ends c.args.world.now.played c.loop-index.world.played c.args.steps.now c.loop-index.steps c.args.bucket (level c.args.task) c.loop-index.index c.loop-index.invariant.held (level_some c.args.task)
    (omega (arith, c.set_count-count.ensures.count, c.loop-index-test.false))

pub returns-in_err-settle_entry-clause-stops : goal.returns-in_err-settle_entry-clause-stops
returns-in_err-settle_entry-clause-stops g c =
    passed c.from_residual.result (IsStopped g.D.Disk.told c.args.world.now c.args.steps.now c.settle_entry.new.world c.settle_entry.new.steps) _ c.from_residual.ensures.1
    (goes_stops g.D.Disk.told c.args.world.now c.loop-index.world c.settle_entry.new.world c.args.steps.now c.loop-index.steps c.settle_entry.new.steps _
    (record { follows = c.loop-index.invariant.held.follows; faults = c.loop-index.invariant.faults }) c.in_err-settle_entry.ensures.stops)

pub returns-clause-goes : goal.returns-clause-goes
returns-clause-goes g c =
    record { follows = c.loop-index.invariant.held.follows; faults = c.loop-index.invariant.faults }
