use Rattle.std.proofs.Common.{◌≡◌, ◌+◌, subst, arith}
use Rattle.vs_world.specs.Played.{state_of}
use Rattle.vs_settle.specs.Tasks.{AreDone}
use Rattle.vs_settle.specs.Stopped.{IsStopped}
use Rattle.vs_settle.proofs.Keeping.{faults_none, faults_then}
use Rattle.vs_settle.proofs.Lines.{bucket_stays}
use Rattle.vs_settle.proofs.Sweeping.{placing_starts, placing_goes_on, placing_ends}
use Rattle.vs_settle.proofs.Tables.{is_within}
use Rattle.vs_settle.proofs.Stopping.{goes_stops}
use Rattle.vs_settle.proofs.Results.{passed}
use Rattle.vs_settle.proofs.entries.settle_buckets.Goals as goal

pub loop-index-init : goal.loop-index-init
loop-index-init g c = record {
  held = placing_starts c.args.world.now.played c.args.steps.now c.requires.rests c.requires.silent;
  faults = faults_none g.D.Disk.told c.args.world.now;
}

pub settle_bucket-requires-clause-bucket : goal.settle_bucket-requires-clause-bucket
settle_bucket-requires-clause-bucket g c =
    bucket_stays c.args.world.now.played c.loop-index.world.played c.args.steps.now c.loop-index.steps c.in-Some.bucket c.loop-index.invariant.held.follows
    (is_within (state_of c.args.world.now.played).config.bucket_count c.in-Some.bucket (omega (arith, c.in-Some.ensures)) (omega (arith, c.in-Some.ensures, c.bucket_count-index-end.ensures.count, c.loop-index-test.true)))

pub loop-index-preserved : goal.loop-index-preserved
loop-index-preserved g c =
    let same : c.in-Some.bucket ≡ c.loop-index.index + 1 = omega (arith, c.in-Some.ensures) in
    record {
      held = placing_goes_on c.args.world.now.played c.loop-index.world.played c.settle_bucket.new.world.played c.args.steps.now c.loop-index.steps c.settle_bucket.new.steps c.loop-index.index c.loop-index.invariant.held c.in_ok-settle_bucket.ensures.goes.follows
          (subst (λ b. AreDone c.loop-index.world.played c.loop-index.steps c.settle_bucket.new.world.played c.settle_bucket.new.steps b 1) same c.in_ok-settle_bucket.ensures.done);
      faults = faults_then g.D.Disk.told c.args.world.now c.loop-index.world c.settle_bucket.new.world c.loop-index.invariant.held.follows.carries.config c.loop-index.invariant.faults c.in_ok-settle_bucket.ensures.goes.faults;
    }

pub returns-clause-ranks : goal.returns-clause-ranks
returns-clause-ranks g c =
    placing_ends c.args.world.now.played c.loop-index.world.played c.args.steps.now c.loop-index.steps c.loop-index.index c.loop-index.invariant.held
    (omega (arith, c.bucket_count-index-end.ensures.count, c.loop-index-test.false))

pub returns-in_err-settle_bucket-clause-stops : goal.returns-in_err-settle_bucket-clause-stops
returns-in_err-settle_bucket-clause-stops g c =
    passed c.from_residual.result (IsStopped g.D.Disk.told c.args.world.now c.args.steps.now c.settle_bucket.new.world c.settle_bucket.new.steps) _ c.from_residual.ensures.1
    (goes_stops g.D.Disk.told c.args.world.now c.loop-index.world c.settle_bucket.new.world c.args.steps.now c.loop-index.steps c.settle_bucket.new.steps _
    (record { follows = c.loop-index.invariant.held.follows; faults = c.loop-index.invariant.faults }) c.in_err-settle_bucket.ensures.stops)

pub returns-clause-goes : goal.returns-clause-goes
returns-clause-goes g c =
    record { follows = c.loop-index.invariant.held.follows; faults = c.loop-index.invariant.faults }
