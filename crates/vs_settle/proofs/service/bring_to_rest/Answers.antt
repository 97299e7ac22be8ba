use Rattle.std.proofs.Common.{◌+◌, ◌≤◌, arith}
use Rattle.vs_world.specs.Played.{state_of}
use Rattle.vs_settle.specs.Weight.{weight}
use Rattle.vs_settle.specs.Stopped.{IsStopped}
use Rattle.vs_settle.proofs.Results.{on_ok_three, passed}
use Rattle.vs_settle.proofs.Settled.{is_settled}
use Rattle.vs_settle.proofs.Stopping.{goes_on, goes_stops, goes_then, stops_on}
use Rattle.vs_settle.proofs.service.bring_to_rest.Goals as goal

pub raise_sets-requires : goal.raise_sets-requires
raise_sets-requires g c = record {
  reached = c.know.ensures.reached;
  finished = c.requires.finished;
  quiet = c.finished_is_quiet.ensures (state_of c.args.world.now.played) c.know.ensures.reached c.requires.finished;
}

-- ---- it ends among the messages

pub returns-in_err-settle_messages-clause-stops : goal.returns-in_err-settle_messages-clause-stops
returns-in_err-settle_messages-clause-stops g c =
    passed c.from_residual-in_err-settle_messages.result (IsStopped g.D.Disk.told c.args.world.now c.args.steps.now c.settle_messages.new.world c.settle_messages.new.steps) _ c.from_residual-in_err-settle_messages.ensures.1
    (goes_stops g.D.Disk.told c.args.world.now c.raise_sets.new.world c.settle_messages.new.world c.args.steps.now c.raise_sets.new.steps c.settle_messages.new.steps _ c.in_ok-raise_sets.ensures.goes c.in_err-settle_messages.ensures.stops)

pub returns-in_err-settle_messages-clause-bound : goal.returns-in_err-settle_messages-clause-bound
returns-in_err-settle_messages-clause-bound g c = omega (arith, c.in_ok-raise_sets.ensures.paid, c.settle_messages.ensures.spent)

-- ---- all is settled, or it ends among the buckets

pub returns-clause-goes : goal.returns-clause-goes
returns-clause-goes g c =
    goes_on g.D.Disk.told c.settle_buckets.result c.args.world.now c.settle_messages.new.world c.settle_buckets.new.world c.args.steps.now c.settle_messages.new.steps c.settle_buckets.new.steps
    (goes_then g.D.Disk.told c.args.world.now c.raise_sets.new.world c.settle_messages.new.world c.args.steps.now c.raise_sets.new.steps c.settle_messages.new.steps c.in_ok-raise_sets.ensures.goes c.in_ok-settle_messages.ensures.goes)
    c.settle_buckets.ensures.goes

pub returns-clause-stops : goal.returns-clause-stops
returns-clause-stops g c =
    stops_on g.D.Disk.told c.settle_buckets.result c.args.world.now c.settle_messages.new.world c.settle_buckets.new.world c.args.steps.now c.settle_messages.new.steps c.settle_buckets.new.steps
    (goes_then g.D.Disk.told c.args.world.now c.raise_sets.new.world c.settle_messages.new.world c.args.steps.now c.raise_sets.new.steps c.settle_messages.new.steps c.in_ok-raise_sets.ensures.goes c.in_ok-settle_messages.ensures.goes)
    c.settle_buckets.ensures.stops

pub returns-clause-settled : goal.returns-clause-settled
returns-clause-settled g c =
    on_ok_three c.settle_buckets.result (λ goes silent ranks. is_settled (state_of c.settle_buckets.new.world.played) goes.follows.rests silent ranks)
    c.settle_buckets.ensures.goes c.settle_buckets.ensures.silent c.settle_buckets.ensures.ranks

pub returns-clause-bound : goal.returns-clause-bound
returns-clause-bound g c =
    let paid : c.settle_messages.new.steps + weight (state_of c.settle_messages.new.world.played) ≤ c.raise_sets.new.steps + weight (state_of c.raise_sets.new.world.played) = c.in_ok-settle_messages.ensures.paid in
    omega (arith, paid, c.in_ok-raise_sets.ensures.paid, c.settle_buckets.ensures.spent)

pub returns-in_err-raise_sets-clause-stops : goal.returns-in_err-raise_sets-clause-stops
returns-in_err-raise_sets-clause-stops g c =
    passed c.from_residual.result (IsStopped g.D.Disk.told c.args.world.now c.args.steps.now c.raise_sets.new.world c.raise_sets.new.steps) _ c.from_residual.ensures.1 c.in_err-raise_sets.ensures.stops
