use Rattle.std.proofs.Common.{arith}
use Rattle.vs_waves.proofs.Filling.{HasShare-same, IsFilled-none}
use Rattle.vs_waves.proofs.laying.fill.Goals as goal

pub loop-set-init : goal.loop-set-init
loop-set-init c = record {
  filled = IsFilled-none c.args.lows.now c.args.limit c.args.flows.now c.requires.fits c.requires.far;
  loads = c.of-loads.ensures;
}

pub near_now-requires : goal.near_now-requires
near_now-requires c = omega (arith, c.loop-flows.invariant.loads.near_count)

pub shift-requires-clause-share : goal.shift-requires-clause-share
shift-requires-clause-share c = HasShare-same c.args.lows.now c.args.limit c.args.flows.now c.loop-flows.flows c.loop-flows.invariant.filled.routes c.requires.share
