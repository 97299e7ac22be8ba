use Rattle.std.proofs.Common.{◌-◌, get_or}
use Rattle.vs_waves.specs.Flows.{near_now, IsFilled}
use Rattle.vs_waves.specs.Loads.{AreLoads}
use Rattle.vs_waves.proofs.laying.fill.Given as goal

abbrev pub invariant-loop-set : goal.invariant-loop-set
invariant-loop-set l = record {
  filled : IsFilled l.lows l.limit l.set l.fn.flows l.flows;
  loads : AreLoads l.loads l.flows;
}

abbrev pub invariant-loop-flows : goal.invariant-loop-flows
invariant-loop-flows l = record {
  filled : IsFilled l.lows l.limit l.set l.fn.flows l.flows;
  loads : AreLoads l.loads l.flows;
}

abbrev pub decreases-loop-flows : goal.decreases-loop-flows
decreases-loop-flows l = get_or l.lows l.set 0 - near_now l.set l.flows
