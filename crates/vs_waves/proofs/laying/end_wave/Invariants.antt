use Rattle.std.proofs.Common.{◌≡◌, ◌++◌, map, take, drop}
use Rattle.vs_waves.specs.Flows.{after_wave}
use Rattle.vs_waves.proofs.laying.end_wave.Given as goal

abbrev pub invariant-loop-flow : goal.invariant-loop-flow
invariant-loop-flow l = l.flows ≡ map after_wave (take l.flow-index l.fn.flows) ++ drop l.flow-index l.fn.flows
