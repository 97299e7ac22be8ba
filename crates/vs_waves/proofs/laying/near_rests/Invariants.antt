use Rattle.std.proofs.Common.{ℕ, ◌≡◌, length, get_or, take}
use Rattle.vs_waves.specs.Flows.{near_rest}
use Rattle.vs_waves.proofs.laying.near_rests.Given as goal

abbrev pub invariant-loop-flow : goal.invariant-loop-flow
invariant-loop-flow l = record {
  count : length l.rests ≡ 33;
  each : (s : ℕ) → get_or l.rests s 0 ≡ near_rest s (take l.flow-index l.flows);
}
