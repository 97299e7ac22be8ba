use Rattle.std.proofs.Common.{ℕ, ◌≡◌, length, get_or, take}
use Rattle.vs_waves.specs.Flows.{near_now, far_now}
use Rattle.vs_waves.proofs.wave_loads.WaveLoads.of.Given as goal

abbrev pub invariant-loop-flow : goal.invariant-loop-flow
invariant-loop-flow l = record {
  near_count : length l.near ≡ 33;
  far_count : length l.far ≡ 33;
  near : (s : ℕ) → get_or l.near s 0 ≡ near_now s (take l.flow-index l.flows);
  far : (s : ℕ) → get_or l.far s 0 ≡ far_now s (take l.flow-index l.flows);
}
