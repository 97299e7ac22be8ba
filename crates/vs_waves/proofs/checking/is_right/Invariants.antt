use Rattle.std.proofs.Common.{◌≡◌, take, true}
use Rattle.std.specs.List.{All}
use Rattle.vs_waves.specs.Plan.{between_in_all, has_route, IsWave, plan_of}
use Rattle.vs_waves.proofs.checking.is_right.Given as goal

abbrev pub invariant-loop-wave : goal.invariant-loop-wave
invariant-loop-wave l = record {
  waves : All (IsWave l.max_sending l.max_receiving) (plan_of (take l.wave-index l.waves));
  along : All (λ w. All (λ m. has_route m.giver m.taker l.routes ≡ true) w) (plan_of (take l.wave-index l.waves));
}

abbrev pub invariant-loop-route : goal.invariant-loop-route
invariant-loop-route l = All (λ r. between_in_all r.giver r.taker (plan_of l.waves) ≡ r.number) (take l.route-index l.routes)
