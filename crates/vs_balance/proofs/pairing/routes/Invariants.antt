use Rattle.std.proofs.Common.{◌≡◌, ◌+◌, ◌-◌, ◌≤◌, length}
use Rattle.vs_balance.specs.Routes.{excesses, lacks, routes_of}
use Rattle.vs_balance.proofs.Steps.{walked}
use Rattle.vs_balance.proofs.pairing.routes.Given as goal

abbrev pub invariant-loop-giver : goal.invariant-loop-giver
invariant-loop-giver l = record {
  giver_in : l.giver ≤ length l.views;
  taker_in : l.taker ≤ length l.views;
  giver_end : length l.views ≤ l.giver → l.excess ≡ 0;
  taker_end : length l.views ≤ l.taker → l.lack ≡ 0;
  rest : walked l.routes.items (excesses l.views l.ideals) (lacks l.max_receiving l.views l.ideals) l.giver l.taker l.excess l.lack ≡ routes_of l.views l.ideals l.max_receiving;
}

abbrev pub decreases-loop-giver : goal.decreases-loop-giver
decreases-loop-giver l = (length l.views - l.giver) + (length l.views - l.taker)
