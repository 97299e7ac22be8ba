use Rattle.std.proofs.Common.{◌≡◌, ◌+◌, ◌*◌, ◌≤◌, length, take}
use Rattle.std.specs.List.{All}
use Rattle.vs_waves.specs.Flows.{IsBarred, LeadsToSeen, IsNeeded, unseen}
use Rattle.vs_waves.specs.Loads.{AreLoads}
use Rattle.vs_waves.proofs.shifting.+shift.Given as goal

-- each call in turn marks a far set
abbrev pub decreases-place : goal.decreases-place
decreases-place l = 2 * unseen l.seen.now

abbrev pub decreases-relieve : goal.decreases-relieve
decreases-relieve l = 2 * unseen l.seen.now + 1

abbrev pub invariant-place-loop-i : goal.invariant-place-loop-i
invariant-place-loop-i l = record {
  same : l.flows ≡ l.fn.flows;
  seen : length l.seen ≡ 33;
  barred : IsBarred l.lows l.limit l.fn.seen l.seen l.fn.flows;
  leads : All (LeadsToSeen l.seen l.set) (take l.i l.fn.flows);
  fewer : unseen l.seen ≤ unseen l.fn.seen;
  loads : AreLoads l.loads l.fn.flows;
}

abbrev pub invariant-relieve-loop-i : goal.invariant-relieve-loop-i
invariant-relieve-loop-i l = record {
  same : l.flows ≡ l.fn.flows;
  seen : length l.seen ≡ 33;
  barred : IsBarred l.lows l.limit l.fn.seen l.seen l.fn.flows;
  stuck : All (IsNeeded l.lows l.seen l.fn.flows l.set) (take l.i l.fn.flows);
  fewer : unseen l.seen ≤ unseen l.fn.seen;
  loads : AreLoads l.loads l.fn.flows;
}
