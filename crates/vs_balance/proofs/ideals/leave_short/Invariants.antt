use Rattle.std.proofs.Common.{◌≡◌, ◌+◌, ◌<◌, ◌≤◌, ◌^◌, ◌++◌, drop, take, sum, false}
use Rattle.std.specs.List.{count_by}
use Rattle.vs_balance.specs.Member.{stays, weights_of}
use Rattle.vs_balance.proofs.Shares.{one_if}
use Rattle.vs_balance.proofs.Leaving.{left_from, next_in_a_row}
use Rattle.vs_balance.proofs.ideals.leave_short.Given as goal

abbrev pub invariant-loop-member : goal.invariant-loop-member
invariant-loop-member l = record {
  few : l.sharing.buckets < 2 ^ 32;
  total : l.sharing.total ≡ sum (weights_of l.initial.members);
  ahead : drop l.member-index l.members ≡ drop l.member-index l.initial.members;
  rest : take l.member-index l.members ++ left_from l.sharing.buckets l.sharing.total l.sharing.surplus (drop l.member-index l.members) ≡ next_in_a_row l.initial.members;
  none : l.some_left ≡ false → l.members ≡ l.initial.members;
  some : count_by stays l.members + one_if l.some_left ≤ count_by stays l.initial.members;
}
