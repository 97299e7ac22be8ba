use Rattle.std.proofs.Common.{◌≡◌, ◌*◌, ◌≤◌, ◌^◌, take}
use Rattle.std.specs.List.{sum_by}
use Rattle.vs_balance.specs.Member.{weight_of}
use Rattle.vs_balance.proofs.Weighing.{buckets_of}
use Rattle.vs_balance.proofs.sharing.sums.Given as goal

abbrev pub invariant-loop-member : goal.invariant-loop-member
invariant-loop-member l = record {
  buckets : l.buckets ≡ sum_by buckets_of (take l.member-index l.members);
  total : l.total ≡ sum_by weight_of (take l.member-index l.members);
  small : l.total ≤ 2 ^ 32 * l.member-index;
}
