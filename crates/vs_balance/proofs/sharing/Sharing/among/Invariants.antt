use Rattle.std.proofs.Common.{◌≡◌, ◌*◌, ◌≤◌, ◌^◌, take}
use Rattle.std.specs.List.{sum_by}
use Rattle.vs_balance.specs.Sharing.{rounded_up}
use Rattle.vs_balance.specs.Member.{weight_of}
use Rattle.vs_balance.proofs.sharing.Sharing.among.Given as goal

abbrev pub invariant-loop-member : goal.invariant-loop-member
invariant-loop-member l = record {
  counted : l.rounded_up ≡ sum_by (λ m. rounded_up l.buckets l.total (weight_of m)) (take l.member-index l.members);
  small : l.rounded_up ≤ 2 ^ 32 * l.member-index;
}
