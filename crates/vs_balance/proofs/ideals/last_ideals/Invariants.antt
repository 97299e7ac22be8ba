use Rattle.std.proofs.Common.{◌≡◌, ◌<◌, ◌^◌, ◌++◌, drop, sum}
use Rattle.vs_balance.specs.Member.{weights_of}
use Rattle.vs_balance.proofs.Rows.{ideals_from, ideals_in_a_row}
use Rattle.vs_balance.proofs.ideals.last_ideals.Given as goal

abbrev pub invariant-loop-member : goal.invariant-loop-member
invariant-loop-member l = record {
  few : l.sharing.buckets < 2 ^ 32;
  total : l.sharing.total ≡ sum (weights_of l.members);
  rest : l.ideals.items ++ ideals_from l.sharing.buckets l.sharing.total l.sharing.surplus (drop l.member-index l.members) ≡ ideals_in_a_row l.members;
}
