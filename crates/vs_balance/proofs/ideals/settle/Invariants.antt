use Rattle.std.proofs.Common.{◌≡◌, length}
use Rattle.std.specs.List.{count_by}
use Rattle.vs_balance.specs.Member.{stays, repeated, CanShare}
use Rattle.vs_balance.proofs.ideals.settle.Given as goal

abbrev pub invariant-loop : goal.invariant-loop
invariant-loop l = record {
  sharing : CanShare l.members;
  ending : repeated (length l.members) l.members ≡ repeated (length l.initial.members) l.initial.members;
}

abbrev pub decreases-loop : goal.decreases-loop
decreases-loop l = count_by stays l.members
