use Rattle.std.proofs.Common.{◌≡◌, ◌+◌, take, sum}
use Rattle.vs_core.specs.Booting.{AreNewStates}
use Rattle.vs_core.proofs.boot.states_of.Given as goal

abbrev pub invariant-loop-share : goal.invariant-loop-share
invariant-loop-share l = record {
  first : l.first ≡ 1 + sum (take l.share-index l.shares);
  made : AreNewStates 1 (take l.share-index l.shares) l.states.items;
}
