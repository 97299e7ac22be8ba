use Rattle.std.proofs.Common.{◌≡◌, ◌+◌, ◌++◌, drop, take, sum}
use Rattle.vs_world.specs.Heads.{heads_from}
use Rattle.vs_world.proofs.heads.heads_of.Given as goal

abbrev pub invariant-loop-i : goal.invariant-loop-i
invariant-loop-i l = record {
  first : l.first ≡ 1 + sum (take l.i l.shares);
  made : l.heads.items ++ heads_from l.config.bucket_count l.first (drop l.i l.config.sets.items) (drop l.i l.shares) ≡ heads_from l.config.bucket_count 1 l.config.sets.items l.shares;
}
