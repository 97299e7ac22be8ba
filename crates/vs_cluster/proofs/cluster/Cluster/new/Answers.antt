use Rattle.vs_cluster.proofs.Keeping.{kept_first}
use Rattle.vs_cluster.proofs.cluster.Cluster.new.Goals as goal

pub invariant_of-result : goal.invariant_of-result
invariant_of-result g c = kept_first g.D.Disk.told c.args.world c.core-core.ensures.kept c.requires c.steered_posts.ensures.first c.none.result.flags c.none.ensures.flags c.none.ensures.count

pub returns-clause-kept : goal.returns-clause-kept
returns-clause-kept g c = kept_first g.D.Disk.told c.args.world c.core-core.ensures.kept c.requires c.steered_posts.ensures.first c.none.result.flags c.none.ensures.flags c.none.ensures.count
