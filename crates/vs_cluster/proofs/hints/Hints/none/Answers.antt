use Rattle.vs_cluster.proofs.hints.Hints.none.Goals as goal

pub returns-clause-flags : goal.returns-clause-flags
returns-clause-flags c = c.steered_posts.ensures.flags.0 64
