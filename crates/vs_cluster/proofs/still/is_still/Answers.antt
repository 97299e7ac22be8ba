use Rattle.vs_core.specs.Core.{means}
use Rattle.vs_cluster.proofs.Standing.{still_exactly}
use Rattle.vs_cluster.proofs.still.is_still.Goals as goal

pub returns : goal.returns
returns c =
    let exactly = still_exactly (means c.args.core.now) c.steered_posts.ensures.still c.state-state.ensures.reached in
    (λ t. exactly.0 (c.nobody_acts.ensures.0 t), λ still. c.nobody_acts.ensures.1 (exactly.1 still))
