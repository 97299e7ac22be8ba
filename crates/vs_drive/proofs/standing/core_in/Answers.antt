use Rattle.std.proofs.Common.{ap, ◌∙◌}
use Rattle.vs_world.specs.Played.{state_of}
use Rattle.vs_world.specs.World.{World}
use Rattle.vs_drive.proofs.standing.core_in.Goals as goal

pub returns : goal.returns
returns g c = c.core.ensures.state ∙ ap (λ (w : World g.row.D.Denot). state_of w.played) c.world.ensures.world
