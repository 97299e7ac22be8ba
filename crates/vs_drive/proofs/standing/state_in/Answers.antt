use Rattle.std.proofs.Common.{ap, ◌∙◌}
use Rattle.vs_state.specs.Plain.{plain}
use Rattle.vs_world.specs.Played.{state_of}
use Rattle.vs_world.specs.World.{World}
use Rattle.vs_drive.proofs.standing.state_in.Goals as goal

pub returns-clause-state : goal.returns-clause-state
returns-clause-state g c = ap plain c.state.ensures.value ∙ (c.core.ensures.state ∙ ap (λ (w : World g.row.D.Denot). state_of w.played) c.world.ensures.world)
