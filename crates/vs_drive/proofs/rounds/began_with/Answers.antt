use Rattle.std.proofs.Common.{◌≡◌, sym, ap, ◌∙◌}
use Rattle.vs_world.specs.Began.{begun}
use Rattle.vs_world.specs.World.{World}
use Rattle.vs_drive.proofs.rounds.began_with.Goals as goal

pub returns : goal.returns
returns g c =
    let same : c.opening.result.now ≡ c.args.cluster.now.world.played.opening = c.opening.ensures ∙ ap (λ (w : World g.row.D.Denot). w.played.opening) c.world.ensures.world in
    (λ yes. c.equals.ensures.0 yes ∙ ap begun same, λ is. c.equals.ensures.1 (is ∙ sym (ap begun same)))
