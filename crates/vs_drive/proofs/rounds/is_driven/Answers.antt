use Rattle.std.proofs.Common.{◌≡◌, sym, ap, ◌∙◌}
use Rattle.vs_machine.specs.Kinds.Stops.{is_finished}
use Rattle.vs_world.specs.Played.{state_of}
use Rattle.vs_drive.proofs.rounds.is_driven.Goals as goal

pub returns : goal.returns
returns g c =
    let is : c.finished.result ≡ is_finished (state_of c.args.cluster.now.world.played) = c.finished.ensures ∙ ap is_finished c.core_in.ensures in
    (λ yes. sym is ∙ yes, λ yes. is ∙ yes)
