use Rattle.vs_machine.specs.Actors as actors
use Rattle.vs_machine.specs.Actors.{IsChoice}
use Rattle.vs_core.specs.Core.{means}
use Rattle.vs_choose.proofs.Chosen.{exactly, none_then}
use Rattle.vs_choose.proofs.Movers.{no_mover_event}
use Rattle.vs_choose.proofs.mover.next_mover.Goals as goal

pub returns-clause-none : goal.returns-clause-none
returns-clause-none c =
    let P = IsChoice (means c.args.core.now) (actors.Mover c.args.set) in
    exactly P P c.next_haul.result (λ e h. h) c.next_haul.ensures.choice
    (none_then c.next_haul.result c.next_haul.ensures.none (no_mover_event (means c.args.core.now) c.args.set c.in_default.ensures.none))
