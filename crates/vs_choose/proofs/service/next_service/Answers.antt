use Rattle.vs_machine.specs.Actors as actors
use Rattle.vs_machine.specs.Actors.{IsChoice}
use Rattle.vs_core.specs.Core.{means}
use Rattle.vs_choose.specs.Restart.{IsBareChoice}
use Rattle.vs_choose.proofs.Chosen.{exactly, none_then}
use Rattle.vs_choose.proofs.Services.{no_event}
use Rattle.vs_choose.proofs.service.next_service.Goals as goal

pub returns-clause-none : goal.returns-clause-none
returns-clause-none c =
    let s = means c.args.core.now in
    let actor = actors.Service c.args.set in
    exactly (IsBareChoice s actor) (IsChoice s actor) c.next_of_buckets.result (λ e h. h.choice) c.next_of_buckets.ensures.choice
    (none_then c.next_of_buckets.result c.next_of_buckets.ensures.none
    (no_event s c.args.set c.in_default.ensures.none c.in_default-next_reply.ensures.none c.in_default-next_restart.ensures.none))
