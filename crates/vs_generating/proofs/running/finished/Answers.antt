use Rattle.std.proofs.Common.{refl, sym, subst, ◌∙◌}
use Rattle.vs_world.specs.Began.{Began}
use Rattle.vs_generating.specs.Running.{IsBeginning}
use Rattle.vs_generating.proofs.DisksInMemory.{told_of, of_service, of_drivers}
use Rattle.vs_generating.proofs.Ran.{run_of}
use Rattle.vs_generating.proofs.running.finished.Goals as goal

pub of_service-requires : goal.of_service-requires
of_service-requires g c =
    of_service told_of c.given_inputs.ensures.inputs (λ d. refl) c.in-Ok.driven c.rest.new.world c.in-Err-rest.fault c.in-Ok.ensures.kept c.in-Err-rest.ensures.kept c.in-Err-rest.ensures.cause

pub of_drivers-requires : goal.of_drivers-requires
of_drivers-requires g c = of_drivers c.args.world c.in-Err.world c.in-Err.fault c.requires.beginning.limit c.in-Err.ensures.cause

pub returns-in-Ok-rest : goal.returns-in-Ok-rest
returns-in-Ok-rest g c =
    let rested = c.in-Ok-rest.ensures in
    run_of told_of (λ d. refl) c.steered_posts.ensures.numbers c.given_inputs.ensures.inputs c.given_inputs.ensures.begun c.safe_runs.ensures.runs c.args.number c.rest.new.world
    (subst (λ (b : Began). IsBeginning c.args.number b) (sym (rested.began ∙ c.in-Ok.ensures.driven.began)) c.requires.beginning) rested.kept (rested.steered c.in-Ok.ensures.driven.steered) rested.done rested.settled
