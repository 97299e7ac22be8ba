use Rattle.std.proofs.Common.{◌≡◌, Ok, sym, ap, subst, ◌∙◌}
use Rattle.vs_event.specs.declared.event.RestartBy.{RestartBy}
use Rattle.vs_machine.specs.Kinds.Stops.{restart}
use Rattle.vs_state.specs.Guard.{verdict}
use Rattle.vs_state.specs.Plain.{plain}
use Rattle.vs_core.proofs.Restarting.{served_is}
use Rattle.vs_core.proofs.kinds.restart.restart.Goals as goal

pub returns-in-Service-clause-step : goal.returns-in-Service-clause-step
returns-in-Service-clause-step c =
    let s = plain c.args.state.now in
    let x = c.args.set in
    let kept = c.args.kept in
    let possible = subst (λ (by : RestartBy). verdict (restart s x kept by) ≡ Ok tt) c.in-Service.is c.requires.possible in
    ap (λ (by : RestartBy). restart s x kept by) c.in-Service.is ∙ served_is s x kept possible ∙ ap Ok (sym c.bring_up.ensures.up)
