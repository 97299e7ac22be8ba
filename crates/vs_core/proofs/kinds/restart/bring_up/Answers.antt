use Rattle.std.proofs.Common.{true, sym, ap, subst, ◌∙◌}
use Rattle.vs_machine.specs.State as machine
use Rattle.vs_machine.specs.Tables.{put}
use Rattle.vs_state.specs.Plain.{plain}
use Rattle.vs_core.specs.Restarting.{kept_of, IsUnheld}
use Rattle.vs_core.proofs.Restarting.{raised_is, unheld_settled}
use Rattle.vs_core.proofs.kinds.restart.bring_up.Goals as goal

pub raise-requires-clause-unheld : goal.raise-requires-clause-unheld
raise-requires-clause-unheld c =
    let s = plain c.args.state.now in
    let x = c.args.set in
    subst (λ (m : machine.State). IsUnheld m x) (sym c.settle.ensures.settled) (unheld_settled s c.requires.known x c.requires.down (kept_of c.args.kept (s.pending x)))

pub returns-clause-up : goal.returns-clause-up
returns-clause-up c =
    let s = plain c.args.state.now in
    let x = c.args.set in
    c.raise.ensures.up
    ∙ ap (λ (m : machine.State). record m { up = put m.up x true }) c.settle.ensures.settled
    ∙ raised_is s x c.args.kept (s.pending x)
