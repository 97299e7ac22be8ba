use Rattle.std.proofs.Common.{◌≡◌, Decides, subst₂}
use Rattle.std.proofs.lemmas.Slice.Eq.{slice_eq-Decides}
use Rattle.vs_script.proofs.SameCommands.{command_decides}
use Rattle.vs_script.proofs.command.same_commands.Goals as goal

pub returns : goal.returns
returns c =
    subst₂ (λ a b. Decides c.eq.result (a ≡ b)) c.as_slice.ensures c.as_slice-2.ensures
    (slice_eq-Decides command_decides c.as_slice.result.now c.as_slice-2.result.now c.eq.result c.eq.ensures)
