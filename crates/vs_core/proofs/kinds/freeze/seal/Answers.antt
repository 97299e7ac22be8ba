use Rattle.std.proofs.Common.{Ok, Some, sym, ap, ◌∙◌}
use Rattle.std.specs.Option.{option_copied, option_map}
use Rattle.vs_send.specs.declared.transfer.Phase.TheVariants.{Sealed}
use Rattle.vs_space.specs.declared.status.Status.TheVariants.{Sent}
use Rattle.vs_machine.specs.State as machine
use Rattle.vs_machine.specs.Tables.{put}
use Rattle.vs_machine.specs.Kinds.Sender.{in_phase}
use Rattle.vs_state.specs.Plain.{plain}
use Rattle.vs_core.proofs.Sender.{seal_is}
use Rattle.vs_core.proofs.kinds.freeze.seal.Goals as goal

pub returns-clause-step : goal.returns-clause-step
returns-clause-step c =
    let s = plain c.args.state.now in
    let x = c.args.set in
    let old = s.bucket c.args.bucket in
    let t = c.in-Some.transfer.now in
    let is = sym c.transfer.ensures ∙ ap option_copied c.in-Some.is in
    seal_is s x c.args.bucket c.requires.possible t is
    ∙ ap Ok (sym (
    c.seal.ensures.sealed
    ∙ ap (λ m. machine.put_bucket s c.args.bucket (record old { entry = put old.entry x (Some (Sent t.dest)); kept = put old.kept x c.writes-place.result; transfer = put old.transfer x (option_map (λ t. in_phase t Sealed) m) })) is
    ∙ ap (λ n. machine.put_bucket s c.args.bucket (record old { entry = put old.entry x (Some (Sent t.dest)); kept = put old.kept x n; transfer = put old.transfer x (Some (in_phase t Sealed)) })) c.writes-place.ensures
    ))
