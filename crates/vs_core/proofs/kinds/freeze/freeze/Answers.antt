use Rattle.std.proofs.Common.{None, Ok, Some, sym, ap, ◌∙◌}
use Rattle.std.specs.Option.{option_copied, option_map}
use Rattle.vs_send.specs.declared.transfer.Phase.TheVariants.{Ready}
use Rattle.vs_space.specs.declared.status.Status.TheVariants.{Sending}
use Rattle.vs_machine.specs.State as machine
use Rattle.vs_machine.specs.Tables.{put}
use Rattle.vs_machine.specs.Kinds.Sender.{in_phase}
use Rattle.vs_state.specs.Plain.{plain}
use Rattle.vs_core.proofs.Sender.{freeze_active, freeze_is}
use Rattle.vs_core.proofs.kinds.freeze.freeze.Goals as goal

pub freeze-requires-clause-active : goal.freeze-requires-clause-active
freeze-requires-clause-active c =
    freeze_active (plain c.args.state.now) c.args.set c.args.bucket c.requires.possible c.in-Some.transfer.now (sym c.transfer.ensures ∙ ap option_copied c.in-Some.is) c.requires.known

pub returns-clause-step : goal.returns-clause-step
returns-clause-step c =
    let s = plain c.args.state.now in
    let x = c.args.set in
    let old = s.bucket c.args.bucket in
    let t = c.in-Some.transfer.now in
    let is = sym c.transfer.ensures ∙ ap option_copied c.in-Some.is in
    freeze_is s x c.args.bucket c.requires.possible t is
    ∙ ap Ok (sym (
    c.freeze.ensures.frozen
    ∙ ap (λ m. machine.put_bucket s c.args.bucket (record old { entry = put old.entry x (Some (Sending t.dest)); transfer = put old.transfer x (option_map (λ t. in_phase t (Ready None)) m) })) is
    ))
