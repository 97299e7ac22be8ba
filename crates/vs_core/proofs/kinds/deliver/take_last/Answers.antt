use Rattle.std.proofs.Common.{sym, ap, ◌∙◌}
use Rattle.vs_link.specs.Connection.{Last}
use Rattle.vs_machine.specs.Kinds.Connections.{bucket_taking, is_receiving}
use Rattle.vs_machine.specs.State as machine
use Rattle.vs_machine.proofs.Kept.Taking.{last_taken}
use Rattle.vs_state.specs.Plain.{plain}
use Rattle.vs_core.proofs.Frame.{put_same}
use Rattle.vs_core.proofs.kinds.deliver.take_last.Goals as goal

pub activate-requires-clause-receiving : goal.activate-requires-clause-receiving
activate-requires-clause-receiving c = ap is_receiving (last_taken _ _ _ _ _ _ (sym c.receives.ensures ∙ c.in-Ok.is))

pub returns-in-Ok-clause-taken : goal.returns-in-Ok-clause-taken
returns-in-Ok-clause-taken c =
    let s = plain c.args.state.now in
    let b = c.args.bucket in
    c.activate.ensures.active
    ∙ ap (λ r. machine.put_bucket s b (bucket_taking (s.bucket b) c.args.from c.args.to (Last b) r)) (sym (sym c.receives.ensures ∙ c.in-Ok.is))

pub returns-in-Err-clause-taken : goal.returns-in-Err-clause-taken
returns-in-Err-clause-taken c =
    let s = plain c.args.state.now in
    let b = c.args.bucket in
    sym (λ i. record s { bucket = put_same s.bucket b i })
    ∙ ap (λ r. machine.put_bucket s b (bucket_taking (s.bucket b) c.args.from c.args.to (Last b) r)) (sym (sym c.receives.ensures ∙ c.in-Err.is))
