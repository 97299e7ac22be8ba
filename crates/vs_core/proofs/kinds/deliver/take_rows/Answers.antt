use Rattle.std.proofs.Common.{sym, ap, ◌∙◌}
use Rattle.vs_link.specs.Connection.{Chunk}
use Rattle.vs_machine.specs.Kinds.Connections.{bucket_taking}
use Rattle.vs_machine.specs.State as machine
use Rattle.vs_machine.proofs.Kept.Taking.{data_taken}
use Rattle.vs_state.specs.Plain.{plain}
use Rattle.vs_core.proofs.Frame.{put_same}
use Rattle.vs_core.proofs.kinds.deliver.take_rows.Goals as goal

pub add_rows-requires-clause-open : goal.add_rows-requires-clause-open
add_rows-requires-clause-open c =
    data_taken _ _ _ _ _ _ (sym c.receives.ensures ∙ c.in-Ok.is)

pub add_rows-requires-clause-room : goal.add_rows-requires-clause-room
add_rows-requires-clause-room c = c.requires.room _ (sym c.receives.ensures ∙ c.in-Ok.is)

pub returns-in-Ok-clause-taken : goal.returns-in-Ok-clause-taken
returns-in-Ok-clause-taken c =
    let s = plain c.args.state.now in
    let b = c.args.bucket in
    c.add_rows.ensures.added
    ∙ ap (λ r. machine.put_bucket s b (bucket_taking (s.bucket b) c.args.from c.args.to (Chunk b c.args.page.items) r)) (sym (sym c.receives.ensures ∙ c.in-Ok.is))

pub returns-in-Err-clause-taken : goal.returns-in-Err-clause-taken
returns-in-Err-clause-taken c =
    let s = plain c.args.state.now in
    let b = c.args.bucket in
    sym (λ i. record s { bucket = put_same s.bucket b i })
    ∙ ap (λ r. machine.put_bucket s b (bucket_taking (s.bucket b) c.args.from c.args.to (Chunk b c.args.page.items) r)) (sym (sym c.receives.ensures ∙ c.in-Err.is))
