use Rattle.std.proofs.Common.{sym, ap, ◌∙◌}
use Rattle.vs_machine.specs.State as machine
use Rattle.vs_machine.specs.Kinds.Connections.{bucket_hearing}
use Rattle.vs_state.specs.Plain.{plain}
use Rattle.vs_core.proofs.Hearing.{moved_bucket, turn_is}
use Rattle.vs_core.proofs.kinds.hear.hear_reply.Goals as goal

pub hear-requires-clause-bucket : goal.hear-requires-clause-bucket
hear-requires-clause-bucket c = moved_bucket (plain c.args.state.now) c.requires.known c.args.set c.args.heard.now.bucket

pub returns-in-State-clause-heard : goal.returns-in-State-clause-heard
returns-in-State-clause-heard c =
    let s = plain c.args.state.now in
    let b = c.args.heard.now.bucket in
    c.hear_answer.ensures.recovered
    ∙ ap (λ r. machine.put_bucket s b (bucket_hearing (s.bucket b) (s.link c.args.set c.args.from).epoch c.args.set c.args.from c.args.heard.now r)) (sym c.in-State.is)

pub returns-in-Took-clause-heard : goal.returns-in-Took-clause-heard
returns-in-Took-clause-heard c =
    let s = plain c.args.state.now in
    let b = c.args.heard.now.bucket in
    c.hear.ensures.heard ∙ ap (machine.put_bucket s b) (sym (turn_is (s.bucket b) (s.link c.args.set c.args.from).epoch c.args.set c.args.from c.args.heard.now c.args.heard.now.reply c.in-Took.is))
