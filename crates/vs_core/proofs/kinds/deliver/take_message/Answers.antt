use Rattle.std.proofs.Common.{sym, ap, subst, ◌∙◌}
use Rattle.vs_link.specs.Connection.{bucket_of, message}
use Rattle.vs_link.specs.declared.message.Msg.{Msg}
use Rattle.vs_machine.specs.State as machine
use Rattle.vs_state.specs.Plain.{plain}
use Rattle.vs_core.specs.Delivering.{HasItsBucket, IsMessageReady, bucket_by, reply_to}
use Rattle.vs_core.proofs.Frame.{put_same}
use Rattle.vs_core.proofs.kinds.deliver.take_message.Goals as goal

pub take_rows-requires-clause-bucket : goal.take_rows-requires-clause-bucket
take_rows-requires-clause-bucket c = subst (λ (m : Msg). HasItsBucket (plain c.args.state.now) (message m)) c.in-Chunk.is c.requires.bucket

pub take_rows-requires-clause-room : goal.take_rows-requires-clause-room
take_rows-requires-clause-room c = subst (λ (m : Msg). IsMessageReady c.args.state.now c.args.from c.args.to (message m)) c.in-Chunk.is c.requires.ready

pub take_last-requires-clause-bucket : goal.take_last-requires-clause-bucket
take_last-requires-clause-bucket c = subst (λ (m : Msg). HasItsBucket (plain c.args.state.now) (message m)) c.in-Last.is c.requires.bucket

pub returns-in-Chunk-clause-reply : goal.returns-in-Chunk-clause-reply
returns-in-Chunk-clause-reply c = c.take_rows.ensures.reply ∙ ap (λ (m : Msg). reply_to (plain c.args.state.now) c.args.from c.args.to (message m)) (sym c.in-Chunk.is)

pub returns-in-Last-clause-reply : goal.returns-in-Last-clause-reply
returns-in-Last-clause-reply c = c.take_last.ensures.reply ∙ ap (λ (m : Msg). reply_to (plain c.args.state.now) c.args.from c.args.to (message m)) (sym c.in-Last.is)

pub returns-in-Stat-clause-reply : goal.returns-in-Stat-clause-reply
returns-in-Stat-clause-reply c = c.status_at.ensures ∙ ap (λ (m : Msg). reply_to (plain c.args.state.now) c.args.from c.args.to (message m)) (sym c.in-Stat.is)

pub returns-in-Chunk-clause-taken : goal.returns-in-Chunk-clause-taken
returns-in-Chunk-clause-taken c =
    let s = plain c.args.state.now in
    c.take_rows.ensures.taken ∙ ap (λ (m : Msg). machine.put_bucket s (bucket_of (message m)) (bucket_by s c.args.from c.args.to (message m))) (sym c.in-Chunk.is)

pub returns-in-Last-clause-taken : goal.returns-in-Last-clause-taken
returns-in-Last-clause-taken c =
    let s = plain c.args.state.now in
    c.take_last.ensures.taken ∙ ap (λ (m : Msg). machine.put_bucket s (bucket_of (message m)) (bucket_by s c.args.from c.args.to (message m))) (sym c.in-Last.is)

pub returns-in-Stat-clause-taken : goal.returns-in-Stat-clause-taken
returns-in-Stat-clause-taken c =
    let s = plain c.args.state.now in
    sym (λ i. record s { bucket = put_same s.bucket c.in-Stat.bucket i })
    ∙ ap (λ (m : Msg). machine.put_bucket s (bucket_of (message m)) (bucket_by s c.args.from c.args.to (message m))) (sym c.in-Stat.is)
