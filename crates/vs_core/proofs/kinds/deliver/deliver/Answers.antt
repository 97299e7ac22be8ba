use Rattle.std.proofs.Common.{◌≡◌, Ok, sym, ap, subst, ◌∙◌}
use Rattle.std.specs.Prelude.{option_map}
use Rattle.vs_link.specs.Connection.{bucket_of, message, sent, with_reply, without_call}
use Rattle.vs_link.specs.declared.message.Heard.{Heard}
use Rattle.vs_machine.specs.State as machine
use Rattle.vs_machine.specs.Tables.{put, put_at}
use Rattle.vs_state.specs.Plain.{plain}
use Rattle.vs_state.specs.Sized.{OnlyItsBuckets}
use Rattle.vs_core.specs.Delivering.{HasItsBucket, bucket_by, reply_to}
use Rattle.vs_core.proofs.Delivering.{answers_after, deliver_is, delivered, its_bucket, same_bucket, same_reply, still_its, still_ready}
use Rattle.vs_core.proofs.kinds.deliver.deliver.Goals as goal

pub take_message-reply-requires-clause-bucket : goal.take_message-reply-requires-clause-bucket
take_message-reply-requires-clause-bucket c =
    let s = plain c.args.state.now in
    let x = c.args.from in
    let y = c.args.to in
    let m = message c.in-Some.posted.msg in
    let head = sym c.take_call.ensures.first ∙ ap (option_map sent) c.in-Some.is in
    subst (λ (n : machine.State). HasItsBucket n m) (sym c.in-Some.ensures.taken) (still_its s x y (without_call (s.link x y)) m (its_bucket s x y c.requires.possible (sent c.in-Some.posted) head c.requires.known))

pub take_message-reply-requires-clause-buckets : goal.take_message-reply-requires-clause-buckets
take_message-reply-requires-clause-buckets c = subst OnlyItsBuckets (sym c.in-Some.ensures.taken) c.requires.known.whole.known

pub take_message-reply-requires-clause-ready : goal.take_message-reply-requires-clause-ready
take_message-reply-requires-clause-ready c =
    let s = plain c.args.state.now in
    let x = c.args.from in
    let y = c.args.to in
    let head = sym c.take_call.ensures.first ∙ ap (option_map sent) c.in-Some.is in
    still_ready c.args.state.now c.take_call.new.state x y x y (without_call (s.link x y)) (message c.in-Some.posted.msg) c.in-Some.ensures.taken c.take_call.ensures.sets (c.requires.ready (sent c.in-Some.posted) head)

pub returns-clause-step : goal.returns-clause-step
returns-clause-step c =
    let s = plain c.args.state.now in
    let x = c.args.from in
    let y = c.args.to in
    let n = c.in-Some.posted.sync in
    let m = message c.in-Some.posted.msg in
    let b = bucket_of m in
    let l = without_call (s.link x y) in
    let heard : Heard = record { sync = n; bucket = c.bucket_of-bucket.result; reply = c.take_message-reply.result } in
    let head = sym c.take_call.ensures.first ∙ ap (option_map sent) c.in-Some.is in
    let reply : c.take_message-reply.result ≡ reply_to s x y m =
    c.take_message-reply.ensures.reply ∙ ap (λ (w : machine.State). reply_to w x y m) c.in-Some.ensures.taken ∙ same_reply s x y x y l m in
    let taken : plain c.take_message-reply.new.state ≡ machine.put_bucket (machine.put_link s x y l) b (bucket_by s x y m) =
    c.take_message-reply.ensures.taken
    ∙ ap (λ (w : machine.State). machine.put_bucket w b (bucket_by w x y m)) c.in-Some.ensures.taken
    ∙ ap (machine.put_bucket (machine.put_link s x y l) b) (same_bucket s x y x y l m) in
    deliver_is s x y c.requires.possible (sent c.in-Some.posted) head
    ∙ ap Ok (delivered s x y n m)
    ∙ ap Ok (sym (
    c.answer_call.ensures.answered
    ∙ ap (λ (w : machine.State). machine.put_link w x y (with_reply (w.link x y) heard)) taken
    ∙ answers_after s x y b l (bucket_by s x y m) heard
    ∙ (λ i. record s { bucket = put s.bucket b (bucket_by s x y m); link = put_at s.link x y (with_reply l (record { sync = n; bucket = c.bucket_of-bucket.ensures i; reply = reply i })) })
    ))
