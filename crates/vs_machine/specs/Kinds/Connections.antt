-- What goes over a connection: deliver, hear; and close, by which an operator cuts it.
use Rattle.std.specs.Prelude.{ℕ, ◌==◌, ◌&&◌, not, Bool, true, false, if◌then◌else◌, List, [], ◌∷◌, Option, Some, None, is_some, Result, Ok, Err}
use Rattle.vs_rows.specs.RowMap.{RowMap, rows_above, with_rows}
use Rattle.vs_space.specs.declared.reply.Reply.{Reply}
use Rattle.vs_space.specs.declared.reply.Reply.TheVariants as reply
use Rattle.vs_space.specs.declared.status.Status.{Status}
use Rattle.vs_space.specs.declared.status.Status.TheVariants.{Active, Receiving, Garbage, Sending}
use Rattle.vs_space.specs.declared.reply.RecvFault.{RecvFault}
use Rattle.vs_event.specs.declared.reason.Reason.{Reason}
use Rattle.vs_event.specs.declared.reason.Reason.TheVariants as reason
use Rattle.vs_link.specs.Connection.{Connection, Sent, Message, Chunk, Last, Stat, bucket_of, first, without_call, with_reply, without_reply, closed}
use Rattle.vs_link.specs.declared.message.Heard.{Heard}
use Rattle.vs_recv.specs.Receive.{received}
use Rattle.vs_recv.specs.declared.took.Took.{Took}
use Rattle.vs_recover.specs.Decision.{decision_of}
use Rattle.vs_recover.specs.declared.decision.Decision.{Decision}
use Rattle.vs_recover.specs.declared.decision.Decision.TheVariants.{Stay, ToActive, ToGarbage}
use Rattle.vs_script.specs.declared.command.Command.{Command}
use Rattle.vs_script.specs.declared.command.Command.TheVariants.{Close}
use Rattle.vs_send.specs.Phases.{heard_phase}
use Rattle.vs_send.specs.declared.transfer.Phase.{Phase}
use Rattle.vs_send.specs.declared.transfer.Phase.TheVariants.{Waiting}
use Rattle.vs_send.specs.declared.transfer.Transfer.{Transfer}
use Rattle.vs_machine.specs.declared.outcome.CommandOutcome.TheVariants.{Done}
use Rattle.vs_machine.specs.Check.{◌>>=◌, ◌>>◌, needs, wants}
use Rattle.vs_machine.specs.Tables.{put, put_at, count_to}
use Rattle.vs_machine.specs.State.{State, Bucket, Ask, has_set, has_operator, next_command, answer, is_locked, put_operator, put_link, with_transfer, with_ask}
use Rattle.vs_machine.specs.Kinds.Sender.{in_phase}

-- ---- deliver

abbrev pub is_receiving : Option Status → Bool
is_receiving (Some (Receiving x)) = true
is_receiving entry = false

-- how many buckets a set receives
abbrev pub receiving_at : State → ℕ → ℕ
receiving_at s y = count_to (λ b. is_receiving ((s.bucket b).entry y)) s.config.bucket_count

-- what set y answers to a page, or to a last message, of bucket b from set x
abbrev pub received_at : State → ℕ → ℕ → ℕ → Bool → Result Took RecvFault
received_at s x y b is_last = received ((s.bucket b).entry y) (is_locked s y) (receiving_at s y) s.config.max_receiving x is_last

-- the bucket once set y took rows, or the last message, from set x
abbrev pub with_page : Bucket → ℕ → ℕ → RowMap → Bucket
with_page b x y page = record b { entry = put b.entry y (Some (Receiving x)); rows = put b.rows y (with_rows (b.rows y) page) }

abbrev pub with_last : Bucket → ℕ → Bucket
with_last b y = record b { entry = put b.entry y (Some Active); ask = put b.ask y None }

abbrev pub reply_of : Result Took RecvFault → Reply
reply_of (Ok took) = reply.Took
reply_of (Err fault) = reply.Not fault

-- the bucket once the message was taken, where it was
abbrev pub bucket_taking : Bucket → ℕ → ℕ → Message → Result Took RecvFault → Bucket
bucket_taking b x y (Chunk q page) (Ok took) = with_page b x y page
bucket_taking b x y (Last q) (Ok took) = with_last b y
bucket_taking b x y m r = b

-- the message is taken from its line, and its reply is put into the line of replies
abbrev pub answered : Connection → Sent → Reply → Connection
answered l sent r = with_reply (without_call l) (record { sync = sent.sync; bucket = bucket_of sent.message; reply = r })

abbrev pub after_message : State → ℕ → ℕ → Sent → Result Took RecvFault → State
after_message s x y sent r =
    let b = bucket_of sent.message in
    record s {
      bucket = put s.bucket b (bucket_taking (s.bucket b) x y sent.message r);
      link = put_at s.link x y (answered (s.link x y) sent (reply_of r));
    }

-- to a question a set answers the bucket's status, and whether a transfer of it is live
abbrev pub status_at : Bucket → ℕ → Reply
status_at b y = reply.State (b.entry y) (is_some (b.transfer y))

abbrev pub after_deliver : State → ℕ → ℕ → Sent → Message → State
after_deliver s x y sent (Chunk b page) = after_message s x y sent (received_at s x y b false)
after_deliver s x y sent (Last b) = after_message s x y sent (received_at s x y b true)
after_deliver s x y sent (Stat b) = put_link s x y (answered (s.link x y) sent (status_at (s.bucket b) y))

-- a set has no connection to itself
abbrev pub first_call : State → ℕ → ℕ → Option Sent
first_call s x y = if x == y then None else first (s.link x y).calls

abbrev pub deliver : State → ℕ → ℕ → Result State Reason
deliver s x y = do
  needs (has_set s x && has_set s y) reason.Unknown
  sent ← wants (first_call s x y) reason.Empty
  Ok (after_deliver s x y sent sent.message)

-- ---- hear

-- whether rows stand above the last key that was sent
abbrev pub is_null : {A : Type 0} → List A → Bool
is_null [] = true
is_null (x ∷ xs) = false

abbrev pub has_more : RowMap → Phase → Bool
has_more rows (Waiting e n k) = not (is_null (rows_above rows k))
has_more rows phase = false

-- the transfer to set y, once the reply was heard from there
abbrev pub heard_by : Option Transfer → RowMap → ℕ → Heard → Option Transfer
heard_by None rows y heard = None
heard_by (Some t) rows y heard = Some (if t.dest == y then in_phase t (heard_phase t.phase heard.sync heard.reply (has_more rows t.phase)) else t)

-- the set that an entry names, where it can be asked
abbrev pub asked_set : Option Status → Option ℕ
asked_set (Some (Sending d)) = Some d
asked_set (Some (Receiving x)) = Some x
asked_set entry = None

abbrev pub is_set_named : Option ℕ → ℕ → Bool
is_set_named None y = false
is_set_named (Some z) y = z == y

abbrev pub is_ask : Option Ask → ℕ → ℕ → Bool
is_ask None epoch n = false
is_ask (Some a) epoch n = (a.epoch == epoch) && (a.sync == n)

-- an answer counts for the live ask with its number and epoch, heard from the set that was asked
abbrev pub counts_at : Bucket → ℕ → ℕ → ℕ → ℕ → Bool
counts_at b epoch x y n = is_ask (b.ask x) epoch n && is_set_named (asked_set (b.entry x)) y

abbrev pub decision_by : Option Status → Option Status → Bool → Decision
decision_by None remote live = Stay
decision_by (Some local) remote live = decision_of local remote live

-- the bucket once set x decided; its ask has ended
abbrev pub decided : Bucket → ℕ → Decision → Bucket
decided b x Stay = with_ask b x None
decided b x ToActive = record b { entry = put b.entry x (Some Active); ask = put b.ask x None }
decided b x ToGarbage = record b { entry = put b.entry x (Some Garbage); ask = put b.ask x None }

abbrev pub recovered : Bucket → ℕ → ℕ → ℕ → ℕ → Option Status → Bool → Bucket
recovered b epoch x y n remote live = if counts_at b epoch x y n then decided b x (decision_by (b.entry x) remote live) else b

-- the bucket once set x heard the reply from set y
abbrev pub bucket_hearing : Bucket → ℕ → ℕ → ℕ → Heard → Reply → Bucket
bucket_hearing b epoch x y heard (reply.State remote live) = recovered b epoch x y heard.sync remote live
bucket_hearing b epoch x y heard r = with_transfer b x (heard_by (b.transfer x) (b.rows x) y heard)

abbrev pub after_hear : State → ℕ → ℕ → Heard → State
after_hear s x y heard =
    let l = s.link x y in
    record s {
      bucket = put s.bucket heard.bucket (bucket_hearing (s.bucket heard.bucket) l.epoch x y heard heard.reply);
      link = put_at s.link x y (without_reply l);
    }

abbrev pub first_reply : State → ℕ → ℕ → Option Heard
first_reply s x y = if x == y then None else first (s.link x y).replies

abbrev pub hear : State → ℕ → ℕ → Result State Reason
hear s x y = do
  needs (has_set s x && has_set s y) reason.Unknown
  heard ← wants (first_reply s x y) reason.Empty
  Ok (after_hear s x y heard)

-- ---- close

abbrev pub connection_to_close : Option Command → Option (ℕ × ℕ)
connection_to_close (Some (Close x y)) = Some (x, y)
connection_to_close command = None

abbrev pub close : State → ℕ → Result State Reason
close s o = do
  needs (has_operator s o) reason.Unknown
  ends ← wants (connection_to_close (next_command (s.operator o))) reason.NoCommand
  Ok (put_operator (put_link s ends.0 ends.1 (closed (s.link ends.0 ends.1))) o (answer (s.operator o) Done))
