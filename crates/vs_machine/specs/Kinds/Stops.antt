-- A set goes down, and is up again: stop, fault, restart.
use Rattle.std.specs.Prelude.{ℕ, ◌==◌, ◌-◌, ◌^◌, ◌||◌, ◌&&◌, not, nat_lt, min, Bool, true, false, if◌then◌else◌, length, Option, Some, None, is_some, Result, Ok}
use Rattle.std.specs.Option.{option_and_then, option_map}
use Rattle.vs_base.specs.declared.numbers.Mode.{Mode}
use Rattle.vs_base.specs.declared.numbers.Mode.TheVariants.{Ro, Rw}
use Rattle.vs_space.specs.declared.status.Status.{Status}
use Rattle.vs_space.specs.declared.status.Status.TheVariants.{Active, Sending, Sent, Garbage}
use Rattle.vs_space.specs.declared.reply.Reply.{Reply}
use Rattle.vs_space.specs.declared.reply.Reply.TheVariants as reply
use Rattle.vs_space.specs.declared.reply.RecvFault.{RecvFault}
use Rattle.vs_event.specs.declared.reason.Reason.{Reason}
use Rattle.vs_event.specs.declared.reason.Reason.TheVariants as reason
use Rattle.vs_event.specs.declared.event.Recorded.{Recorded}
use Rattle.vs_event.specs.declared.event.Recorded.TheVariants as recorded
use Rattle.vs_event.specs.declared.event.RestartBy.{RestartBy}
use Rattle.vs_event.specs.declared.event.RestartBy.TheVariants.{Line, Service}
use Rattle.vs_calls.specs.Progress.{lost, is_at_set}
use Rattle.vs_script.specs.Calls.{Call}
use Rattle.vs_script.specs.declared.command.Command.{Command}
use Rattle.vs_script.specs.declared.command.Command.TheVariants as command
use Rattle.vs_history.specs.History.{write_count}
use Rattle.vs_link.specs.Connection.{Connection, Message, Chunk, Last, Stat, unused, closed}
use Rattle.vs_link.specs.declared.message.Heard.{Heard}
use Rattle.vs_recv.specs.declared.took.Took.{Took}
use Rattle.vs_recover.specs.declared.decision.Decision.{Decision}
use Rattle.vs_recover.specs.declared.decision.Decision.TheVariants.{Stay, ToActive, ToGarbage}
use Rattle.vs_record.specs.Change as changes
use Rattle.vs_record.specs.Change.{Change, bucket_of}
use Rattle.vs_send.specs.declared.abort.AbortCause.TheVariants.{Stopped}
use Rattle.vs_machine.specs.declared.outcome.CommandOutcome.TheVariants.{Done, WasDown, WasUp, Aborted}
use Rattle.vs_machine.specs.Check.{◌>>=◌, ◌>>◌, needs, wants}
use Rattle.vs_machine.specs.Tables.{put, count_to}
use Rattle.vs_machine.specs.State.{State, Bucket, Client, Operator, has_set, has_bucket, has_client, has_operator, is_link, next_call, next_command, call_id, answer, is_set, put_operator, with_progress, with_entry, put_rows}
use Rattle.vs_machine.specs.Kinds.Calls.{act, bucket_after}
use Rattle.vs_machine.specs.Kinds.Sender.{freeze, seal, move_of, Move}
use Rattle.vs_machine.specs.Kinds.Connections.{deliver, hear, first_call, first_reply, received_at, counts_at, decision_by, with_page}
use Rattle.vs_machine.specs.Kinds.Collection.{condemn, wipe, forget}
use Rattle.vs_machine.specs.Kinds.Pinning.{pin, pinning_of, pinning_fault, Pinning}
use Rattle.std.specs.Prelude.{drop}

-- ---- a set goes down

-- a call that is at the set is lost
abbrev pub lost_at : ℕ → Client → Client
lost_at x c = if is_at_set c.present.stage && is_set c.present.set x then with_progress c (lost c.present) else c

-- no transfer from the set, and no ask of it
abbrev pub without_work : ℕ → Bucket → Bucket
without_work x b = record b { transfer = put b.transfer x None; ask = put b.ask x None }

-- each connection from it and to it is closed
abbrev pub closed_at : ℕ → ℕ → ℕ → Connection → Connection
closed_at x p q l = if (p == x) || (q == x) then closed l else l

-- a command that moves a bucket from it is answered
abbrev pub is_move_from : ℕ → Option Move → Bool
is_move_from x None = false
is_move_from x (Some m) = m.from == x

abbrev pub stopped_move : ℕ → Operator → Operator
stopped_move x o = if o.moving && is_move_from x (move_of (next_command o)) then answer o (Aborted Stopped) else o

abbrev pub gone_down : State → ℕ → State
gone_down s x = record s {
  up = put s.up x false;
  client = λ c. lost_at x (s.client c);
  operator = λ o. stopped_move x (s.operator o);
  bucket = λ b. without_work x (s.bucket b);
  link = λ p q. if is_link s p q then closed_at x p q (s.link p q) else unused;
}

-- ---- stop

abbrev pub set_to_stop : Option Command → Option ℕ
set_to_stop (Some (command.Stop x)) = Some x
set_to_stop other = None

abbrev pub after_stop : State → ℕ → ℕ → State
after_stop s o x =
    if s.up x then put_operator (gone_down s x) o (answer (s.operator o) Done)
    else put_operator s o (answer (s.operator o) WasDown)

abbrev pub stop : State → ℕ → Result State Reason
stop s o = do
  needs (has_operator s o) reason.Unknown
  x ← wants (set_to_stop (next_command (s.operator o))) reason.NoCommand
  Ok (after_stop s o x)

-- ---- what an event writes to a journal

-- the set and the change
pub record Recording : Type 0 where
  pub at : ℕ
  pub change : Change

abbrev pub recording : ℕ → Change → Option Recording
recording x change = Some (record { at = x; change = change })

-- a call writes where it is a write
abbrev pub write_of : Client → ℕ → Option Call → Option ℕ → Option Recording
write_of client c (Some k) (Some x) = by_mode k.mode
  where
    by_mode : Mode → Option Recording
    by_mode Ro = None
    by_mode Rw = recording x (changes.Write (call_id c client) k.bucket k.ops)
write_of client c k x = None

abbrev pub dest_at : State → ℕ → ℕ → Option ℕ
dest_at s x b = option_map (λ t. t.dest) ((s.bucket b).transfer x)

-- a message writes where it is taken
abbrev pub taking_of : ℕ → ℕ → Message → Result Took RecvFault → Option Recording
taking_of x y (Chunk b page) (Ok took) = recording y (changes.AddRows b x page)
taking_of x y (Last b) (Ok took) = recording y (changes.SetStatus b Active)
taking_of x y m r = None

abbrev pub message_recording : State → ℕ → ℕ → Message → Option Recording
message_recording s x y (Chunk b page) = taking_of x y (Chunk b page) (received_at s x y b false)
message_recording s x y (Last b) = taking_of x y (Last b) (received_at s x y b true)
message_recording s x y (Stat b) = None

-- an answer writes where it decides
abbrev pub decision_recording : ℕ → ℕ → Decision → Option Recording
decision_recording x b Stay = None
decision_recording x b ToActive = recording x (changes.SetStatus b Active)
decision_recording x b ToGarbage = recording x (changes.SetStatus b Garbage)

abbrev pub reply_recording : State → ℕ → ℕ → Heard → Reply → Option Recording
reply_recording s x y heard (reply.State remote live) =
    let b = s.bucket heard.bucket in
    if counts_at b (s.link x y).epoch x y heard.sync then decision_recording x heard.bucket (decision_by (b.entry x) remote live) else None
reply_recording s x y heard r = None

abbrev pub pin_recording : State → Pinning → Option Recording
pin_recording s p = if is_some (pinning_fault s p p.status) then None else recording p.at (changes.SetStatus p.bucket p.status)

-- the change that an event which is possible writes, and at which set
abbrev pub recording_of : State → Recorded → Option Recording
recording_of s (recorded.Act c) = write_of (s.client c) c (next_call (s.client c)) (s.client c).present.set
recording_of s (recorded.Freeze x b) = option_and_then (λ d. recording x (changes.SetStatus b (Sending d))) (dest_at s x b)
recording_of s (recorded.Seal x b) = option_and_then (λ d. recording x (changes.SetStatus b (Sent d))) (dest_at s x b)
recording_of s (recorded.Deliver x y) = option_and_then (λ sent. message_recording s x y sent.message) (first_call s x y)
recording_of s (recorded.Hear x y) = option_and_then (λ heard. reply_recording s x y heard heard.reply) (first_reply s x y)
recording_of s (recorded.Condemn x b) = recording x (changes.SetStatus b Garbage)
recording_of s (recorded.Wipe x b) = recording x (changes.Wipe b (min 1000 (length ((s.bucket b).rows x))))
recording_of s (recorded.Forget x b) = recording x (changes.Forget b)
recording_of s (recorded.Pin o) = option_and_then (pin_recording s) (pinning_of (next_command (s.operator o)))

-- the event that is recorded, by itself
abbrev pub recorded_step : State → Recorded → Result State Reason
recorded_step s (recorded.Act c) = act s c
recorded_step s (recorded.Freeze x b) = freeze s x b
recorded_step s (recorded.Seal x b) = seal s x b
recorded_step s (recorded.Deliver x y) = deliver s x y
recorded_step s (recorded.Hear x y) = hear s x y
recorded_step s (recorded.Condemn x b) = condemn s x b
recorded_step s (recorded.Wipe x b) = wipe s x b
recorded_step s (recorded.Forget x b) = forget s x b
recorded_step s (recorded.Pin o) = pin s o

abbrev pub has_recorded : State → Recorded → Bool
has_recorded s (recorded.Act c) = has_client s c
has_recorded s (recorded.Freeze x b) = has_set s x && has_bucket s b
has_recorded s (recorded.Seal x b) = has_set s x && has_bucket s b
has_recorded s (recorded.Deliver x y) = has_set s x && has_set s y
has_recorded s (recorded.Hear x y) = has_set s x && has_set s y
has_recorded s (recorded.Condemn x b) = has_set s x && has_bucket s b
has_recorded s (recorded.Wipe x b) = has_set s x && has_bucket s b
has_recorded s (recorded.Forget x b) = has_set s x && has_bucket s b
has_recorded s (recorded.Pin o) = has_operator s o

-- ---- fault

-- fault numbers rise, and end at 2^64 - 1
abbrev pub is_next_fault : ℕ → ℕ → Bool
is_next_fault old n = nat_lt old n || ((old == 2 ^ 64 - 1) && (n == 2 ^ 64 - 1))

abbrev pub after_fault : State → ℕ → ℕ → Change → State
after_fault s x n change =
    let down = gone_down s x in
    record down { pending = put s.pending x (Some change); last_fault = put s.last_fault x n }

abbrev pub fault : State → ℕ → ℕ → Recorded → Result State Reason
fault s x n e = do
  needs (has_set s x && has_recorded s e) reason.Unknown
  needs (s.up x) (reason.Down x)
  needs (is_next_fault (s.last_fault x) n) (reason.FaultNumber (s.last_fault x))
  next ← recorded_step s e
  r ← wants (recording_of s e) reason.NoRecord
  needs (r.at == x) reason.NoRecord
  Ok (after_fault s x n r.change)

-- ---- restart

-- the bucket with this status at set x; where it is sent the place of its rows is kept
abbrev pub with_status : Bucket → ℕ → Status → Bucket
with_status b x (Sent d) = record b { entry = put b.entry x (Some (Sent d)); kept = put b.kept x (write_count b.history) }
with_status b x st = with_entry b x (Some st)

-- the bucket once the change of set x took effect
abbrev pub with_change : Bucket → ℕ → Change → Bucket
with_change b x (changes.SetStatus _ st) = with_status b x st
with_change b x (changes.AddRows _ z page) = with_page b z x page
with_change b x (changes.Write id _ ops) = bucket_after b x id Rw ops
with_change b x (changes.Wipe _ n) = put_rows b x (drop n (b.rows x))
with_change b x (changes.Forget _) = with_entry b x None

abbrev pub up_again : State → ℕ → State
up_again s x = record s { up = put s.up x true; pending = put s.pending x None }

abbrev pub kept_at : State → ℕ → Change → State
kept_at s x change =
    let b = bucket_of change in
    let again = up_again s x in
    record again { bucket = put s.bucket b (with_change (s.bucket b) x change) }

-- where the change is kept it takes effect
abbrev pub restarted : State → ℕ → Bool → Option Change → State
restarted s x true (Some change) = kept_at s x change
restarted s x kept pending = up_again s x

-- a set that is up has no pending change
abbrev pub pending_at : State → ℕ → Option Change
pending_at s x = if s.up x then None else s.pending x

abbrev pub set_to_restart : Option Command → Option ℕ
set_to_restart (Some (command.Restart x)) = Some x
set_to_restart other = None

abbrev pub is_restart_of : Option Command → ℕ → Bool
is_restart_of c x = is_set (set_to_restart c) x

-- every client and every operator is answered
abbrev pub is_client_done : Client → Bool
is_client_done c = length c.script == length c.answered

abbrev pub is_operator_done : Operator → Bool
is_operator_done o = length o.script == length o.answered

abbrev pub is_finished : State → Bool
is_finished s =
    (count_to (λ c. is_client_done (s.client c)) s.clients == s.clients)
    && (count_to (λ o. is_operator_done (s.operator o)) s.operators == s.operators)

-- a bare restart is always there, a kept one where a change is pending
abbrev pub may_keep : State → ℕ → Bool → Bool
may_keep s x kept = not kept || is_some (pending_at s x)

abbrev pub after_restart : State → ℕ → Bool → ℕ → State
after_restart s x kept o =
    if s.up x then put_operator s o (answer (s.operator o) WasUp)
    else put_operator (restarted s x kept (s.pending x)) o (answer (s.operator o) Done)

abbrev pub restart : State → ℕ → Bool → RestartBy → Result State Reason
restart s x kept (Line o) = do
  needs (has_set s x && has_operator s o) reason.Unknown
  needs (is_restart_of (next_command (s.operator o)) x) reason.NoCommand
  needs (may_keep s x kept) reason.NoPending
  Ok (after_restart s x kept o)
restart s x kept Service = do
  needs (has_set s x) reason.Unknown
  needs (not (s.up x)) (reason.Up x)
  needs (is_some (s.pending x) || is_finished s) reason.NotFinished
  needs (may_keep s x kept) reason.NoPending
  Ok (restarted s x kept (s.pending x))
