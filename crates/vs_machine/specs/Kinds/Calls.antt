-- What a client does with its call: post, begin, act, end, take; and cut, by which an operator gives one up.
use Rattle.std.specs.Prelude.{ℕ, ◌+◌, ◌==◌, ◌&&◌, ◌||◌, not, nat_lt, nat_le, Bool, if◌then◌else◌, List, [], ◌∷◌, ◌++◌, length, Option, Some, None, Result, Ok}
use Rattle.vs_base.specs.declared.numbers.CallId.{CallId}
use Rattle.vs_base.specs.declared.numbers.Mode.{Mode}
use Rattle.vs_base.specs.declared.numbers.Mode.TheVariants.{Ro, Rw}
use Rattle.vs_space.specs.declared.status.Status.{Status}
use Rattle.vs_space.specs.declared.status.Status.TheVariants.{Sent}
use Rattle.vs_space.specs.declared.status.Cause.TheVariants.{Down}
use Rattle.vs_space.specs.declared.status.Verdict.{Verdict}
use Rattle.vs_space.specs.declared.status.Verdict.TheVariants.{Refused}
use Rattle.vs_space.specs.Verdict.{verdict_of}
use Rattle.vs_event.specs.declared.reason.Reason.{Reason}
use Rattle.vs_event.specs.declared.reason.Reason.TheVariants as reason
use Rattle.vs_rows.specs.declared.op.Op.{Op}
use Rattle.vs_rows.specs.Operations.{answers_to, rows_after}
use Rattle.vs_calls.specs.Progress.{posted, begun, acted, ended, cut, outcome_of, taken, may_post, is_posted, is_running, is_acted, is_refused, is_idle, is_over}
use Rattle.vs_script.specs.Calls.{Call}
use Rattle.vs_script.specs.declared.command.Command.{Command}
use Rattle.vs_script.specs.declared.command.Command.TheVariants.{Cut}
use Rattle.vs_history.specs.History.{write_count, with_write, with_read}
use Rattle.vs_machine.specs.declared.outcome.CommandOutcome.TheVariants.{Done, Late}
use Rattle.vs_machine.specs.Check.{◌>>=◌, ◌>>◌, needs, wants}
use Rattle.vs_machine.specs.Tables.{put}
use Rattle.vs_machine.specs.State.{State, Bucket, Client, has_client, has_set, has_operator, next_call, next_command, call_id, answer, is_draining, put_client, put_operator, with_progress}

-- ---- post

abbrev pub after_post : State → ℕ → ℕ → Call → State
after_post s c x k =
    let old = s.client c in
    put_client s c (with_progress old (posted old.present x (write_count (s.bucket k.bucket).history)))

abbrev pub post : State → ℕ → ℕ → Result State Reason
post s c x = do
  needs (has_client s c && has_set s x) reason.Unknown
  k ← wants (next_call (s.client c)) reason.NoCommand
  needs (may_post (s.client c).present.stage) reason.Stage
  needs (nat_lt (s.client c).present.tries 128) reason.TriesSpent
  Ok (after_post s c x k)

-- ---- begin

-- what the set answers: its verdict, or that it is down
abbrev pub verdict_at : State → ℕ → Call → Verdict
verdict_at s x k =
    let b = s.bucket k.bucket in
    if s.up x then verdict_of (b.entry x) (is_draining (b.transfer x)) k.mode else Refused Down

abbrev pub after_begin : State → ℕ → Call → ℕ → State
after_begin s c k x =
    let old = s.client c in
    put_client s c (with_progress old (begun old.present (verdict_at s x k)))

abbrev pub begin : State → ℕ → Result State Reason
begin s c = do
  needs (has_client s c) reason.Unknown
  needs (is_posted (s.client c).present.stage) reason.Stage
  k ← wants (next_call (s.client c)) reason.Stage
  x ← wants (s.client c).present.set reason.Stage
  Ok (after_begin s c k x)

-- ---- act

-- the place of the rows at a set: where the bucket was sent, the one that was kept then
abbrev pub place_by : Bucket → ℕ → Option Status → ℕ
place_by b x (Some (Sent d)) = b.kept x
place_by b x e = write_count b.history

-- a write has the next place, a read that of the rows
abbrev pub place_of : Bucket → ℕ → Mode → ℕ
place_of b x Ro = place_by b x (b.entry x)
place_of b x Rw = write_count b.history + 1

-- the bucket once the call ran at set x
abbrev pub bucket_after : Bucket → ℕ → CallId → Mode → List Op → Bucket
bucket_after b x id Ro ops =
    record b { history = with_read b.history id ops (answers_to (b.rows x) ops) (place_of b x Ro) }
bucket_after b x id Rw ops =
    record b { rows = put b.rows x (rows_after (b.rows x) ops); history = with_write b.history id ops (answers_to (b.rows x) ops) }

abbrev pub after_act : State → ℕ → Call → ℕ → State
after_act s c k x =
    let old = s.client c in
    let b = s.bucket k.bucket in
    record s {
      client = put s.client c (with_progress old (acted old.present (place_of b x k.mode) (answers_to (b.rows x) k.ops)));
      bucket = put s.bucket k.bucket (bucket_after b x (call_id c old) k.mode k.ops);
    }

abbrev pub act : State → ℕ → Result State Reason
act s c = do
  needs (has_client s c) reason.Unknown
  needs (is_running (s.client c).present.stage) reason.Stage
  k ← wants (next_call (s.client c)) reason.Stage
  x ← wants (s.client c).present.set reason.Stage
  Ok (after_act s c k x)

-- ---- end

abbrev pub after_end : State → ℕ → State
after_end s c = let old = s.client c in put_client s c (with_progress old (ended old.present))

abbrev pub «end» : State → ℕ → Result State Reason
«end» s c = do
  needs (has_client s c) reason.Unknown
  needs (is_acted (s.client c).present.stage) reason.Stage
  Ok (after_end s c)

-- ---- take

abbrev pub after_take : State → ℕ → State
after_take s c =
    let old = s.client c in
    put_client s c (record old { answered = old.answered ++ outcome_of old.present ∷ []; present = taken old.present })

abbrev pub take : State → ℕ → Result State Reason
take s c = do
  needs (has_client s c) reason.Unknown
  needs (not (is_refused (s.client c).present.stage) || nat_le 128 (s.client c).present.tries) reason.TriesLeft
  needs (is_refused (s.client c).present.stage || is_over (s.client c).present.stage) reason.Stage
  Ok (after_take s c)

-- ---- cut

-- the client and the number of the call that is to be cut
abbrev pub call_to_cut : Option Command → Option (ℕ × ℕ)
call_to_cut (Some (Cut c n)) = Some (c, n)
call_to_cut command = None

-- the call of this number is answered, or is the present one and was posted
abbrev pub is_answered : Client → ℕ → Bool
is_answered c n = nat_le n (length c.answered)

abbrev pub is_reached : Client → ℕ → Bool
is_reached c n = is_answered c n || ((n == length c.answered + 1) && not (is_idle c.present.stage))

abbrev pub after_cut : State → ℕ → ℕ → ℕ → State
after_cut s o c n =
    let old = s.client c in
    if is_answered old n then put_operator s o (answer (s.operator o) Late)
    else put_operator (put_client s c (with_progress old (cut old.present))) o (answer (s.operator o) Done)

abbrev pub cut_call : State → ℕ → Result State Reason
cut_call s o = do
  needs (has_operator s o) reason.Unknown
  named ← wants (call_to_cut (next_command (s.operator o))) reason.NoCommand
  needs (is_reached (s.client named.0) named.1) reason.NotReached
  Ok (after_cut s o named.0 named.1)
