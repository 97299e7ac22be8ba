-- What a set does to send a bucket away: start, notyet, freeze, chunk, seal, last, abort, endmove.
use Rattle.std.specs.Prelude.{ℕ, ◌+◌, ◌==◌, ◌&&◌, not, nat_lt, Bool, true, false, List, map, Option, Some, None, Result, Ok}
use Rattle.std.specs.List.{last_or}
use Rattle.vs_base.specs.declared.numbers.Mode.TheVariants.{Rw}
use Rattle.vs_rows.specs.RowMap.{RowMap}
use Rattle.vs_rows.specs.Pages.{page_of}
use Rattle.vs_space.specs.declared.status.Status.TheVariants.{Sending, Sent}
use Rattle.vs_event.specs.declared.reason.Reason.{Reason}
use Rattle.vs_event.specs.declared.reason.Reason.TheVariants as reason
use Rattle.vs_link.specs.Connection.{Chunk, Last, with_message}
use Rattle.vs_history.specs.History.{write_count}
use Rattle.vs_script.specs.declared.command.Command as declared_command
use Rattle.vs_script.specs.declared.command.Command.TheVariants.{Send}
use Rattle.vs_send.specs.Phases.{abort_cause_of}
use Rattle.vs_send.specs.declared.abort.AbortCause.{AbortCause}
use Rattle.vs_send.specs.declared.transfer.By.{By}
use Rattle.vs_send.specs.declared.transfer.By.TheVariants.{Command, Haul}
use Rattle.vs_send.specs.declared.transfer.Phase.{Phase}
use Rattle.vs_send.specs.declared.transfer.Phase.TheVariants.{Draining, Ready, Waiting, Copied, Sealed, WaitingLast, Done}
use Rattle.vs_send.specs.declared.transfer.Transfer.{Transfer}
use Rattle.vs_machine.specs.declared.outcome.CommandFault.{CommandFault}
use Rattle.vs_machine.specs.declared.outcome.CommandOutcome.{CommandOutcome}
use Rattle.vs_machine.specs.declared.outcome.CommandOutcome.TheVariants as outcome
use Rattle.vs_machine.specs.Check.{◌>>=◌, ◌>>◌, needs, wants}
use Rattle.vs_machine.specs.Tables.{put, put_at}
use Rattle.vs_machine.specs.State.{State, Bucket, Operator, has_set, has_bucket, has_operator, next_command, answer, references, put_bucket, put_operator, with_transfer}
use Rattle.vs_machine.specs.Kinds.Faults.{send_fault}

-- a transfer in another phase
abbrev pub in_phase : Transfer → Phase → Transfer
in_phase t phase = record t { phase = phase }

abbrev pub put_phase : State → ℕ → ℕ → Transfer → Phase → State
put_phase s x b t phase = put_bucket s b (with_transfer (s.bucket b) x (Some (in_phase t phase)))

-- ---- start

-- the bucket that is to be moved, from which set and to which
pub record Move : Type 0 where
  pub bucket : ℕ
  pub from : ℕ
  pub to : ℕ

abbrev pub move_of : Option declared_command.Command → Option Move
move_of (Some (Send b x d)) = Some (record { bucket = b; from = x; to = d })
move_of command = None

-- a transfer of the bucket from set x to set d begins: it waits for the running writes
abbrev pub with_begun : Bucket → ℕ → ℕ → By → Bucket
with_begun b x d by = with_transfer b x (Some (record { dest = d; by = by; phase = Draining 0 }))

abbrev pub after_start : State → ℕ → Move → Option CommandFault → State
after_start s o m (Some fault) = put_operator s o (answer (s.operator o) (outcome.Refused fault))
after_start s o m None =
    let old = s.operator o in
    put_operator (put_bucket s m.bucket (with_begun (s.bucket m.bucket) m.from m.to (Command o))) o (record old { moving = true })

abbrev pub start : State → ℕ → Result State Reason
start s o = do
  needs (has_operator s o) reason.Unknown
  m ← wants (move_of (next_command (s.operator o))) reason.NoCommand
  needs (not (s.operator o).moving) reason.Stage
  Ok (after_start s o m (send_fault s m.bucket m.from m.to))

-- ---- notyet

abbrev pub turns_of : Phase → Option ℕ
turns_of (Draining n) = Some n
turns_of phase = None

abbrev pub not_yet : State → ℕ → ℕ → Result State Reason
not_yet s x b = do
  needs (has_set s x && has_bucket s b) reason.Unknown
  t ← wants ((s.bucket b).transfer x) reason.NoTransfer
  n ← wants (turns_of t.phase) reason.Stage
  needs (nat_lt 0 (references s Rw x b)) reason.Unreferenced
  needs (nat_lt n 256) reason.TurnsSpent
  Ok (put_phase s x b t (Draining (n + 1)))

-- ---- freeze

abbrev pub after_freeze : State → ℕ → ℕ → Transfer → State
after_freeze s x b t =
    let old = s.bucket b in
    put_bucket s b (record old {
      entry = put old.entry x (Some (Sending t.dest));
      transfer = put old.transfer x (Some (in_phase t (Ready None)));
    })

abbrev pub freeze : State → ℕ → ℕ → Result State Reason
freeze s x b = do
  needs (has_set s x && has_bucket s b) reason.Unknown
  t ← wants ((s.bucket b).transfer x) reason.NoTransfer
  n ← wants (turns_of t.phase) reason.Stage
  needs (references s Rw x b == 0) (reason.Referenced (references s Rw x b))
  Ok (after_freeze s x b t)

-- ---- chunk

-- a transfer that is ready has the last key that was sent, if any
abbrev pub sent_up_to : Phase → Option (Option (List ℕ))
sent_up_to (Ready k) = Some k
sent_up_to phase = None

-- the next rows to be sent, at most 1,000
abbrev pub next_page : RowMap → Option (List ℕ) → RowMap
next_page rows k = page_of rows k 1000

abbrev pub last_key : RowMap → Option (List ℕ)
last_key page = last_or None (map (λ row. row.0) page)

abbrev pub after_chunk : State → ℕ → ℕ → Transfer → Option (List ℕ) → State
after_chunk s x b t k =
    let l = s.link x t.dest in
    let page = next_page ((s.bucket b).rows x) k in
    record s {
      bucket = put s.bucket b (with_transfer (s.bucket b) x (Some (in_phase t (Waiting l.epoch l.next (last_key page)))));
      link = put_at s.link x t.dest (with_message l (Chunk b page));
    }

abbrev pub chunk : State → ℕ → ℕ → Result State Reason
chunk s x b = do
  needs (has_set s x && has_bucket s b) reason.Unknown
  t ← wants ((s.bucket b).transfer x) reason.NoTransfer
  k ← wants (sent_up_to t.phase) reason.Stage
  needs (s.up t.dest) (reason.Down t.dest)
  Ok (after_chunk s x b t k)

-- ---- seal

abbrev pub is_copied : Phase → Bool
is_copied Copied = true
is_copied phase = false

abbrev pub after_seal : State → ℕ → ℕ → Transfer → State
after_seal s x b t =
    let old = s.bucket b in
    put_bucket s b (record old {
      entry = put old.entry x (Some (Sent t.dest));
      kept = put old.kept x (write_count old.history);
      transfer = put old.transfer x (Some (in_phase t Sealed));
    })

abbrev pub seal : State → ℕ → ℕ → Result State Reason
seal s x b = do
  needs (has_set s x && has_bucket s b) reason.Unknown
  t ← wants ((s.bucket b).transfer x) reason.NoTransfer
  needs (is_copied t.phase) reason.Stage
  Ok (after_seal s x b t)

-- ---- last

abbrev pub is_sealed : Phase → Bool
is_sealed Sealed = true
is_sealed phase = false

abbrev pub after_last : State → ℕ → ℕ → Transfer → State
after_last s x b t =
    let l = s.link x t.dest in
    record s {
      bucket = put s.bucket b (with_transfer (s.bucket b) x (Some (in_phase t (WaitingLast l.epoch l.next))));
      link = put_at s.link x t.dest (with_message l (Last b));
    }

abbrev pub last : State → ℕ → ℕ → Result State Reason
last s x b = do
  needs (has_set s x && has_bucket s b) reason.Unknown
  t ← wants ((s.bucket b).transfer x) reason.NoTransfer
  needs (is_sealed t.phase) reason.Stage
  needs (s.up t.dest) (reason.Down t.dest)
  Ok (after_last s x b t)

-- ---- abort, endmove

-- the transfer's command is answered; a haul has none
abbrev pub answered_by : By → (ℕ → Operator) → CommandOutcome → ℕ → Operator
answered_by (Command o) operators given = put operators o (answer (operators o) given)
answered_by (Haul o) operators given = operators

abbrev pub cause_at : State → ℕ → ℕ → Transfer → Option AbortCause
cause_at s x b t = abort_cause_of t.dest (references s Rw x b) (s.up t.dest) (s.link x t.dest).epoch t.phase

abbrev pub after_abort : State → ℕ → ℕ → Transfer → AbortCause → State
after_abort s x b t cause = record s {
  bucket = put s.bucket b (with_transfer (s.bucket b) x None);
  operator = answered_by t.by s.operator (outcome.Aborted cause);
}

abbrev pub abort : State → ℕ → ℕ → Result State Reason
abort s x b = do
  needs (has_set s x && has_bucket s b) reason.Unknown
  t ← wants ((s.bucket b).transfer x) reason.NoTransfer
  cause ← wants (cause_at s x b t) reason.Standing
  Ok (after_abort s x b t cause)

abbrev pub is_done : Phase → Bool
is_done Done = true
is_done phase = false

-- a haul counts as moved in its round
abbrev pub moved_by : By → (ℕ → Operator) → ℕ → Operator
moved_by (Command o) operators = put operators o (answer (operators o) outcome.Moved)
moved_by (Haul o) operators = let old = operators o in put operators o (record old { moved = old.moved + 1 })

abbrev pub after_end_move : State → ℕ → ℕ → Transfer → State
after_end_move s x b t = record s {
  bucket = put s.bucket b (with_transfer (s.bucket b) x None);
  operator = moved_by t.by s.operator;
}

abbrev pub end_move : State → ℕ → ℕ → Result State Reason
end_move s x b = do
  needs (has_set s x && has_bucket s b) reason.Unknown
  t ← wants ((s.bucket b).transfer x) reason.NoTransfer
  needs (is_done t.phase) reason.Stage
  Ok (after_end_move s x b t)
