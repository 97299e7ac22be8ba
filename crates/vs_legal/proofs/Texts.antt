-- The text of a report is that of its lines of words: words, operations, answers and statuses.
use Rattle.std.proofs.Common.{◌≡◌, ℕ, List, [], ◌∷◌, ◌++◌, Some, None, refl, append_assoc}
use Rattle.std.specs.Prelude.{codes}
use Rattle.std.specs.Fmt.{decimal}
use Rattle.std.specs.List.{flat_map}
use Rattle.vs_rows.specs.RowMap.{RowMap}
use Rattle.vs_rows.specs.Said.{Said, Value, NoValue, Done, Exists, Differs, Number, Pairs}
use Rattle.vs_rows.specs.declared.op.Op.{Op}
use Rattle.vs_rows.specs.declared.op.Op.TheVariants.{Get, Put, Insert, Delete, Swap, Count, Scan}
use Rattle.vs_space.specs.declared.status.Status.{Status}
use Rattle.vs_space.specs.declared.status.Status.TheVariants.{Active, Pinned, Sending, Receiving, Sent, Garbage}
use Rattle.vs_space.specs.declared.status.Cause.{Cause}
use Rattle.vs_space.specs.declared.status.Cause.TheVariants as cause
use Rattle.vs_space.specs.declared.reply.RecvFault.{RecvFault}
use Rattle.vs_space.specs.declared.reply.RecvFault.TheVariants as receiver
use Rattle.vs_send.specs.declared.abort.AbortCause.{AbortCause}
use Rattle.vs_send.specs.declared.abort.AbortCause.TheVariants as abort
use Rattle.vs_machine.specs.declared.outcome.CommandFault.{CommandFault}
use Rattle.vs_machine.specs.declared.outcome.CommandFault.TheVariants as fault
use Rattle.vs_machine.specs.declared.outcome.CommandOutcome.{CommandOutcome}
use Rattle.vs_machine.specs.declared.outcome.CommandOutcome.TheVariants as outcome
use Rattle.vs_machine.specs.Report.{word, joined, op_text, pairs_text, answer_text, ops_text, answers_text, status_text, cause_text, receiver_text, abort_text, fault_text, command_text}
use Rattle.vs_audit.specs.Words.{Words}
use Rattle.vs_legal.proofs.Words.Spelled.{spelled_on}
use Rattle.vs_legal.proofs.Words.Operations.{op_words, ops_words, pairs_words, answer_words, answers_words}
use Rattle.vs_legal.proofs.Words.Statuses.{status_words, cause_words, receiver_words}
use Rattle.vs_legal.proofs.Words.Report.{abort_words, fault_words, command_words}
use Rattle.vs_legal.proofs.Spelled.{append_nil, spelled_append}

op_same : (op : Op) → word (op_text op) ≡ spelled_on (op_words op)
op_same (Get k) = rw (append_nil k) refl
op_same (Put k v) = rw (append_nil v) refl
op_same (Insert k v) = rw (append_nil v) refl
op_same (Delete k) = rw (append_nil k) refl
op_same (Swap k old new) = rw (append_nil new, append_assoc k (codes " " ++ old) (codes " " ++ new)) refl
op_same Count = refl
op_same (Scan k n) = rw (append_nil (decimal n)) refl

pairs_same : (pairs : RowMap) → pairs_text pairs ≡ spelled_on (pairs_words pairs)
pairs_same [] = refl
pairs_same (row ∷ rows) = rw (append_assoc row.0 (codes " " ++ row.1) (pairs_text rows), pairs_same rows) refl

answer_same : (a : Said) → word (answer_text a) ≡ spelled_on (answer_words a)
answer_same (Value v) = rw (append_nil v) refl
answer_same NoValue = refl
answer_same Done = refl
answer_same Exists = refl
answer_same Differs = refl
answer_same (Number n) = rw (append_nil (decimal n)) refl
answer_same (Pairs pairs) = rw (pairs_same pairs) refl

-- texts with marks between them
module _ {A : Type 0} (text : A → List ℕ) (words : A → Words) (same : (x : A) → word (text x) ≡ spelled_on (words x)) where
  more_same : (xs : List A) → flat_map (λ y. codes " ; " ++ text y) xs ≡ spelled_on (flat_map (λ y. codes ";" ∷ words y) xs)
  more_same [] = refl
  more_same (x ∷ xs) = rw (spelled_append (words x) (flat_map (λ y. codes ";" ∷ words y) xs), ← same x, ← more_same xs) refl

  joined_same : (x : A) (xs : List A) → word (joined text (x ∷ xs)) ≡ spelled_on (words x ++ flat_map (λ y. codes ";" ∷ words y) xs)
  joined_same x xs = rw (spelled_append (words x) (flat_map (λ y. codes ";" ∷ words y) xs), ← same x, ← more_same xs) refl

pub ops_same : (op : Op) (ops : List Op) → word (ops_text (op ∷ ops)) ≡ spelled_on (ops_words (op ∷ ops))
ops_same op ops = joined_same op_text op_words op_same op ops

pub answers_same : (a : Said) (given : List Said) → word (answers_text (a ∷ given)) ≡ spelled_on (answers_words (a ∷ given))
answers_same a given = joined_same answer_text answer_words answer_same a given

pub status_same : (s : Status) → word (status_text s) ≡ spelled_on (status_words s)
status_same Active = refl
status_same Pinned = refl
status_same (Sending d) = rw (append_nil (decimal d)) refl
status_same (Receiving x) = rw (append_nil (decimal x)) refl
status_same (Sent d) = rw (append_nil (decimal d)) refl
status_same Garbage = refl

pub cause_same : (c : Cause) → word (cause_text c) ≡ spelled_on (cause_words c)
cause_same (cause.WrongBucket None) = refl
cause_same (cause.WrongBucket (Some d)) = rw (append_nil (decimal d)) refl
cause_same (cause.TransferInProgress d) = rw (append_nil (decimal d)) refl
cause_same cause.BucketIsLocked = refl
cause_same cause.Down = refl

receiver_same : (f : RecvFault) → word (receiver_text f) ≡ spelled_on (receiver_words f)
receiver_same receiver.SetLocked = refl
receiver_same (receiver.TooManyReceiving n) = rw (append_nil (decimal n)) refl
receiver_same (receiver.WrongSender x) = rw (append_nil (decimal x)) refl
receiver_same (receiver.WrongBucket None) = refl
receiver_same (receiver.WrongBucket (Some s)) = rw (← status_same s) refl

abort_same : (c : AbortCause) → word (abort_text c) ≡ spelled_on (abort_words c)
abort_same abort.Drained = refl
abort_same (abort.Receiver f) = receiver_same f
abort_same abort.Closed = refl
abort_same (abort.SetDown x) = rw (append_nil (decimal x)) refl
abort_same abort.Stopped = refl

fault_same : (f : CommandFault) → word (fault_text f) ≡ spelled_on (fault_words f)
fault_same fault.MoveToSelf = refl
fault_same (fault.Down x) = rw (append_nil (decimal x)) refl
fault_same (fault.WrongStatus None) = refl
fault_same (fault.WrongStatus (Some s)) = rw (← status_same s) refl
fault_same fault.Pinned = refl
fault_same (fault.SetLocked x) = rw (append_nil (decimal x)) refl
fault_same fault.BucketIsLocked = refl

pub command_same : (out : CommandOutcome) → word (command_text out) ≡ spelled_on (command_words out)
command_same outcome.Moved = refl
command_same outcome.Done = refl
command_same outcome.Late = refl
command_same outcome.WasDown = refl
command_same outcome.WasUp = refl
command_same (outcome.Balanced rounds) = rw (append_nil (decimal rounds)) refl
command_same (outcome.Stuck rounds) = rw (append_nil (decimal rounds)) refl
command_same (outcome.Refused f) = rw (← fault_same f) refl
command_same (outcome.Aborted c) = rw (← abort_same c) refl
