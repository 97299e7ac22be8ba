-- A move is interrupted, and recovery settles where the bucket is.
use Rattle.std.specs.Prelude.{◌≡◌, ℕ, List, [], ◌∷◌, ◌++◌, Option, Some, None, Result, Ok, Err}
use Rattle.vs_space.specs.declared.status.Status.{Status}
use Rattle.vs_space.specs.declared.status.Status.TheVariants as status
use Rattle.vs_space.specs.declared.reply.RecvFault.TheVariants.{WrongBucket}
use Rattle.vs_event.specs.declared.event.Event.{Event}
use Rattle.vs_event.specs.declared.event.Event.TheVariants.{Start, Freeze, Chunk, Seal, Last, Abort, Deliver, Hear, Close, Ask, Condemn, Forget}
use Rattle.vs_event.specs.declared.reason.Reason.{Reason}
use Rattle.vs_script.specs.declared.command.Command.TheVariants as command
use Rattle.vs_send.specs.declared.abort.AbortCause.TheVariants.{Closed, Receiver}
use Rattle.vs_machine.specs.declared.outcome.CommandOutcome.{CommandOutcome}
use Rattle.vs_machine.specs.declared.outcome.CommandOutcome.TheVariants.{Aborted}
use Rattle.vs_machine.specs.State.{State}
use Rattle.vs_machine.specs.Step.{run}
use Rattle.vs_machine.specs.Worked.Cluster.{start_with, move_3}

-- the entries of bucket 3 at both sets, and what an operator's commands were answered
abbrev entries_in : Result State Reason → Option Status × Option Status
entries_in (Ok s) = ((s.bucket 3).entry 1, (s.bucket 3).entry 2)
entries_in (Err r) = (None, None)

abbrev answers_in : ℕ → Result State Reason → List CommandOutcome
answers_in o (Ok s) = (s.operator o).answered
answers_in o (Err r) = []

abbrev sender_and_closer : State
sender_and_closer = start_with [] ((command.Send 3 1 2 ∷ []) ∷ (command.Close 1 2 ∷ []) ∷ [])

abbrev asked_by_2 : List Event
asked_by_2 = Ask 2 3 ∷ Deliver 2 1 ∷ Hear 2 1 ∷ []

abbrev copied : List Event
copied = Start 1 ∷ Freeze 1 3 ∷ Chunk 1 3 ∷ Deliver 1 2 ∷ []

-- the answer to the rows is lost: the receiver throws the bucket away, and the sender has it again
abbrev thrown_away : List Event
thrown_away = copied ++ Close 2 ∷ Abort 1 3 ∷ asked_by_2

pub record Back : Type 0 where
  pub garbage : entries_in (run sender_and_closer thrown_away) ≡ (Some (status.Sending 2), Some status.Garbage)
  pub aborted : answers_in 1 (run sender_and_closer thrown_away) ≡ Aborted Closed ∷ []
  pub active : entries_in (run sender_and_closer (thrown_away ++ Forget 2 3 ∷ Ask 1 3 ∷ Deliver 1 2 ∷ Hear 1 2 ∷ [])) ≡ (Some status.Active, None)

-- the last message is lost: the receiver has the bucket
abbrev handed_over : List Event
handed_over = copied ++ Hear 1 2 ∷ Seal 1 3 ∷ Last 1 3 ∷ Close 2 ∷ Abort 1 3 ∷ []

pub record Forth : Type 0 where
  pub sent : entries_in (run sender_and_closer (handed_over ++ asked_by_2)) ≡ (Some (status.Sent 2), Some status.Active)
  pub forgotten : entries_in (run sender_and_closer (handed_over ++ Condemn 1 3 ∷ Forget 1 3 ∷ asked_by_2)) ≡ (None, Some status.Active)

-- the bucket is to be moved back to a set that still has it as sent
abbrev moved_back : List Event
moved_back = move_3 ++ Start 2 ∷ Freeze 2 3 ∷ Chunk 2 3 ∷ Deliver 2 1 ∷ Hear 2 1 ∷ Abort 2 3 ∷ []

abbrev two_senders : State
two_senders = start_with [] ((command.Send 3 1 2 ∷ []) ∷ (command.Send 3 2 1 ∷ []) ∷ [])

pub record Refused : Type 0 where
  pub aborted : answers_in 2 (run two_senders moved_back) ≡ Aborted (Receiver (WrongBucket (Some (status.Sent 2)))) ∷ []
  pub active : entries_in (run two_senders (moved_back ++ asked_by_2)) ≡ (Some (status.Sent 2), Some status.Active)
