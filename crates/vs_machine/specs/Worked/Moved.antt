-- A bucket is moved, while calls run on it.
use Rattle.std.specs.Prelude.{◌≡◌, List, [], ◌∷◌, ◌++◌, Option, Some, None, Result, Ok, Err, codes}
use Rattle.vs_base.specs.declared.numbers.Mode.TheVariants.{Rw}
use Rattle.vs_rows.specs.declared.op.Op.TheVariants as op
use Rattle.vs_rows.specs.RowMap.{RowMap}
use Rattle.vs_space.specs.declared.status.Cause.{Cause}
use Rattle.vs_space.specs.declared.status.Cause.TheVariants.{TransferInProgress, BucketIsLocked}
use Rattle.vs_event.specs.declared.event.Event.{Event}
use Rattle.vs_event.specs.declared.event.Event.TheVariants.{Post, Begin, Act, End, Take, Start, Freeze, Condemn}
use Rattle.vs_event.specs.declared.reason.Reason.{Reason}
use Rattle.vs_event.specs.declared.reason.Reason.TheVariants.{Referenced}
use Rattle.vs_history.specs.History.{rows_at}
use Rattle.vs_script.specs.Calls.{Call}
use Rattle.vs_script.specs.declared.command.Command.{Command}
use Rattle.vs_script.specs.declared.command.Command.TheVariants.{Send}
use Rattle.vs_machine.specs.State.{State}
use Rattle.vs_machine.specs.Step.{run}
use Rattle.vs_machine.specs.Worked.Cluster.{start_with, move_3, does, put_a, get_a, a, one, report_of, refusal_of}

abbrev send_3 : List (List Command)
send_3 = (Send 3 1 2 ∷ []) ∷ []

-- nothing runs on the bucket
abbrev pub Moved : Type 0
Moved = report_of (run (start_with [] send_3) move_3) ≡ codes "cluster 2 4\nset 1 up 2 0 0 0 1 0\nset 2 up 2 0 0 0 0 0\nbucket 1 1 active\nbucket 2 1 active\nbucket 3 1 sent 2 2 active\nbucket 4 2 active\ncommand 1 1 moved\nend\n"

-- ---- calls that find the bucket in a move

abbrev write_and_read : State
write_and_read = start_with ((put_a ∷ []) ∷ (get_a ∷ []) ∷ []) send_3

abbrev cause_in : Result State Reason → Option Cause
cause_in (Ok s) = (s.client 1).present.cause
cause_in (Err r) = None

-- a write is refused while the bucket drains, and while it is sent; a read is answered
pub record Refused : Type 0 where
  pub draining : cause_in (run write_and_read (Start 1 ∷ Post 1 1 ∷ Begin 1 ∷ [])) ≡ Some BucketIsLocked
  pub sending : cause_in (run write_and_read (Start 1 ∷ Freeze 1 3 ∷ Post 1 1 ∷ Begin 1 ∷ [])) ≡ Some (TransferInProgress 2)
  pub read : refusal_of (run write_and_read (Start 1 ∷ Freeze 1 3 ∷ does 2 1)) ≡ None

-- ---- a read that began before the bucket was sent

abbrev put_a_2 : Call
put_a_2 = record { mode = Rw; bucket = 3; ops = op.Put a (50 ∷ []) ∷ [] }

abbrev reader_and_writer : State
reader_and_writer = start_with ((get_a ∷ []) ∷ (put_a ∷ put_a_2 ∷ []) ∷ []) send_3

abbrev up_to_the_read : List Event
up_to_the_read = does 2 1 ++ Post 1 1 ∷ Begin 1 ∷ move_3 ++ does 2 2

-- the read answers from the rows at the place that was kept
abbrev pub ReadAcross : Type 0
ReadAcross = report_of (run reader_and_writer (up_to_the_read ++ Act 1 ∷ End 1 ∷ Take 1 ∷ [])) ≡ codes "cluster 2 4\nset 1 up 2 0 0 0 1 0\nset 2 up 2 0 0 0 0 0\nbucket 1 1 active\nbucket 2 1 active\nbucket 3 1 sent 2 2 active\nbucket 4 2 active\nhistory 3 0 2 1\nwrite 1 2 1 put a 1 => done\nwrite 2 2 2 put a 2 => done\nread 1 1 1 get a => value 1\ncall 1 1 reply 1 value 1\ncall 2 1 reply 1 done\ncall 2 2 reply 2 done\ncommand 1 1 moved\nend\n"

abbrev rows_of_first : Result State Reason → RowMap
rows_of_first (Ok s) = rows_at (s.bucket 3).history 1
rows_of_first (Err r) = []

-- while the read is held its copy isn't collected
pub record Held : Type 0 where
  pub before : refusal_of (run reader_and_writer (up_to_the_read ++ Condemn 1 3 ∷ [])) ≡ Some (Referenced 1)
  pub after : refusal_of (run reader_and_writer (up_to_the_read ++ Act 1 ∷ End 1 ∷ Condemn 1 3 ∷ [])) ≡ None
  pub rows : rows_of_first (run reader_and_writer up_to_the_read) ≡ (a, one) ∷ []
