-- Commands, and why they are refused.
use Rattle.std.specs.Prelude.{◌≡◌, ℕ, ◌==◌, List, [], ◌∷◌, None, Result, Ok, Err}
use Rattle.vs_space.specs.declared.reply.RecvFault.TheVariants as receiver
use Rattle.vs_event.specs.declared.event.Event.{Event}
use Rattle.vs_event.specs.declared.event.Event.TheVariants.{Start, Freeze, Chunk, Abort, Deliver, Hear, Pin, Plan, Stop}
use Rattle.vs_event.specs.declared.reason.Reason.{Reason}
use Rattle.vs_config.specs.Configuration.{Configuration}
use Rattle.vs_script.specs.declared.command.Command.{Command}
use Rattle.vs_script.specs.declared.command.Command.TheVariants as command
use Rattle.vs_send.specs.declared.abort.AbortCause.TheVariants.{Receiver}
use Rattle.vs_machine.specs.declared.outcome.CommandFault.TheVariants.{MoveToSelf, Pinned, WrongStatus, SetLocked}
use Rattle.vs_machine.specs.declared.outcome.CommandFault.TheVariants as fault
use Rattle.vs_machine.specs.declared.outcome.CommandOutcome.{CommandOutcome}
use Rattle.vs_machine.specs.declared.outcome.CommandOutcome.TheVariants.{Done, WasDown, Refused, Aborted}
use Rattle.vs_machine.specs.State.{State}
use Rattle.vs_machine.specs.Step.{run}
use Rattle.vs_machine.specs.Opening.{opening}
use Rattle.vs_machine.specs.Worked.Cluster.{two_sets, placed, start_with}

abbrev answers_in : ℕ → Result State Reason → List CommandOutcome
answers_in o (Ok s) = (s.operator o).answered
answers_in o (Err r) = []

abbrev commands : List Command
commands = command.Send 3 1 1 ∷ command.Pin 3 1 ∷ command.Send 3 1 2 ∷ command.Pin 3 1 ∷ command.Unpin 3 1 ∷ command.Send 4 1 2 ∷ command.Stop 2 ∷ command.Stop 2 ∷ command.Send 3 1 2 ∷ command.Balance ∷ []

abbrev pub Commanded : Type 0
Commanded = answers_in 1 (run (start_with [] (commands ∷ [])) (Start 1 ∷ Pin 1 ∷ Start 1 ∷ Pin 1 ∷ Pin 1 ∷ Start 1 ∷ Stop 1 ∷ Stop 1 ∷ Start 1 ∷ Plan 1 ∷ []))
    ≡ Refused MoveToSelf ∷ Done ∷ Refused Pinned ∷ Refused Pinned ∷ Done ∷ Refused (WrongStatus None) ∷ Done ∷ WasDown ∷ Refused (fault.Down 2) ∷ Refused (fault.Down 2) ∷ []

-- ---- sets that take no bucket

-- the configuration with one set locked, or with one bucket at a time
abbrev locked_at : ℕ → Configuration
locked_at x = record two_sets { sets = (record { uuid = 1 ∷ []; weight = 3; lock = x == 1 }) ∷ (record { uuid = 2 ∷ []; weight = 1; lock = x == 2 }) ∷ [] }

abbrev one_at_a_time : Configuration
one_at_a_time = record two_sets { max_receiving = 1 }

abbrev senders : Configuration → State
senders config = opening config (record { clients = []; operators = (command.Send 3 1 2 ∷ []) ∷ (command.Send 2 1 2 ∷ []) ∷ [] }) placed

-- the rows of bucket 3 are sent, and refused
abbrev sent_rows : List Event
sent_rows = Start 1 ∷ Freeze 1 3 ∷ Chunk 1 3 ∷ Deliver 1 2 ∷ Hear 1 2 ∷ Abort 1 3 ∷ []

pub record Locked : Type 0 where
  pub locked_receiver : answers_in 1 (run (senders (locked_at 2)) sent_rows) ≡ Aborted (Receiver receiver.SetLocked) ∷ []
  pub locked_sender : answers_in 1 (run (senders (locked_at 1)) (Start 1 ∷ [])) ≡ Refused (SetLocked 1) ∷ []
  pub too_many : answers_in 1 (run (senders one_at_a_time) (Start 2 ∷ Freeze 1 2 ∷ Chunk 1 2 ∷ Deliver 1 2 ∷ Hear 1 2 ∷ sent_rows)) ≡ Aborted (Receiver (receiver.TooManyReceiving 1)) ∷ []
