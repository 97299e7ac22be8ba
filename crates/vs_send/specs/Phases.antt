-- The phases of a transfer, and why it is given up.
use Rattle.std.specs.Prelude.{ℕ, ◌+◌, ◌<◌, ◌==◌, ◌&&◌, nat_lt, ⊤, Bool, true, false, if◌then◌else◌, Option, Some, None}
use Rattle.vs_space.specs.declared.reply.Reply.{Reply}
use Rattle.vs_space.specs.declared.reply.Reply.TheVariants.{Took, Not}
use Rattle.vs_send.specs.declared.transfer.Phase.{Phase}
use Rattle.vs_send.specs.declared.transfer.Phase.TheVariants.{Draining, Ready, Waiting, Copied, WaitingLast, Refused, Done}
use Rattle.vs_send.specs.declared.abort.AbortCause.{AbortCause}
use Rattle.vs_send.specs.declared.abort.AbortCause.TheVariants as cause

-- it waits for the running writes
abbrev pub IsDraining : Phase → Type 0
IsDraining (Draining turns) = ⊤
IsDraining _ = ⊥

-- it waits for the running writes, and may wait one more turn
abbrev pub MayWait : Phase → Type 0
MayWait (Draining turns) = turns < 256
MayWait _ = ⊥

-- one more turn was waited
abbrev pub waited : Phase → Phase
waited (Draining turns) = Draining (turns + 1)
waited phase = phase

-- the next rows can be sent
abbrev pub IsReady : Phase → Type 0
IsReady (Ready after) = ⊤
IsReady _ = ⊥

-- the message was taken: after rows, more are to be sent where there are more, and else all is copied
abbrev pub taken_phase : Phase → Bool → Phase
taken_phase (Waiting epoch number key) true = Ready key
taken_phase (Waiting epoch number key) false = Copied
taken_phase (WaitingLast epoch number) more = Done
taken_phase phase more = phase

-- what becomes of a phase by a reply to the message that it waits for
abbrev pub replied_phase : Phase → Reply → Bool → Phase
replied_phase phase Took more = taken_phase phase more
replied_phase phase (Not fault) more = Refused fault
replied_phase phase _ more = phase

-- the reply is one of those that a message with rows or the last one is answered by
abbrev pub is_of_transfer : Reply → Bool
is_of_transfer Took = true
is_of_transfer (Not fault) = true
is_of_transfer _ = false

-- the phase waits for the reply with this number
abbrev pub waits_for : Phase → ℕ → Bool
waits_for (Waiting epoch number key) sync = number == sync
waits_for (WaitingLast epoch number) sync = number == sync
waits_for _ sync = false

-- after a reply with this number, where more rows stand above the key last sent or not; any other reply is dropped
abbrev pub heard_phase : Phase → ℕ → Reply → Bool → Phase
heard_phase phase sync reply more = if waits_for phase sync then replied_phase phase reply more else phase

-- by the receiver, the number of writes that are running, whether the receiver is up, the connection's epoch and the
-- phase: the first cause that holds
abbrev pub abort_cause_of : ℕ → ℕ → Bool → ℕ → Phase → Option AbortCause
abort_cause_of dest writes up epoch (Refused fault) = Some (cause.Receiver fault)
abort_cause_of dest writes up epoch Done = None
abort_cause_of dest writes false epoch phase = Some (cause.SetDown dest)
abort_cause_of dest writes true epoch (Waiting opened number key) =
    if opened == epoch then None else Some cause.Closed
abort_cause_of dest writes true epoch (WaitingLast opened number) =
    if opened == epoch then None else Some cause.Closed
abort_cause_of dest writes true epoch (Draining turns) =
    if (turns == 256) && nat_lt 0 writes then Some cause.Drained else None
abort_cause_of dest writes true epoch phase = None
