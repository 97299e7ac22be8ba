-- The report of a cluster: a text, as a function of the state.
use Rattle.std.specs.Prelude.{ℕ, ◌+◌, ◌&&◌, ◌||◌, nat_lt, Bool, false, if◌then◌else◌, List, [], ◌∷◌, ◌++◌, length, codes, Option, Some, None}
use Rattle.std.specs.List.{flat_map, enumerate_from}
use Rattle.std.specs.Fmt.{decimal}
use Rattle.vs_rows.specs.RowMap.{RowMap}
use Rattle.vs_rows.specs.Said.{Said}
use Rattle.vs_rows.specs.Said as said
use Rattle.vs_rows.specs.declared.op.Op.{Op}
use Rattle.vs_rows.specs.declared.op.Op.TheVariants as op
use Rattle.vs_space.specs.declared.status.Status.{Status}
use Rattle.vs_space.specs.declared.status.Status.TheVariants.{Active, Pinned, Sending, Receiving, Sent, Garbage}
use Rattle.vs_space.specs.declared.status.StatusKind.{StatusKind}
use Rattle.vs_space.specs.declared.status.StatusKind.TheVariants as kind
use Rattle.vs_space.specs.Status.{is_kind}
use Rattle.vs_space.specs.declared.status.Cause.{Cause}
use Rattle.vs_space.specs.declared.status.Cause.TheVariants as cause
use Rattle.vs_space.specs.declared.reply.RecvFault.{RecvFault}
use Rattle.vs_space.specs.declared.reply.RecvFault.TheVariants as receiver
use Rattle.vs_calls.specs.Outcomes.{Outcome, Reply, Lost, Spent}
use Rattle.vs_calls.specs.Progress.{is_idle}
use Rattle.vs_history.specs.History.{Entry, History}
use Rattle.vs_send.specs.declared.abort.AbortCause.{AbortCause}
use Rattle.vs_send.specs.declared.abort.AbortCause.TheVariants as abort
use Rattle.vs_machine.specs.declared.outcome.CommandFault.{CommandFault}
use Rattle.vs_machine.specs.declared.outcome.CommandFault.TheVariants as fault
use Rattle.vs_machine.specs.declared.outcome.CommandOutcome.{CommandOutcome}
use Rattle.vs_machine.specs.declared.outcome.CommandOutcome.TheVariants as outcome
use Rattle.vs_machine.specs.Tables.{count_to, list_to}
use Rattle.vs_machine.specs.State.{State, Client, Operator, sets_of}
use Rattle.vs_machine.specs.Kinds.Connections.{is_null}

-- ---- words

-- a blank and a word; a blank and a number
abbrev pub word : List ℕ → List ℕ
word w = codes " " ++ w

abbrev pub number : ℕ → List ℕ
number n = word (decimal n)

-- texts with ` ; ` between them
abbrev pub joined : {A : Type 0} → (A → List ℕ) → List A → List ℕ
joined text [] = []
joined text (x ∷ xs) = text x ++ flat_map (λ y. codes " ; " ++ text y) xs

-- lines, each ended by a line feed
abbrev pub lines : {A : Type 0} → (A → List ℕ) → List A → List ℕ
lines text xs = flat_map (λ x. text x ++ codes "\n") xs

-- ---- operations and answers

abbrev pub op_text : Op → List ℕ
op_text (op.Get k) = codes "get" ++ word k
op_text (op.Put k v) = codes "put" ++ word k ++ word v
op_text (op.Insert k v) = codes "insert" ++ word k ++ word v
op_text (op.Delete k) = codes "delete" ++ word k
op_text (op.Swap k old new) = codes "swap" ++ word k ++ word old ++ word new
op_text op.Count = codes "count"
op_text (op.Scan k n) = codes "scan" ++ word k ++ number n

abbrev pub pairs_text : RowMap → List ℕ
pairs_text pairs = flat_map (λ p. word p.0 ++ word p.1) pairs

abbrev pub answer_text : Said → List ℕ
answer_text (said.Value v) = codes "value" ++ word v
answer_text said.NoValue = codes "none"
answer_text said.Done = codes "done"
answer_text said.Exists = codes "exists"
answer_text said.Differs = codes "differs"
answer_text (said.Number n) = codes "number" ++ number n
answer_text (said.Pairs pairs) = codes "pairs" ++ number (length pairs) ++ pairs_text pairs

abbrev pub ops_text : List Op → List ℕ
ops_text ops = joined op_text ops

abbrev pub answers_text : List Said → List ℕ
answers_text answers = joined answer_text answers

-- ---- statuses and causes

abbrev pub status_text : Status → List ℕ
status_text Active = codes "active"
status_text Pinned = codes "pinned"
status_text (Sending d) = codes "sending" ++ number d
status_text (Receiving x) = codes "receiving" ++ number x
status_text (Sent d) = codes "sent" ++ number d
status_text Garbage = codes "garbage"

abbrev pub cause_text : Cause → List ℕ
cause_text (cause.WrongBucket None) = codes "wrong"
cause_text (cause.WrongBucket (Some d)) = codes "wrong" ++ number d
cause_text (cause.TransferInProgress d) = codes "transfer" ++ number d
cause_text cause.BucketIsLocked = codes "locked"
cause_text cause.Down = codes "down"

abbrev pub receiver_text : RecvFault → List ℕ
receiver_text receiver.SetLocked = codes "setlocked"
receiver_text (receiver.TooManyReceiving n) = codes "receiving" ++ number n
receiver_text (receiver.WrongSender x) = codes "sender" ++ number x
receiver_text (receiver.WrongBucket None) = codes "wrong 0"
receiver_text (receiver.WrongBucket (Some status)) = codes "wrong 1" ++ word (status_text status)

abbrev pub abort_text : AbortCause → List ℕ
abort_text abort.Drained = codes "drained"
abort_text (abort.Receiver f) = receiver_text f
abort_text abort.Closed = codes "closed"
abort_text (abort.SetDown x) = codes "setdown" ++ number x
abort_text abort.Stopped = codes "stopped"

abbrev pub fault_text : CommandFault → List ℕ
fault_text fault.MoveToSelf = codes "self"
fault_text (fault.Down x) = codes "down" ++ number x
fault_text (fault.WrongStatus None) = codes "status none"
fault_text (fault.WrongStatus (Some status)) = codes "status" ++ word (status_text status)
fault_text fault.Pinned = codes "pinned"
fault_text (fault.SetLocked x) = codes "setlocked" ++ number x
fault_text fault.BucketIsLocked = codes "locked"

abbrev pub command_text : CommandOutcome → List ℕ
command_text outcome.Moved = codes "moved"
command_text outcome.Done = codes "done"
command_text outcome.Late = codes "late"
command_text outcome.WasDown = codes "wasdown"
command_text outcome.WasUp = codes "wasup"
command_text (outcome.Balanced rounds) = codes "balanced" ++ number rounds
command_text (outcome.Stuck rounds) = codes "stuck" ++ number rounds
command_text (outcome.Refused f) = codes "refused" ++ word (fault_text f)
command_text (outcome.Aborted c) = codes "aborted" ++ word (abort_text c)

-- ---- the lines

abbrev pub cluster_line : State → List ℕ
cluster_line s = codes "cluster" ++ number (sets_of s) ++ number s.config.bucket_count

-- how many buckets have a status of this kind at a set
abbrev pub is_kind_at : StatusKind → Option Status → Bool
is_kind_at k None = false
is_kind_at k (Some status) = is_kind k status

abbrev pub kind_count : State → ℕ → StatusKind → ℕ
kind_count s x k = count_to (λ b. is_kind_at k ((s.bucket b).entry x)) s.config.bucket_count

abbrev pub kinds : List StatusKind
kinds = kind.Active ∷ kind.Pinned ∷ kind.Sending ∷ kind.Receiving ∷ kind.Sent ∷ kind.Garbage ∷ []

abbrev pub set_line : State → ℕ → List ℕ
set_line s x = codes "set" ++ number x ++ (if s.up x then codes " up" else codes " down") ++ flat_map (λ k. number (kind_count s x k)) kinds

-- a set that has an entry of the bucket, and the status
abbrev pub entry_text : ℕ → Option Status → List ℕ
entry_text x None = []
entry_text x (Some status) = number x ++ word (status_text status)

abbrev pub bucket_line : State → ℕ → List ℕ
bucket_line s b = codes "bucket" ++ number b ++ flat_map (λ x. entry_text x ((s.bucket b).entry x)) (list_to (λ x. x) (sets_of s))

abbrev pub row_line : List ℕ × List ℕ → List ℕ
row_line row = codes "row" ++ word row.0 ++ word row.1

-- a write or a read: its place, its client, the number of the call, what it asked and what it was answered
abbrev pub history_entry : List ℕ → Entry → List ℕ
history_entry kind e =
    kind ++ number e.place ++ number e.id.client ++ number e.id.call ++ word (ops_text e.ops) ++ codes " =>" ++ word (answers_text e.answers)

abbrev pub history_head : ℕ → History → List ℕ
history_head b h = codes "history" ++ number b ++ number (length h.base) ++ number (length h.writes) ++ number (length h.reads) ++ codes "\n"

-- the history of a bucket that has a write or a read
abbrev pub history_lines : ℕ → History → List ℕ
history_lines b h =
    if is_null h.writes && is_null h.reads then []
    else history_head b h ++ lines row_line h.base ++ lines (history_entry (codes "write")) h.writes ++ lines (history_entry (codes "read")) h.reads

abbrev pub outcome_text : Outcome → List ℕ
outcome_text (Reply place answers) = codes "reply" ++ number place ++ word (answers_text answers)
outcome_text Lost = codes "lost"
outcome_text (Spent c) = codes "spent" ++ word (cause_text c)

-- a line of a client or an operator: its number, the number of the call or command, and what that was answered
abbrev pub numbered_line : List ℕ → ℕ → ℕ → List ℕ → List ℕ
numbered_line kind who n text = kind ++ number who ++ number n ++ word text

-- a client's calls up to the present one, where that was posted
abbrev pub call_lines : ℕ → Client → List ℕ
call_lines c client =
    lines (λ o. numbered_line (codes "call") c o.0 (outcome_text o.1)) (enumerate_from 1 client.answered)
    ++ (if is_idle client.present.stage then [] else numbered_line (codes "call") c (length client.answered + 1) (codes "open") ++ codes "\n")

-- an operator's answered commands, and its next one where that moves a bucket or has a round
abbrev pub is_open : Operator → Bool
is_open o = o.moving || nat_lt 0 o.rounds

abbrev pub command_lines : ℕ → Operator → List ℕ
command_lines k o =
    lines (λ c. numbered_line (codes "command") k c.0 (command_text c.1)) (enumerate_from 1 o.answered)
    ++ (if is_open o then numbered_line (codes "command") k (length o.answered + 1) (codes "open") ++ codes "\n" else [])

abbrev pub numbers_to : ℕ → List ℕ
numbers_to n = list_to (λ k. k) n

abbrev pub report : State → List ℕ
report s =
    cluster_line s ++ codes "\n"
    ++ lines (set_line s) (numbers_to (sets_of s))
    ++ lines (bucket_line s) (numbers_to s.config.bucket_count)
    ++ flat_map (λ b. history_lines b (s.bucket b).history) (numbers_to s.config.bucket_count)
    ++ flat_map (λ c. call_lines c (s.client c)) (numbers_to s.clients)
    ++ flat_map (λ k. command_lines k (s.operator k)) (numbers_to s.operators)
    ++ codes "end\n"
