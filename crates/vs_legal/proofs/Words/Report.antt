-- The report of a cluster as lines of words.
use Rattle.std.specs.Prelude.{ℕ, zero, suc, ◌&&◌, if◌then◌else◌, List, [], ◌∷◌, ◌++◌, length, map, codes, Some, None}
use Rattle.std.specs.Fmt.{decimal}
use Rattle.vs_space.specs.declared.status.StatusKind.{StatusKind}
use Rattle.vs_space.specs.declared.status.StatusKind.TheVariants as kind
use Rattle.vs_calls.specs.Outcomes.{Outcome, Reply, Lost, Spent}
use Rattle.vs_history.specs.History.{Entry, History}
use Rattle.vs_send.specs.declared.abort.AbortCause.{AbortCause}
use Rattle.vs_send.specs.declared.abort.AbortCause.TheVariants as abort
use Rattle.vs_machine.specs.declared.outcome.CommandFault.{CommandFault}
use Rattle.vs_machine.specs.declared.outcome.CommandFault.TheVariants as fault
use Rattle.vs_machine.specs.declared.outcome.CommandOutcome.{CommandOutcome}
use Rattle.vs_machine.specs.declared.outcome.CommandOutcome.TheVariants as outcome
use Rattle.vs_machine.specs.Kinds.Connections.{is_null}
use Rattle.vs_machine.specs.Report.{kind_count}
use Rattle.vs_machine.specs.State.{State}
use Rattle.vs_legal.proofs.Words.Entries.{row_words, entry_words}
use Rattle.vs_legal.proofs.Words.Operations.{answers_words}
use Rattle.vs_legal.proofs.Words.Statuses.{status_words, cause_words, receiver_words, set_words, placement_words}

-- ---- sets and buckets

abbrev pub kind_at : ℕ → StatusKind
kind_at zero = kind.Active
kind_at (suc zero) = kind.Pinned
kind_at (suc (suc zero)) = kind.Sending
kind_at (suc (suc (suc zero))) = kind.Receiving
kind_at (suc (suc (suc (suc zero)))) = kind.Sent
kind_at (suc (suc (suc (suc (suc n))))) = kind.Garbage

abbrev pub set_tail : State → ℕ → List (List ℕ)
set_tail s x = set_words s.up (λ x k. kind_count s x (kind_at k)) x

-- the entries of a bucket at these sets
abbrev pub bucket_tail : State → ℕ → List ℕ → List (List ℕ)
bucket_tail s b xs = decimal b ∷ placement_words (s.bucket b).entry xs

-- ---- histories

abbrev pub entry_line : List ℕ → Entry → List (List ℕ)
entry_line kind e = entry_words kind e.place e.id.client e.id.call e.ops e.answers

abbrev pub head_tail : ℕ → History → List (List ℕ)
head_tail b h = decimal b ∷ decimal (length h.base) ∷ decimal (length h.writes) ∷ decimal (length h.reads) ∷ []

abbrev pub body_lines : History → List (List (List ℕ))
body_lines h = map row_words h.base ++ (map (entry_line (codes "write")) h.writes ++ map (entry_line (codes "read")) h.reads)

abbrev pub history_lines : ℕ → History → List (List (List ℕ))
history_lines b h = if is_null h.writes && is_null h.reads then [] else (codes "history" ∷ head_tail b h) ∷ body_lines h

-- ---- calls

abbrev pub outcome_words : Outcome → List (List ℕ)
outcome_words (Reply place answers) = codes "reply" ∷ decimal place ∷ answers_words answers
outcome_words Lost = codes "lost" ∷ []
outcome_words (Spent c) = codes "spent" ∷ cause_words c

abbrev pub numbered_tail : ℕ → ℕ → List (List ℕ) → List (List ℕ)
numbered_tail who n words = decimal who ∷ decimal n ∷ words

-- ---- commands

abbrev pub abort_words : AbortCause → List (List ℕ)
abort_words abort.Drained = codes "drained" ∷ []
abort_words (abort.Receiver f) = receiver_words f
abort_words abort.Closed = codes "closed" ∷ []
abort_words (abort.SetDown x) = codes "setdown" ∷ decimal x ∷ []
abort_words abort.Stopped = codes "stopped" ∷ []

abbrev pub fault_words : CommandFault → List (List ℕ)
fault_words fault.MoveToSelf = codes "self" ∷ []
fault_words (fault.Down x) = codes "down" ∷ decimal x ∷ []
fault_words (fault.WrongStatus None) = codes "status" ∷ codes "none" ∷ []
fault_words (fault.WrongStatus (Some status)) = codes "status" ∷ status_words status
fault_words fault.Pinned = codes "pinned" ∷ []
fault_words (fault.SetLocked x) = codes "setlocked" ∷ decimal x ∷ []
fault_words fault.BucketIsLocked = codes "locked" ∷ []

abbrev pub command_words : CommandOutcome → List (List ℕ)
command_words outcome.Moved = codes "moved" ∷ []
command_words outcome.Done = codes "done" ∷ []
command_words outcome.Late = codes "late" ∷ []
command_words outcome.WasDown = codes "wasdown" ∷ []
command_words outcome.WasUp = codes "wasup" ∷ []
command_words (outcome.Balanced rounds) = codes "balanced" ∷ decimal rounds ∷ []
command_words (outcome.Stuck rounds) = codes "stuck" ∷ decimal rounds ∷ []
command_words (outcome.Refused f) = codes "refused" ∷ fault_words f
command_words (outcome.Aborted c) = codes "aborted" ∷ abort_words c
