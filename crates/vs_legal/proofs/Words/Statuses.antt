-- Statuses, causes and outcomes as words.
use Rattle.std.specs.Prelude.{ℕ, ◌≤◌, ◌<◌, ◌^◌, Bool, if◌then◌else◌, List, [], ◌∷◌, codes, Option, Some, None}
use Rattle.std.specs.Fmt.{decimal}
use Rattle.std.specs.List.{flat_map}
use Rattle.vs_space.specs.declared.status.Status.{Status}
use Rattle.vs_space.specs.declared.status.Status.TheVariants.{Active, Pinned, Sending, Receiving, Sent, Garbage}
use Rattle.vs_space.specs.declared.status.Cause.{Cause}
use Rattle.vs_space.specs.declared.status.Cause.TheVariants as cause
use Rattle.vs_space.specs.declared.reply.RecvFault.{RecvFault}
use Rattle.vs_space.specs.declared.reply.RecvFault.TheVariants as receiver

abbrev pub status_words : Status → List (List ℕ)
status_words Active = codes "active" ∷ []
status_words Pinned = codes "pinned" ∷ []
status_words (Sending d) = codes "sending" ∷ decimal d ∷ []
status_words (Receiving x) = codes "receiving" ∷ decimal x ∷ []
status_words (Sent d) = codes "sent" ∷ decimal d ∷ []
status_words Garbage = codes "garbage" ∷ []

abbrev pub cause_words : Cause → List (List ℕ)
cause_words (cause.WrongBucket None) = codes "wrong" ∷ []
cause_words (cause.WrongBucket (Some d)) = codes "wrong" ∷ decimal d ∷ []
cause_words (cause.TransferInProgress d) = codes "transfer" ∷ decimal d ∷ []
cause_words cause.BucketIsLocked = codes "locked" ∷ []
cause_words cause.Down = codes "down" ∷ []

abbrev pub receiver_words : RecvFault → List (List ℕ)
receiver_words receiver.SetLocked = codes "setlocked" ∷ []
receiver_words (receiver.TooManyReceiving n) = codes "receiving" ∷ decimal n ∷ []
receiver_words (receiver.WrongSender x) = codes "sender" ∷ decimal x ∷ []
receiver_words (receiver.WrongBucket None) = codes "wrong" ∷ codes "0" ∷ []
receiver_words (receiver.WrongBucket (Some status)) = codes "wrong" ∷ codes "1" ∷ status_words status

-- ---- which sets they name

abbrev pub IsSetOf : ℕ → ℕ → Type 0
IsSetOf sets x = (1 ≤ x) × (x ≤ sets)

abbrev pub NamesSet : ℕ → Status → Type 0
NamesSet sets Active = Unit {0}
NamesSet sets Pinned = Unit {0}
NamesSet sets (Sending d) = IsSetOf sets d
NamesSet sets (Receiving x) = IsSetOf sets x
NamesSet sets (Sent d) = IsSetOf sets d
NamesSet sets Garbage = Unit {0}

abbrev pub NamesSetIn : ℕ → Option Status → Type 0
NamesSetIn sets None = Unit {0}
NamesSetIn sets (Some status) = NamesSet sets status

abbrev pub CauseNamesSet : ℕ → Cause → Type 0
CauseNamesSet sets (cause.WrongBucket None) = Unit {0}
CauseNamesSet sets (cause.WrongBucket (Some d)) = IsSetOf sets d
CauseNamesSet sets (cause.TransferInProgress d) = IsSetOf sets d
CauseNamesSet sets cause.BucketIsLocked = Unit {0}
CauseNamesSet sets cause.Down = Unit {0}

abbrev pub ReceiverNamesSet : ℕ → RecvFault → Type 0
ReceiverNamesSet sets receiver.SetLocked = Unit {0}
ReceiverNamesSet sets (receiver.TooManyReceiving n) = n < 2 ^ 32
ReceiverNamesSet sets (receiver.WrongSender x) = IsSetOf sets x
ReceiverNamesSet sets (receiver.WrongBucket status) = NamesSetIn sets status

-- ---- lines of sets and buckets

-- the line of a set behind its first word: its number, whether it is up, and six counts
abbrev pub set_words : (ℕ → Bool) → (ℕ → ℕ → ℕ) → ℕ → List (List ℕ)
set_words up count x =
    decimal x ∷ (if up x then codes "up" else codes "down")
    ∷ decimal (count x 0) ∷ decimal (count x 1) ∷ decimal (count x 2) ∷ decimal (count x 3) ∷ decimal (count x 4) ∷ decimal (count x 5) ∷ []

-- a set that has an entry, and the status
abbrev pub placed_words : ℕ → Option Status → List (List ℕ)
placed_words x None = []
placed_words x (Some status) = decimal x ∷ status_words status

abbrev pub placement_words : (ℕ → Option Status) → List ℕ → List (List ℕ)
placement_words entry xs = flat_map (λ x. placed_words x (entry x)) xs
