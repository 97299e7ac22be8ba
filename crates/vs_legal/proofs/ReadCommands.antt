-- The lines of commands are read.
use Rattle.std.proofs.Common.{◌≡◌, ℕ, zero, suc, ◌+◌, ◌*◌, ◌<◌, ◌≤◌, ◌^◌, ◌-◌, Bool, true, false, List, [], ◌∷◌, length, Some, None, Ok, refl, arith, lit<}
use Rattle.std.specs.Prelude.{codes, nat_lt, if◌then◌else◌}
use Rattle.std.specs.Fmt.{decimal}
use Rattle.std.specs.List.{AllByRecursion}
use Rattle.std.proofs.lemmas.Bool.Decides.{nat_tests}
use Rattle.vs_space.specs.declared.status.Status.{Status}
use Rattle.vs_space.specs.declared.status.Status.TheVariants.{Active, Pinned, Sending, Receiving, Sent, Garbage}
use Rattle.vs_send.specs.declared.abort.AbortCause.{AbortCause}
use Rattle.vs_send.specs.declared.abort.AbortCause.TheVariants as abort
use Rattle.vs_machine.specs.declared.outcome.CommandFault.{CommandFault}
use Rattle.vs_machine.specs.declared.outcome.CommandFault.TheVariants as fault
use Rattle.vs_machine.specs.declared.outcome.CommandOutcome.{CommandOutcome}
use Rattle.vs_machine.specs.declared.outcome.CommandOutcome.TheVariants as outcome
use Rattle.vs_machine.specs.Report.{is_open}
use Rattle.vs_machine.specs.State.{Operator}
use Rattle.vs_audit.specs.Outcomes.{ending_at, named_at, refusal_tail, abort_tail, maybe_status_at}
use Rattle.vs_audit.specs.ReportLines as lines
use Rattle.vs_audit.specs.Words.{Words}
use Rattle.vs_legal.proofs.Words.Spelled.{are_words}
use Rattle.vs_legal.proofs.Words.Statuses.{IsSetOf, NamesSet, NamesSetIn, ReceiverNamesSet, status_words}
use Rattle.vs_legal.proofs.Words.Report.{numbered_tail, abort_words, fault_words, command_words}
use Rattle.vs_legal.proofs.Spelled.{decimal_word}
use Rattle.vs_legal.proofs.ReadOps.{number_reads}
use Rattle.vs_legal.proofs.ReadLines.{from}
use Rattle.vs_legal.proofs.ReadStatuses.{set_reads, status_is_words, receiver_reads, receiver_is_words}
use Rattle.vs_legal.proofs.ReadItems.{Item, IsItem, Rises}

-- ---- one line

abbrev pub AbortNamesSet : ℕ → AbortCause → Type 0
AbortNamesSet sets abort.Drained = Unit {0}
AbortNamesSet sets (abort.Receiver f) = ReceiverNamesSet sets f
AbortNamesSet sets abort.Closed = Unit {0}
AbortNamesSet sets (abort.SetDown x) = IsSetOf sets x
AbortNamesSet sets abort.Stopped = Unit {0}

abbrev pub FaultNamesSet : ℕ → CommandFault → Type 0
FaultNamesSet sets fault.MoveToSelf = Unit {0}
FaultNamesSet sets (fault.Down x) = IsSetOf sets x
FaultNamesSet sets (fault.WrongStatus status) = NamesSetIn sets status
FaultNamesSet sets fault.Pinned = Unit {0}
FaultNamesSet sets (fault.SetLocked x) = IsSetOf sets x
FaultNamesSet sets fault.BucketIsLocked = Unit {0}

abbrev pub IsReadableCommand : ℕ → CommandOutcome → Type 0
IsReadableCommand sets outcome.Moved = Unit {0}
IsReadableCommand sets outcome.Done = Unit {0}
IsReadableCommand sets outcome.Late = Unit {0}
IsReadableCommand sets outcome.WasDown = Unit {0}
IsReadableCommand sets outcome.WasUp = Unit {0}
IsReadableCommand sets (outcome.Balanced rounds) = rounds < 2 ^ 32
IsReadableCommand sets (outcome.Stuck rounds) = rounds < 2 ^ 32
IsReadableCommand sets (outcome.Refused f) = FaultNamesSet sets f
IsReadableCommand sets (outcome.Aborted c) = AbortNamesSet sets c

above : (last n : ℕ) → last < n → nat_lt last n ≡ true
above last n h = grind (arith, nat_tests)

module _ (sets : ℕ) (fits : sets < 2 ^ 64) where
  abort_reads : (c : AbortCause) → AbortNamesSet sets c → named_at abort_tail sets (abort_words c) ≡ Ok []
  abort_reads abort.Drained is = refl
  abort_reads (abort.Receiver f) is = receiver_reads sets f fits is
  abort_reads abort.Closed is = refl
  abort_reads (abort.SetDown x) is = set_reads sets x [] fits is
  abort_reads abort.Stopped is = refl

  -- a status, behind which `none` could stand
  maybe_reads : (s : Status) → NamesSet sets s → maybe_status_at sets (status_words s) ≡ Ok []
  maybe_reads Active is = refl
  maybe_reads Pinned is = refl
  maybe_reads (Sending d) is = set_reads sets d [] fits is
  maybe_reads (Receiving x) is = set_reads sets x [] fits is
  maybe_reads (Sent d) is = set_reads sets d [] fits is
  maybe_reads Garbage is = refl

  fault_reads : (f : CommandFault) → FaultNamesSet sets f → named_at refusal_tail sets (fault_words f) ≡ Ok []
  fault_reads fault.MoveToSelf is = refl
  fault_reads (fault.Down x) is = set_reads sets x [] fits is
  fault_reads (fault.WrongStatus None) is = refl
  fault_reads (fault.WrongStatus (Some status)) is = maybe_reads status is
  fault_reads fault.Pinned is = refl
  fault_reads (fault.SetLocked x) is = set_reads sets x [] fits is
  fault_reads fault.BucketIsLocked is = refl

  ending_reads : (out : CommandOutcome) → IsReadableCommand sets out → ending_at sets (command_words out) ≡ Ok []
  ending_reads outcome.Moved is = refl
  ending_reads outcome.Done is = refl
  ending_reads outcome.Late is = refl
  ending_reads outcome.WasDown is = refl
  ending_reads outcome.WasUp is = refl
  ending_reads (outcome.Balanced rounds) is = rw (number_reads 0 (2 ^ 32 - 1) rounds [] (lit< tt) (omega arith) (omega arith)) refl
  ending_reads (outcome.Stuck rounds) is = rw (number_reads 0 (2 ^ 32 - 1) rounds [] (lit< tt) (omega arith) (omega arith)) refl
  ending_reads (outcome.Refused f) is = fault_reads f is
  ending_reads (outcome.Aborted c) is = abort_reads c is

  abort_are_words : (c : AbortCause) → AbortNamesSet sets c → are_words (abort_words c) ≡ true
  abort_are_words abort.Drained is = refl
  abort_are_words (abort.Receiver f) is = receiver_is_words sets f fits is
  abort_are_words abort.Closed is = refl
  abort_are_words (abort.SetDown x) is = rw (decimal_word x (omega (arith, is.1))) refl
  abort_are_words abort.Stopped is = refl

  fault_are_words : (f : CommandFault) → FaultNamesSet sets f → are_words (fault_words f) ≡ true
  fault_are_words fault.MoveToSelf is = refl
  fault_are_words (fault.Down x) is = rw (decimal_word x (omega (arith, is.1))) refl
  fault_are_words (fault.WrongStatus None) is = refl
  fault_are_words (fault.WrongStatus (Some s)) is = status_is_words sets s fits is
  fault_are_words fault.Pinned is = refl
  fault_are_words (fault.SetLocked x) is = rw (decimal_word x (omega (arith, is.1))) refl
  fault_are_words fault.BucketIsLocked is = refl

  pub command_are_words : (out : CommandOutcome) → IsReadableCommand sets out → are_words (command_words out) ≡ true
  command_are_words outcome.Moved is = refl
  command_are_words outcome.Done is = refl
  command_are_words outcome.Late is = refl
  command_are_words outcome.WasDown is = refl
  command_are_words outcome.WasUp is = refl
  command_are_words (outcome.Balanced rounds) is = rw (decimal_word rounds (omega arith)) refl
  command_are_words (outcome.Stuck rounds) is = rw (decimal_word rounds (omega arith)) refl
  command_are_words (outcome.Refused f) is = fault_are_words f is
  command_are_words (outcome.Aborted c) is = abort_are_words c is

  module _ (o : ℕ) (some : 1 ≤ o) (few : o ≤ 16) where
    line_read : (last n : ℕ) (words : Words) → 1 ≤ n → n < 2 ^ 32 → ending_at sets words ≡ Ok [] → last < o * 2 ^ 32 + n
        → lines.command_line sets last (codes "command" ∷ numbered_tail o n words) ≡ Ok (o * 2 ^ 32 + n)
    line_read last n words first small ends high =
        rw (number_reads 1 16 o (decimal n ∷ words) (lit< tt) some few, number_reads 1 (2 ^ 32 - 1) n words (lit< tt) first (omega arith), ends, above last (o * 2 ^ 32 + n) high) refl

-- ---- lines, as items

abbrev pub command_item : ℕ → ℕ → Words → Item ℕ
command_item o n words = record { tail = numbered_tail o n words; key = o * 2 ^ 32 + n; value = λ line. o * 2 ^ 32 + n }

abbrev pub ended_items : ℕ → ℕ → List CommandOutcome → List (Item ℕ) → List (Item ℕ)
ended_items o n [] rest = rest
ended_items o n (out ∷ outs) rest = command_item o n (command_words out) ∷ ended_items o (n + 1) outs rest

abbrev pub next_items : ℕ → Operator → List (Item ℕ) → List (Item ℕ)
next_items o op rest = if is_open op then command_item o (length op.answered + 1) (codes "open" ∷ []) ∷ rest else rest

abbrev pub operator_items : ℕ → Operator → List (Item ℕ) → List (Item ℕ)
operator_items o op rest = ended_items o 1 op.answered (next_items o op rest)

abbrev pub commands_items : (ℕ → Operator) → List ℕ → List (Item ℕ)
commands_items operator [] = []
commands_items operator (o ∷ os) = operator_items o (operator o) (commands_items operator os)

abbrev pub IsCommandItem : ℕ → Item ℕ → Type 0
IsCommandItem sets i = IsItem (λ last _ words. lines.command_line sets last words) (λ n. n) (codes "command") i

pub record IsReadableOperator (sets o : ℕ) (op : Operator) : Type 0 where
  pub some : 1 ≤ o
  pub few : o ≤ 16
  pub answered : AllByRecursion (IsReadableCommand sets) op.answered
  pub commands : length op.answered + 1 < 2 ^ 32

item_is : (sets o n : ℕ) (words : Words) → sets < 2 ^ 64 → 1 ≤ o → o ≤ 16 → 1 ≤ n → n < 2 ^ 32 → are_words words ≡ true → ending_at sets words ≡ Ok [] → IsCommandItem sets (command_item o n words)
item_is sets o n words fits some few first small are ends = record {
  words = rw (decimal_word o (omega arith), decimal_word n (omega arith)) are;
  numbered = λ line. refl;
  reads = λ last line high. line_read sets fits o some few last n words first small ends high;
}

ended_are : (sets o n : ℕ) (outs : List CommandOutcome) (rest : List (Item ℕ)) → sets < 2 ^ 64 → 1 ≤ o → o ≤ 16 → 1 ≤ n → n + length outs < 2 ^ 32
    → AllByRecursion (IsReadableCommand sets) outs → AllByRecursion (IsCommandItem sets) rest → AllByRecursion (IsCommandItem sets) (ended_items o n outs rest)
ended_are sets o n [] rest fits some few first small are others = others
ended_are sets o n (out ∷ outs) rest fits some few first small are others = (
  item_is sets o n (command_words out) fits some few first (omega arith) (command_are_words sets fits out are.0) (ending_reads sets fits out are.0),
  ended_are sets o (n + 1) outs rest fits some few (omega arith) (omega arith) are.1 others,
)

next_are : (sets o : ℕ) (op : Operator) (rest : List (Item ℕ)) → sets < 2 ^ 64 → IsReadableOperator sets o op → AllByRecursion (IsCommandItem sets) rest → AllByRecursion (IsCommandItem sets) (next_items o op rest)
next_are sets o op rest fits is others = by_open (is_open op)
  where
    by_open : (b : Bool) → AllByRecursion (IsCommandItem sets) (if b then command_item o (length op.answered + 1) (codes "open" ∷ []) ∷ rest else rest)
    by_open true = (item_is sets o (length op.answered + 1) (codes "open" ∷ []) fits is.some is.few (omega arith) is.commands refl refl, others)
    by_open false = others

pub commands_are : (sets : ℕ) (operator : ℕ → Operator) (os : List ℕ) → sets < 2 ^ 64 → AllByRecursion (λ o. IsReadableOperator sets o (operator o)) os → AllByRecursion (IsCommandItem sets) (commands_items operator os)
commands_are sets operator [] fits are = tt
commands_are sets operator (o ∷ os) fits are =
    let is = are.0 in
    ended_are sets o 1 (operator o).answered (next_items o (operator o) (commands_items operator os)) fits is.some is.few (omega arith) (omega (arith, is.commands)) is.answered
    (next_are sets o (operator o) (commands_items operator os) fits is (commands_are sets operator os fits are.1))

-- ---- they rise

ended_rise : (o n : ℕ) (outs : List CommandOutcome) (rest : List (Item ℕ)) → ((last : ℕ) → last < o * 2 ^ 32 + n + length outs → Rises last rest)
    → (last : ℕ) → last < o * 2 ^ 32 + n → Rises last (ended_items o n outs rest)
ended_rise o n [] rest others last low = others last (omega arith)
ended_rise o n (out ∷ outs) rest others last low = (omega arith, ended_rise o (n + 1) outs rest (λ l h. others l (omega arith)) (o * 2 ^ 32 + n) (omega arith))

next_rise : (o : ℕ) (op : Operator) (rest : List (Item ℕ)) → length op.answered + 1 < 2 ^ 32 → ((last : ℕ) → last < (o + 1) * 2 ^ 32 → Rises last rest)
    → (last : ℕ) → last < o * 2 ^ 32 + 1 + length op.answered → Rises last (next_items o op rest)
next_rise o op rest small others last low = by_open (is_open op)
  where
    by_open : (b : Bool) → Rises last (if b then command_item o (length op.answered + 1) (codes "open" ∷ []) ∷ rest else rest)
    by_open true = (omega arith, others (o * 2 ^ 32 + (length op.answered + 1)) (omega arith))
    by_open false = others last (omega arith)

pub commands_rise : (operator : ℕ → Operator) (m o last : ℕ) → ((k : ℕ) → length (operator k).answered + 1 < 2 ^ 32) → last < o * 2 ^ 32 + 1 → Rises last (commands_items operator (from o m))
commands_rise operator zero o last few low = tt
commands_rise operator (suc m) o last few low =
    ended_rise o 1 (operator o).answered (next_items o (operator o) (commands_items operator (from (o + 1) m)))
    (next_rise o (operator o) (commands_items operator (from (o + 1) m)) (few o) (λ l h. commands_rise operator m (o + 1) l few (omega arith)))
    last low
