-- Statuses, and what became of calls and commands, as words: a name, and what follows it.
use Rattle.std.specs.Prelude.{ℕ, ◌==◌, ◌||◌, Bool, if◌then◌else◌, List, [], ◌∷◌, codes, Option, Some, None, Ok, Err}
use Rattle.std.specs.Str.{bytes_eq}
use Rattle.vs_audit.specs.declared.tail.Tail.{Tail}
use Rattle.vs_audit.specs.declared.tail.Tail.TheVariants.{Nothing, Set, MaybeSet, Count, MaybeStatus, FoundStatus}
use Rattle.vs_audit.specs.declared.outcome_word.OutcomeWord.{OutcomeWord}
use Rattle.vs_audit.specs.declared.outcome_word.OutcomeWord.TheVariants as named
use Rattle.vs_audit.specs.Account.{Outcome, Reply, Lost, Spent, Open}
use Rattle.vs_audit.specs.Operations.{answers_at}
use Rattle.vs_audit.specs.Reading.{◌>>=◌, ◌>>◌}
use Rattle.vs_audit.specs.Words.{Words, Bad, Told, only_if, known, word_at, end_at, number_at, any_number, count_at}

-- ---- statuses of so many sets

abbrev pub set_at : ℕ → Words → Told Words
set_at sets words = number_at 1 sets words >>= (λ set. Ok set.1)

-- a status that names no set, and one that names a set
abbrev pub is_lone : List ℕ → Bool
is_lone word = bytes_eq word (codes "active") || bytes_eq word (codes "pinned") || bytes_eq word (codes "garbage")

abbrev pub is_paired : List ℕ → Bool
is_paired word = bytes_eq word (codes "sending") || bytes_eq word (codes "receiving") || bytes_eq word (codes "sent")

abbrev pub status_at : ℕ → Words → Told Words
status_at sets words = do
  word ← word_at words
  if is_lone word.0 then Ok word.1 else (only_if (is_paired word.0) >> set_at sets word.1)

-- ---- what follows a name

-- `none`, or a status
abbrev pub maybe_status_at : ℕ → Words → Told Words
maybe_status_at sets [] = Err Bad
maybe_status_at sets (word ∷ words) = if bytes_eq word (codes "none") then Ok words else status_at sets (word ∷ words)

-- `0`, or `1` and a status
abbrev pub found_status_at : ℕ → Words → Told Words
found_status_at sets words = do
  flag ← number_at 0 1 words
  if flag.0 == 0 then Ok flag.1 else status_at sets flag.1

-- no word, or a set
abbrev pub maybe_set_at : ℕ → Words → Told Words
maybe_set_at sets [] = Ok []
maybe_set_at sets (word ∷ words) = set_at sets (word ∷ words)

abbrev pub tail_at : ℕ → Tail → Words → Told Words
tail_at sets Nothing words = Ok words
tail_at sets Set words = set_at sets words
tail_at sets MaybeSet words = maybe_set_at sets words
tail_at sets Count words = count_at words >>= (λ count. Ok count.1)
tail_at sets MaybeStatus words = maybe_status_at sets words
tail_at sets FoundStatus words = found_status_at sets words

-- a name of this table, and what follows it
abbrev pub named_at : (List ℕ → Option Tail) → ℕ → Words → Told Words
named_at table sets words = do
  word ← word_at words
  tail ← known (table word.0)
  tail_at sets tail word.1

-- ---- calls

-- why a call was given up
abbrev pub cause_tail : List ℕ → Option Tail
cause_tail word =
    if bytes_eq word (codes "wrong") then Some MaybeSet else (if bytes_eq word (codes "transfer") then Some Set
    else (if bytes_eq word (codes "locked") then Some Nothing
    else (if bytes_eq word (codes "down") then Some Nothing else None)))

abbrev pub outcome_word : List ℕ → Option OutcomeWord
outcome_word word =
    if bytes_eq word (codes "reply") then Some named.Reply else (if bytes_eq word (codes "lost") then Some named.Lost
    else (if bytes_eq word (codes "spent") then Some named.Spent
    else (if bytes_eq word (codes "open") then Some named.Open else None)))

-- what became of a call, over so many sets, up to the end of the line
abbrev pub outcome_of : ℕ → OutcomeWord → Words → Told Outcome
outcome_of sets named.Reply words = do
  place ← any_number words
  answers ← answers_at 16 place.1
  Ok (Reply place.0 answers.0)
outcome_of sets named.Lost words = end_at words >> Ok Lost
outcome_of sets named.Spent words = do
  words ← named_at cause_tail sets words
  end_at words
  Ok Spent
outcome_of sets named.Open words = end_at words >> Ok Open

-- ---- commands

-- why a send was refused
abbrev pub refusal_tail : List ℕ → Option Tail
refusal_tail word =
    if bytes_eq word (codes "self") then Some Nothing else (if bytes_eq word (codes "down") then Some Set
    else (if bytes_eq word (codes "status") then Some MaybeStatus
    else (if bytes_eq word (codes "pinned") then Some Nothing
    else (if bytes_eq word (codes "setlocked") then Some Set
    else (if bytes_eq word (codes "locked") then Some Nothing else None)))))

-- why a send was given up
abbrev pub abort_tail : List ℕ → Option Tail
abort_tail word =
    if bytes_eq word (codes "drained") then Some Nothing else (if bytes_eq word (codes "closed") then Some Nothing
    else (if bytes_eq word (codes "setdown") then Some Set
    else (if bytes_eq word (codes "stopped") then Some Nothing
    else (if bytes_eq word (codes "setlocked") then Some Nothing
    else (if bytes_eq word (codes "receiving") then Some Count
    else (if bytes_eq word (codes "sender") then Some Set
    else (if bytes_eq word (codes "wrong") then Some FoundStatus else None)))))))

-- the other outcomes of a command
abbrev pub ending_tail : List ℕ → Option Tail
ending_tail word =
    if bytes_eq word (codes "moved") then Some Nothing else (if bytes_eq word (codes "done") then Some Nothing
    else (if bytes_eq word (codes "late") then Some Nothing
    else (if bytes_eq word (codes "wasdown") then Some Nothing
    else (if bytes_eq word (codes "wasup") then Some Nothing
    else (if bytes_eq word (codes "open") then Some Nothing
    else (if bytes_eq word (codes "balanced") then Some Count
    else (if bytes_eq word (codes "stuck") then Some Count else None)))))))

-- what became of a command, by its name and the words after it
abbrev pub ending_of : ℕ → List ℕ → Words → Told Words
ending_of sets name words =
    if bytes_eq name (codes "refused") then named_at refusal_tail sets words
    else (if bytes_eq name (codes "aborted") then named_at abort_tail sets words
    else (known (ending_tail name) >>= (λ tail. tail_at sets tail words)))

abbrev pub ending_at : ℕ → Words → Told Words
ending_at sets words = do
  word ← word_at words
  ending_of sets word.0 word.1
