-- The lines of a report, as their words: what each kind of line tells, where it is one.
use Rattle.std.specs.Prelude.{ℕ, ◌+◌, ◌*◌, ◌-◌, ◌^◌, ◌||◌, Bool, nat_lt, List, codes, Option, Some, None, Ok}
use Rattle.std.specs.Str.{bytes_eq}
use Rattle.vs_rows.specs.RowMap.{RowMap}
use Rattle.vs_audit.specs.Account.{Entry, Call}
use Rattle.vs_audit.specs.Legal.{number_of}
use Rattle.vs_audit.specs.Operations.{ops_at, answers_at, pair_at}
use Rattle.vs_audit.specs.Outcomes.{status_at, outcome_word, outcome_of, ending_at}
use Rattle.vs_audit.specs.Reading.{◌>>=◌, ◌>>◌, many_at}
use Rattle.vs_audit.specs.Words.{Words, Told, Read, only_if, known, word_at, after_word, past_number, end_at, number_at, any_number, count_at, id_at}
use Rattle.vs_audit.specs.declared.heads.Size.{Size}
use Rattle.vs_audit.specs.declared.heads.Head.{Head}

-- `cluster N M`
abbrev pub cluster_line : Words → Told Size
cluster_line words = do
  words ← after_word (codes "cluster") words
  sets ← number_at 1 32 words
  buckets ← number_at 1 30000 sets.1
  end_at buckets.1
  Ok (record { sets = sets.0; buckets = buckets.0 })

-- `up` or `down`
abbrev pub is_state : List ℕ → Bool
is_state word = bytes_eq word (codes "up") || bytes_eq word (codes "down")

-- so many counts
abbrev pub counts_at : ℕ → Words → Read (List ℕ)
counts_at count words = many_at {T = ℕ} (λ _ words. count_at words) (λ n _. n) count 0 words

-- `set S up` or `set S down`, and six counts
abbrev pub set_line : ℕ → Words → Told (Unit {0})
set_line s words = do
  words ← after_word (codes "set") words
  number ← number_at s s words
  state ← word_at number.1
  only_if (is_state state.0)
  counts ← counts_at 6 state.1
  end_at counts.1

-- a set's number and its status, where that set stands first, and nothing else
abbrev pub entry_at : ℕ → ℕ → Words → Read (Unit {0})
entry_at sets s words = from_set (past_number s words)
  where
    from_set : Option Words → Read (Unit {0})
    from_set (Some rest) = status_at sets rest >>= (λ rest. Ok (tt, rest))
    from_set None = Ok (tt, words)

-- each set in order, where it has an entry
abbrev pub entries_at : ℕ → Words → Read (List (Unit {0}))
entries_at sets words = many_at (entry_at sets) (λ s _. s + 1) sets 1 words

-- `bucket B`, and the sets that have an entry of it
abbrev pub bucket_line : ℕ → ℕ → Words → Told (Unit {0})
bucket_line sets b words = do
  words ← after_word (codes "bucket") words
  number ← number_at b b words
  entries ← entries_at sets number.1
  end_at entries.1

-- `history B ROWS WRITES READS`, for a bucket above the last, and with a write or a read
abbrev pub history_line : ℕ → ℕ → Words → Told Head
history_line buckets last words = do
  words ← after_word (codes "history") words
  bucket ← number_at (last + 1) buckets words
  rows ← any_number bucket.1
  writes ← any_number rows.1
  reads ← any_number writes.1
  end_at reads.1
  only_if (nat_lt 0 writes.0 || nat_lt 0 reads.0)
  Ok (record { bucket = bucket.0; rows = rows.0; writes = writes.0; reads = reads.0 })

-- `row K V`, above the rows before it
abbrev pub row_line : RowMap → Words → Told (List ℕ × List ℕ)
row_line rows words = do
  words ← after_word (codes "row") words
  row ← pair_at rows words
  end_at row.1
  Ok row.0

-- `write PLACE C L OPS => ANSWERS`, or with `read`
abbrev pub entry_line : List ℕ → ℕ → Words → Told Entry
entry_line name line words = do
  words ← after_word name words
  place ← any_number words
  id ← id_at place.1
  ops ← ops_at 16 id.1
  answers ← answers_at 16 ops.1
  Ok (record { line = line; id = id.0; ops = ops.0; answers = answers.0; place = place.0 })

-- `call C L` and what became of it, for a call above the last
abbrev pub call_line : ℕ → ℕ → ℕ → Words → Told Call
call_line sets last line words = do
  words ← after_word (codes "call") words
  id ← id_at words
  word ← word_at id.1
  name ← known (outcome_word word.0)
  outcome ← outcome_of sets name word.1
  only_if (nat_lt last (number_of id.0))
  Ok (record { line = line; id = id.0; outcome = outcome })

-- `command O L` and what became of it, for a command above the last: its number, by operator and
-- then by command
abbrev pub command_line : ℕ → ℕ → Words → Told ℕ
command_line sets last words = do
  words ← after_word (codes "command") words
  operator ← number_at 1 16 words
  command ← number_at 1 (2 ^ 32 - 1) operator.1
  words ← ending_at sets command.1
  end_at words
  only_if (nat_lt last (operator.0 * 2 ^ 32 + command.0))
  Ok (operator.0 * 2 ^ 32 + command.0)

-- `end`
abbrev pub end_line : Words → Told (Unit {0})
end_line words = after_word (codes "end") words >>= (λ words. end_at words)
