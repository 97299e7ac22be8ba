-- The account that a report gives, or its first line outside the grammar.
use Rattle.std.specs.Prelude.{ℕ, ◌+◌, Bool, false, List, [], ◌∷◌, length, codes, Result, Ok, Err}
use Rattle.std.specs.Str.{bytes_eq}
use Rattle.vs_rows.specs.RowMap.{RowMap}
use Rattle.vs_text.specs.Split.{lines_of, words_of}
use Rattle.vs_audit.specs.Account.{Entry, History, Call, Account}
use Rattle.vs_audit.specs.Legal.{number_of}
use Rattle.vs_audit.specs.Operations.{with_row}
use Rattle.vs_audit.specs.Reading.{◌>>=◌, ◌>>◌, many_at, all_at}
use Rattle.vs_audit.specs.ReportLines.{cluster_line, set_line, bucket_line, history_line, row_line, entry_line, call_line, command_line, end_line}
use Rattle.vs_audit.specs.Words.{Words, Told}

-- the lines that are still to be read: the number of the first, and all that line feeds separate;
-- the last of these is no line, but what follows the last line feed
pub record Rest : Type 0 where
  pub number : ℕ
  pub lines : List (List ℕ)

-- what is read at the first of some lines, and the lines after it; or the number of the bad line
abbrev pub ReadLines : Type 0 → Type 0
ReadLines A = Result (A × Rest) ℕ

abbrev pub told : {A : Type 0} → ℕ → Told A → Rest → ReadLines A
told number (Ok a) rest = Ok (a, rest)
told number (Err bad) rest = Err number

-- the next line, read so from its number and its words
abbrev pub line_at : {A : Type 0} → (ℕ → Words → Told A) → Rest → ReadLines A
line_at {A} read rest = next rest.number rest.lines
  where
    next : ℕ → List (List ℕ) → ReadLines A
    next number [] = Err number
    next number (last ∷ []) = Err number
    next number (line ∷ more ∷ lines) = told number (read number (words_of line)) (record { number = number + 1; lines = more ∷ lines })

-- the next line begins with this word
abbrev pub begins : List ℕ → Rest → Bool
begins name rest = first rest.lines
  where
    begins_so : List (List ℕ) → Bool
    begins_so [] = false
    begins_so (word ∷ words) = bytes_eq word name

    first : List (List ℕ) → Bool
    first [] = false
    first (last ∷ []) = false
    first (line ∷ more ∷ lines) = begins_so (words_of line)

-- ---- the parts of a report

abbrev pub set_at : ℕ → Rest → ReadLines (Unit {0})
set_at s rest = line_at (λ _ words. set_line s words) rest

abbrev pub sets_at : ℕ → Rest → ReadLines (List (Unit {0}))
sets_at sets rest = many_at set_at (λ s _. s + 1) sets 1 rest

abbrev pub bucket_at : ℕ → ℕ → Rest → ReadLines (Unit {0})
bucket_at sets b rest = line_at (λ _ words. bucket_line sets b words) rest

abbrev pub buckets_at : ℕ → ℕ → Rest → ReadLines (List (Unit {0}))
buckets_at sets buckets rest = many_at (bucket_at sets) (λ b _. b + 1) buckets 1 rest

abbrev pub row_at : RowMap → Rest → ReadLines (List ℕ × List ℕ)
row_at rows rest = line_at (λ _ words. row_line rows words) rest

abbrev pub rows_at : ℕ → Rest → ReadLines RowMap
rows_at count rest = many_at row_at with_row count [] rest

abbrev pub entry_at : List ℕ → ℕ → Rest → ReadLines Entry
entry_at name n rest = line_at (entry_line name) rest

-- so many writes, or reads
abbrev pub entries_at : List ℕ → ℕ → Rest → ReadLines (List Entry)
entries_at name count rest = many_at (entry_at name) (λ n _. n) count 0 rest

-- a history of one of so many buckets, above the last
abbrev pub history_at : ℕ → ℕ → Rest → ReadLines History
history_at buckets last rest = do
  head ← line_at (λ _ words. history_line buckets last words) rest
  rows ← rows_at head.0.rows head.1
  writes ← entries_at (codes "write") head.0.writes rows.1
  reads ← entries_at (codes "read") head.0.reads writes.1
  Ok (record { bucket = head.0.bucket; base = rows.0; writes = writes.0; reads = reads.0 }, reads.1)

-- the histories, by rising bucket
abbrev pub histories_at : ℕ → Rest → ReadLines (List History)
histories_at buckets rest = all_at (begins (codes "history")) (history_at buckets) (λ _ h. h.bucket) buckets 0 rest

abbrev pub call_at : ℕ → ℕ → Rest → ReadLines Call
call_at sets last rest = line_at (call_line sets last) rest

-- the lines of calls, by rising client and then call
abbrev pub calls_at : ℕ → Rest → ReadLines (List Call)
calls_at sets rest = all_at (begins (codes "call")) (call_at sets) (λ _ c. number_of c.id) (length rest.lines) 0 rest

abbrev pub command_at : ℕ → ℕ → Rest → ReadLines ℕ
command_at sets last rest = line_at (λ _ words. command_line sets last words) rest

-- the lines of commands, by rising operator and then command
abbrev pub commands_at : ℕ → Rest → ReadLines (List ℕ)
commands_at sets rest = all_at (begins (codes "command")) (command_at sets) (λ _ n. n) (length rest.lines) 0 rest

-- nothing stands behind the last line feed
abbrev pub nothing_at : Rest → Result (Unit {0}) ℕ
nothing_at rest = ends rest.number rest.lines
  where
    ends : ℕ → List (List ℕ) → Result (Unit {0}) ℕ
    ends number [] = Err number
    ends number ([] ∷ []) = Ok tt
    ends number ((byte ∷ bytes) ∷ []) = Err number
    ends number (line ∷ more ∷ lines) = Err number

-- the account of a report, or its first bad line; lines are numbered from 1
unfoldable pub report_of : List ℕ → Result Account ℕ
report_of text = do
  cluster ← line_at (λ _ words. cluster_line words) (record { number = 1; lines = lines_of text })
  sets ← sets_at cluster.0.sets cluster.1
  buckets ← buckets_at cluster.0.sets cluster.0.buckets sets.1
  histories ← histories_at cluster.0.buckets buckets.1
  calls ← calls_at cluster.0.sets histories.1
  commands ← commands_at cluster.0.sets calls.1
  last ← line_at (λ _ words. end_line words) commands.1
  nothing_at last.1
  Ok (record { buckets = cluster.0.buckets; histories = histories.0; calls = calls.0 })
