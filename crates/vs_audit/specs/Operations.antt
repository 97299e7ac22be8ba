-- The operations of an entry and their answers, as words.
use Rattle.std.specs.Prelude.{ℕ, Bool, if◌then◌else◌, List, [], ◌∷◌, ◌++◌, codes, Option, Some, None, Ok, Err}
use Rattle.std.specs.List.{list_all}
use Rattle.std.specs.Ordering.{is_lt}
use Rattle.std.specs.Str.{bytes_eq}
use Rattle.vs_rows.specs.RowMap.{RowMap, key_cmp}
use Rattle.vs_rows.specs.Said.{Said, Value, NoValue, Done, Exists, Differs, Number, Pairs}
use Rattle.vs_rows.specs.declared.op.Op.{Op}
use Rattle.vs_rows.specs.declared.op.Op.TheVariants as op
use Rattle.vs_audit.specs.declared.op_word.OpWord.{OpWord}
use Rattle.vs_audit.specs.declared.op_word.OpWord.TheVariants.{Get, Put, Insert, Delete, Swap, Count, Scan}
use Rattle.vs_audit.specs.declared.answer_word.AnswerWord.{AnswerWord}
use Rattle.vs_audit.specs.declared.answer_word.AnswerWord.TheVariants as answer
use Rattle.vs_audit.specs.Reading.{◌>>=◌, ◌>>◌, many_at, listed_at}
use Rattle.vs_audit.specs.Words.{Words, Bad, Read, only_if, known, word_at, number_at, any_number, key_at, value_at}

-- ---- operations, up to the word `=>`

-- the operation that a word names
abbrev pub op_word : List ℕ → Option OpWord
op_word word =
    if bytes_eq word (codes "get") then Some Get else (if bytes_eq word (codes "put") then Some Put
    else (if bytes_eq word (codes "insert") then Some Insert
    else (if bytes_eq word (codes "delete") then Some Delete
    else (if bytes_eq word (codes "swap") then Some Swap
    else (if bytes_eq word (codes "count") then Some Count
    else (if bytes_eq word (codes "scan") then Some Scan else None))))))

-- the operation of this word, whose keys, values and numbers follow
abbrev pub op_of : OpWord → Words → Read Op
op_of Get words = do
  key ← key_at words
  Ok (op.Get key.0, key.1)
op_of Put words = do
  key ← key_at words
  value ← value_at key.1
  Ok (op.Put key.0 value.0, value.1)
op_of Insert words = do
  key ← key_at words
  value ← value_at key.1
  Ok (op.Insert key.0 value.0, value.1)
op_of Delete words = do
  key ← key_at words
  Ok (op.Delete key.0, key.1)
op_of Swap words = do
  key ← key_at words
  old ← value_at key.1
  new ← value_at old.1
  Ok (op.Swap key.0 old.0 new.0, new.1)
op_of Count words = Ok (op.Count, words)
op_of Scan words = do
  key ← key_at words
  count ← number_at 1 100 key.1
  Ok (op.Scan key.0 count.0, count.1)

abbrev pub op_at : Words → Read Op
op_at words = do
  word ← word_at words
  name ← known (op_word word.0)
  op_of name word.1

-- after an operation stands `=>`, or `;` and what `ops` reads
abbrev pub after_op : (Words → Read (List Op)) → Words → Read (List Op)
after_op ops [] = Err Bad
after_op ops (mark ∷ words) =
    if bytes_eq mark (codes "=>") then Ok ([], words) else (if bytes_eq mark (codes ";") then ops words else Err Bad)

-- so many operations at most
abbrev pub ops_at : ℕ → Words → Read (List Op)
ops_at most words = listed_at Bad op_at after_op most words

-- ---- answers, up to the end of the line

-- the key is above all those of the rows before it
abbrev pub is_above : RowMap → List ℕ → Bool
is_above rows key = list_all (λ row. is_lt (key_cmp row.0 key)) rows

-- a key and a value, above the rows before it
abbrev pub pair_at : RowMap → Words → Read (List ℕ × List ℕ)
pair_at rows words = do
  key ← key_at words
  value ← value_at key.1
  only_if (is_above rows key.0)
  Ok ((key.0, value.0), value.1)

abbrev pub with_row : RowMap → List ℕ × List ℕ → RowMap
with_row rows row = rows ++ row ∷ []

-- so many pairs
abbrev pub pairs_at : ℕ → Words → Read RowMap
pairs_at count words = many_at pair_at with_row count [] words

-- the answer that a word names
abbrev pub answer_word : List ℕ → Option AnswerWord
answer_word word =
    if bytes_eq word (codes "value") then Some answer.Value else (if bytes_eq word (codes "none") then Some answer.NoValue
    else (if bytes_eq word (codes "done") then Some answer.Done
    else (if bytes_eq word (codes "exists") then Some answer.Exists
    else (if bytes_eq word (codes "differs") then Some answer.Differs
    else (if bytes_eq word (codes "number") then Some answer.Number
    else (if bytes_eq word (codes "pairs") then Some answer.Pairs else None))))))

-- the answer of this word, whose value, number or pairs follow
abbrev pub answer_of : AnswerWord → Words → Read Said
answer_of answer.Value words = do
  value ← value_at words
  Ok (Value value.0, value.1)
answer_of answer.NoValue words = Ok (NoValue, words)
answer_of answer.Done words = Ok (Done, words)
answer_of answer.Exists words = Ok (Exists, words)
answer_of answer.Differs words = Ok (Differs, words)
answer_of answer.Number words = do
  number ← any_number words
  Ok (Number number.0, number.1)
answer_of answer.Pairs words = do
  count ← number_at 0 1000 words
  pairs ← pairs_at count.0 count.1
  Ok (Pairs pairs.0, pairs.1)

abbrev pub answer_at : Words → Read Said
answer_at words = do
  word ← word_at words
  name ← known (answer_word word.0)
  answer_of name word.1

-- after an answer nothing is left, or `;` and what `answers` reads
abbrev pub after_answer : (Words → Read (List Said)) → Words → Read (List Said)
after_answer answers [] = Ok ([], [])
after_answer answers (mark ∷ words) = if bytes_eq mark (codes ";") then answers words else Err Bad

-- so many answers at most
abbrev pub answers_at : ℕ → Words → Read (List Said)
answers_at most words = listed_at Bad answer_at after_answer most words
