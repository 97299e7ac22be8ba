-- The operations of a call, as the words of its line.
use Rattle.std.specs.Prelude.{ℕ, zero, suc, Bool, true, false, ◌&&◌, if◌then◌else◌, List, [], ◌∷◌, codes, Option, Some, None, Result, Ok, Err}
use Rattle.std.specs.Str.{bytes_eq}
use Rattle.vs_base.specs.declared.numbers.Mode.{Mode}
use Rattle.vs_base.specs.declared.numbers.Mode.TheVariants.{Ro, Rw}
use Rattle.vs_rows.specs.declared.op.Op.{Op}
use Rattle.vs_rows.specs.declared.op.Op.TheVariants as op
use Rattle.vs_script.specs.declared.fault.ScriptKind.{ScriptKind}
use Rattle.vs_script.specs.declared.fault.ScriptKind.TheVariants.{BadWord, WriteInRo, BadScan, TooManyOps}
use Rattle.vs_script.specs.declared.op_word.OpWord.{OpWord}
use Rattle.vs_script.specs.declared.op_word.OpWord.TheVariants.{Get, Put, Insert, Delete, Swap, Count, Scan}
use Rattle.vs_script.specs.Words.{◌>>=◌, ◌>>◌, or_bad, bad_if, Read, word_at, key_at, value_at, number_to}

-- the operation that a word names
abbrev pub op_word : List ℕ → Option OpWord
op_word word =
    if bytes_eq word (codes "get") then Some Get else (if bytes_eq word (codes "put") then Some Put
    else (if bytes_eq word (codes "insert") then Some Insert
    else (if bytes_eq word (codes "delete") then Some Delete
    else (if bytes_eq word (codes "swap") then Some Swap
    else (if bytes_eq word (codes "count") then Some Count
    else (if bytes_eq word (codes "scan") then Some Scan else None))))))

abbrev pub is_write : OpWord → Bool
is_write Get = false
is_write Put = true
is_write Insert = true
is_write Delete = true
is_write Swap = true
is_write Count = false
is_write Scan = false

abbrev pub is_ro : Mode → Bool
is_ro Ro = true
is_ro Rw = false

-- the word of an operation in a call of this mode
abbrev pub op_word_at : Mode → List (List ℕ) → Read OpWord
op_word_at mode words = do
  word ← word_at words
  name ← or_bad (op_word word.0) BadWord
  bad_if (is_ro mode && is_write name) WriteInRo
  Ok (name, word.1)

-- the operation of this word, whose keys, values and numbers follow
abbrev pub op_of : OpWord → List (List ℕ) → Read Op
op_of Get words = do
  key ← key_at words
  Ok (op.Get key.0, key.1)
op_of Put words = do
  key ← key_at words
  value ← value_at key.1
  Ok (op.Put key.0 value.0, value.1)
op_of Insert words = do
  key ← key_at words
  value ← value_at key.1
  Ok (op.Insert key.0 value.0, value.1)
op_of Delete words = do
  key ← key_at words
  Ok (op.Delete key.0, key.1)
op_of Swap words = do
  key ← key_at words
  old ← value_at key.1
  new ← value_at old.1
  Ok (op.Swap key.0 old.0 new.0, new.1)
op_of Count words = Ok (op.Count, words)
op_of Scan words = do
  key ← key_at words
  count ← number_to 100 BadScan key.1
  Ok (op.Scan key.0 count.0, count.1)

-- after an operation nothing is left, or the mark `;` and what `ops` reads
abbrev pub after_op : (List (List ℕ) → Result (List Op) ScriptKind) → List (List ℕ)
    → Result (List Op) ScriptKind
after_op ops [] = Ok []
after_op ops (word ∷ words) = if bytes_eq word (codes ";") then ops words else Err BadWord

-- the operations of a call of this mode, of which there may be so many
unfoldable pub ops_at : Mode → ℕ → List (List ℕ) → Result (List Op) ScriptKind
ops_at mode zero words = op_word_at mode words >> Err TooManyOps
ops_at mode (suc more) words = do
  word ← op_word_at mode words
  op ← op_of word.0 word.1
  ops ← after_op (ops_at mode more) op.1
  Ok (op.0 ∷ ops)
