-- The lines of scripts, as their words.
use Rattle.std.specs.Prelude.{ℕ, ◌==◌, Bool, true, if◌then◌else◌, List, [], ◌∷◌, codes, slice_index, Option, Some, None, Result, Ok, Err}
use Rattle.std.specs.Str.{bytes_eq}
use Rattle.vs_base.specs.declared.numbers.Mode.{Mode}
use Rattle.vs_base.specs.declared.numbers.Mode.TheVariants.{Ro, Rw}
use Rattle.vs_script.specs.declared.command.Command.{Command}
use Rattle.vs_script.specs.declared.command.Command.TheVariants as command
use Rattle.vs_script.specs.declared.command_word.CommandWord.{CommandWord}
use Rattle.vs_script.specs.declared.command_word.CommandWord.TheVariants.{Send, Pin, Unpin, Close, Cut, Stop, Restart, Balance}
use Rattle.vs_script.specs.declared.fault.ScriptKind.{ScriptKind}
use Rattle.vs_script.specs.declared.fault.ScriptKind.TheVariants.{BadHeader, BadWord, BadSet}
use Rattle.vs_script.specs.declared.header.Header.{Header}
use Rattle.vs_script.specs.declared.header.Header.TheVariants.{Client, Operator}
use Rattle.vs_script.specs.Calls.{Call}
use Rattle.vs_script.specs.Words.{◌>>=◌, ◌>>◌, or_bad, bad_if, Read, word_at, end_at, number_at, bucket_at, set_at, client_at}
use Rattle.vs_script.specs.Operations.{ops_at}

-- the line has no word, or is a comment: its first word begins with `#`
abbrev pub is_skipped : List (List ℕ) → Bool
is_skipped [] = true
is_skipped (word ∷ words) = slice_index word 0 == 35

-- `client` or `operator` alone
abbrev pub header_of : List (List ℕ) → Result Header ScriptKind
header_of (word ∷ []) =
    if bytes_eq word (codes "client") then Ok Client
    else (if bytes_eq word (codes "operator") then Ok Operator else Err BadHeader)
header_of words = Err BadHeader

-- ---- calls

abbrev pub mode_of : List ℕ → Option Mode
mode_of word =
    if bytes_eq word (codes "ro") then Some Ro
    else (if bytes_eq word (codes "rw") then Some Rw else None)

abbrev pub mode_at : List (List ℕ) → Read Mode
mode_at words = do
  word ← word_at words
  mode ← or_bad (mode_of word.0) BadWord
  Ok (mode, word.1)

-- a call over m buckets
abbrev pub call_of : ℕ → List (List ℕ) → Result Call ScriptKind
call_of m words = do
  mode ← mode_at words
  bucket ← bucket_at m mode.1
  ops ← ops_at mode.0 16 bucket.1
  Ok (record { mode = mode.0; bucket = bucket.0; ops = ops })

-- ---- commands

-- the command that a word names
abbrev pub command_word : List ℕ → Option CommandWord
command_word word =
    if bytes_eq word (codes "send") then Some Send
    else (if bytes_eq word (codes "pin") then Some Pin
    else (if bytes_eq word (codes "unpin") then Some Unpin
    else (if bytes_eq word (codes "close") then Some Close
    else (if bytes_eq word (codes "cut") then Some Cut
    else (if bytes_eq word (codes "stop") then Some Stop
    else (if bytes_eq word (codes "restart") then Some Restart
    else (if bytes_eq word (codes "balance") then Some Balance else None)))))))

abbrev pub command_word_at : List (List ℕ) → Read CommandWord
command_word_at words = do
  word ← word_at words
  name ← or_bad (command_word word.0) BadWord
  Ok (name, word.1)

-- the command of this word over m buckets and n sets, whose numbers follow
abbrev pub command_at : ℕ → ℕ → CommandWord → List (List ℕ) → Read Command
command_at m n Send words = do
  bucket ← bucket_at m words
  from ← set_at n bucket.1
  to ← set_at n from.1
  Ok (command.Send bucket.0 from.0 to.0, to.1)
command_at m n Pin words = do
  bucket ← bucket_at m words
  set ← set_at n bucket.1
  Ok (command.Pin bucket.0 set.0, set.1)
command_at m n Unpin words = do
  bucket ← bucket_at m words
  set ← set_at n bucket.1
  Ok (command.Unpin bucket.0 set.0, set.1)
command_at m n Close words = do
  from ← set_at n words
  to ← set_at n from.1
  bad_if (from.0 == to.0) BadSet
  Ok (command.Close from.0 to.0, to.1)
command_at m n Cut words = do
  client ← client_at words
  call ← number_at client.1
  Ok (command.Cut client.0 call.0, call.1)
command_at m n Stop words = do
  set ← set_at n words
  Ok (command.Stop set.0, set.1)
command_at m n Restart words = do
  set ← set_at n words
  Ok (command.Restart set.0, set.1)
command_at m n Balance words = Ok (command.Balance, words)

-- a command over m buckets and n sets
abbrev pub command_of : ℕ → ℕ → List (List ℕ) → Result Command ScriptKind
command_of m n words = do
  name ← command_word_at words
  command ← command_at m n name.0 name.1
  end_at command.1
  Ok command.0
