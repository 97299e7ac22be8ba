-- What reads answer: the rows that a bucket has after the writes, and the answers to the operations of each read on them.
use Rattle.std.specs.Prelude.{ℕ, ◌==◌, List, [], ◌++◌, length, map, filter, codes}
use Rattle.std.specs.List.{flat_map, enumerate_from}
use Rattle.vs_rows.specs.declared.op.Op.{Op}
use Rattle.vs_rows.specs.Operations.{answers_to, rows_after}
use Rattle.vs_rows.specs.RowMap.{RowMap}
use Rattle.vs_machine.specs.Report.{word, number, lines, answers_text}
use Rattle.vs_script.specs.Calls.{Call}

-- the operations of the calls on a bucket, in the order of the calls
abbrev pub ops_on : ℕ → List Call → List Op
ops_on bucket calls = flat_map (λ k. k.ops) (filter (λ k. k.bucket == bucket) calls)

-- the rows that a bucket has after these calls
abbrev pub rows_in : List Call → ℕ → RowMap
rows_in calls bucket = rows_after [] (ops_on bucket calls)

-- a call of a client, by both numbers
pub record Read : Type 0 where
  pub client : ℕ
  pub call : ℕ
  pub bucket : ℕ
  pub ops : List Op

abbrev pub read : ℕ → ℕ × Call → Read
read client (n, k) =
    record { client = client; call = n; bucket = k.bucket; ops = k.ops }

-- the calls of a client, which are numbered from 1
abbrev pub client_reads : ℕ → List Call → List Read
client_reads client calls = map (read client) (enumerate_from 1 calls)

-- the calls of all clients, which are numbered from 1: client by client
abbrev pub reads_of : List (List Call) → List Read
reads_of clients = flat_map (λ (client, calls). client_reads client calls) (enumerate_from 1 clients)

-- a read and what it answers, where each bucket has these rows
abbrev pub read_text : (ℕ → RowMap) → Read → List ℕ
read_text rows r =
    codes "call" ++ number r.client ++ number r.call
    ++ word (answers_text (answers_to (rows r.bucket) r.ops))

-- all of them
abbrev pub reads_text : (ℕ → RowMap) → List Read → List ℕ
reads_text rows reads =
    codes "reads" ++ number (length reads) ++ codes "\n" ++ lines (read_text rows) reads
    ++ codes "end\n"
