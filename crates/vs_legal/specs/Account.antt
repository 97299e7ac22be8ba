-- The account of a cluster's histories and answers, with the lines at which its report has them.
use Rattle.std.specs.Prelude.{ℕ, ◌+◌, ◌&&◌, Bool, not, if◌then◌else◌, List, [], ◌∷◌, ◌++◌, length, map, filter}
use Rattle.std.specs.List.{flat_map, enumerate_from}
use Rattle.vs_base.specs.declared.numbers.CallId.{CallId}
use Rattle.vs_calls.specs.Outcomes as answered
use Rattle.vs_calls.specs.Progress.{is_idle}
use Rattle.vs_history.specs.History as history
use Rattle.vs_machine.specs.Kinds.Connections.{is_null}
use Rattle.vs_machine.specs.Report.{numbers_to}
use Rattle.vs_machine.specs.State.{State, Client, sets_of}
use Rattle.vs_audit.specs.Account.{Entry, History, Outcome, Reply, Lost, Spent, Open, Call, Account}

-- ---- histories

abbrev pub entry_at : ℕ → history.Entry → Entry
entry_at line e = record { line = line; id = e.id; ops = e.ops; answers = e.answers; place = e.place }

-- entries, the first of them at this line
abbrev pub entries_from : ℕ → List history.Entry → List Entry
entries_from line es = map (λ e. entry_at e.0 e.1) (enumerate_from line es)

-- the history of a bucket whose first line is this one: then come its rows, its writes and its reads
abbrev pub history_at : ℕ → ℕ → history.History → History
history_at line b h = record {
  bucket = b;
  base = h.base;
  writes = entries_from (line + 1 + length h.base) h.writes;
  reads = entries_from (line + 1 + length h.base + length h.writes) h.reads;
}

-- how many lines it has
abbrev pub lines_of : history.History → ℕ
lines_of h = 1 + length h.base + length h.writes + length h.reads

-- a history with a write or a read
abbrev pub is_told : history.History → Bool
is_told h = not (is_null h.writes && is_null h.reads)

-- the buckets whose histories are told
abbrev pub told_buckets : State → List ℕ
told_buckets s = filter (λ b. is_told (s.bucket b).history) (numbers_to s.config.bucket_count)

-- the histories of these buckets, the first of them from this line on
abbrev pub histories_from : State → ℕ → List ℕ → List History
histories_from s line [] = []
histories_from s line (b ∷ bs) = history_at line b (s.bucket b).history ∷ histories_from s (line + lines_of (s.bucket b).history) bs

-- the line after them
abbrev pub line_after : State → ℕ → List ℕ → ℕ
line_after s line [] = line
line_after s line (b ∷ bs) = line_after s (line + lines_of (s.bucket b).history) bs

-- ---- calls

abbrev pub outcome_of : answered.Outcome → Outcome
outcome_of (answered.Reply place answers) = Reply place answers
outcome_of answered.Lost = Lost
outcome_of (answered.Spent cause) = Spent

abbrev pub id_of : ℕ → ℕ → CallId
id_of c n = record { client = c; call = n }

-- the calls of a client that were answered, and the present one where that was posted
abbrev pub calls_of : ℕ → Client → List (CallId × Outcome)
calls_of c client =
    map (λ o. (id_of c o.0, outcome_of o.1)) (enumerate_from 1 client.answered)
    ++ (if is_idle client.present.stage then [] else (id_of c (length client.answered + 1), Open) ∷ [])

abbrev pub call_at : ℕ → CallId × Outcome → Call
call_at line c = record { line = line; id = c.0; outcome = c.1 }

-- ---- the whole account

-- the line after those of the cluster, the sets and the buckets
abbrev pub first_history_line : State → ℕ
first_history_line s = 2 + sets_of s + s.config.bucket_count

abbrev pub account_of : State → Account
account_of s =
    let buckets = told_buckets s in
    let calls = flat_map (λ c. calls_of c (s.client c)) (numbers_to s.clients) in
    record {
      buckets = s.config.bucket_count;
      histories = histories_from s (first_history_line s) buckets;
      calls = map (λ c. call_at c.0 c.1) (enumerate_from (line_after s (first_history_line s) buckets) calls);
    }
