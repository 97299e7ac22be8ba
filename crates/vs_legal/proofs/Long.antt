-- The report has a line for each row, each write and each read of a history, so that it is longer than these are many.
use Rattle.std.proofs.Common.{◌≡◌, ℕ, zero, suc, ◌+◌, ◌*◌, ◌≤◌, Bool, true, false, List, [], ◌∷◌, ◌++◌, length, ap, inl, inr, arith}
use Rattle.std.specs.Prelude.{◌&&◌, codes, not, if◌then◌else◌}
use Rattle.std.specs.List.{flat_map, AllByRecursion}
use Rattle.std.proofs.lemmas.Bool.{cases_lt}
use Rattle.std.proofs.lemmas.Grind.{flat_map-append}
use Rattle.std.proofs.lemmas.List.{length-append}
use Rattle.vs_history.specs.History.{Entry, History}
use Rattle.vs_rows.specs.RowMap.{RowMap}
use Rattle.vs_rows.specs.declared.op.Op.{Op}
use Rattle.vs_rows.specs.declared.op.Op.TheVariants.{Get, Put, Insert, Delete, Swap, Count, Scan}
use Rattle.vs_machine.specs.Kinds.Connections.{is_null}
use Rattle.vs_machine.specs.Report.{word, number, lines, op_text, ops_text, answers_text, row_line, history_entry, history_head, history_lines, numbers_to, report, cluster_line, set_line, bucket_line, call_lines, command_lines}
use Rattle.vs_machine.specs.State.{State, sets_of}
use Rattle.vs_legal.specs.Account.{is_told}

-- ---- lines

pub lines_long : {A : Type 0} (text : A → List ℕ) (xs : List A) → AllByRecursion (λ x. 15 ≤ length (text x)) xs → 16 * length xs ≤ length (lines text xs)
lines_long text [] each = omega arith
lines_long text (x ∷ xs) each =
    omega (arith, each.0, lines_long text xs each.1, length-append (text x ++ codes "\n") (lines text xs), length-append (text x) (codes "\n"))

pub rows_long : (rows : RowMap) → length rows ≤ length (lines row_line rows)
rows_long [] = omega arith
rows_long (row ∷ rows) =
    omega (arith, rows_long rows, length-append (row_line row ++ codes "\n") (lines row_line rows), length-append (row_line row) (codes "\n"))

-- ---- an entry

op_long : (op : Op) → 3 ≤ length (op_text op)
op_long (Get k) = omega arith
op_long (Put k v) = omega arith
op_long (Insert k v) = omega arith
op_long (Delete k) = omega arith
op_long (Swap k old new) = omega arith
op_long Count = omega arith
op_long (Scan k n) = omega arith

ops_long : (ops : List Op) → 1 ≤ length ops → 3 ≤ length (ops_text ops)
ops_long [] some = absurd (omega arith)
ops_long (op ∷ ops) some =
    let rest = flat_map (λ op. codes " ; " ++ op_text op) ops in
    omega (arith, op_long op, length-append (op_text op) rest)

pub entry_long : (kind : List ℕ) (e : Entry) → 4 ≤ length kind → 1 ≤ length e.ops → 15 ≤ length (history_entry kind e)
entry_long kind e long some =
    let place = number e.place in
    let client = number e.id.client in
    let call = number e.id.call in
    let ops = word (ops_text e.ops) in
    let answers = word (answers_text e.answers) in
    omega (
      arith,
      long,
      ops_long e.ops some,
      length-append kind place,
      length-append (kind ++ place) client,
      length-append (kind ++ place ++ client) call,
      length-append (kind ++ place ++ client ++ call) ops,
      length-append (kind ++ place ++ client ++ call ++ ops) (codes " =>"),
      length-append (kind ++ place ++ client ++ call ++ ops ++ codes " =>") answers,
    )

-- ---- a history

pub history_long : (b : ℕ) (h : History) → is_told h ≡ true
    → length (lines row_line h.base) + length (lines (history_entry (codes "write")) h.writes) + length (lines (history_entry (codes "read")) h.reads) ≤ length (history_lines b h)
history_long b h told =
    by_null (lines row_line h.base) (lines (history_entry (codes "write")) h.writes) (lines (history_entry (codes "read")) h.reads) (is_null h.writes && is_null h.reads) told
  where
    by_null : (rows writes reads : List ℕ) (n : Bool) → not n ≡ true → length rows + length writes + length reads ≤ length (if n then [] else history_head b h ++ rows ++ writes ++ reads)
    by_null rows writes reads true told = absurd cc
    by_null rows writes reads false told = omega (arith, length-append (history_head b h) rows, length-append (history_head b h ++ rows) writes, length-append (history_head b h ++ rows ++ writes) reads)

-- ---- the report

among : (f : ℕ → List ℕ) (n b : ℕ) → 1 ≤ b → b ≤ n → length (f b) ≤ length (flat_map f (numbers_to n))
among f zero b low high = absurd (omega arith)
among f (suc n) b low high =
    elim (cases_lt b (suc n)) [
      | inl below ↦ rw (flat_map-append f (numbers_to n) (suc n ∷ [])) (omega (arith, among f n b low (omega arith), length-append (flat_map f (numbers_to n)) (flat_map f (suc n ∷ []))))
      | inr above ↦
          let same : suc n ≡ b = omega arith in
          let last : length (f (suc n)) ≡ length (f b) = ap (λ k. length (f k)) same in
          rw (flat_map-append f (numbers_to n) (suc n ∷ []))
          (omega (arith, last, length-append (flat_map f (numbers_to n)) (flat_map f (suc n ∷ [])), length-append (f (suc n)) []))
    ]

pub report_long : (s : State) (b : ℕ) → 1 ≤ b → b ≤ s.config.bucket_count → length (history_lines b (s.bucket b).history) ≤ length (report s)
report_long s b low high =
    let first = cluster_line s ++ codes "\n" in
    let sets = lines (set_line s) (numbers_to (sets_of s)) in
    let buckets = lines (bucket_line s) (numbers_to s.config.bucket_count) in
    let histories = flat_map (λ b. history_lines b (s.bucket b).history) (numbers_to s.config.bucket_count) in
    let calls = flat_map (λ c. call_lines c (s.client c)) (numbers_to s.clients) in
    let commands = flat_map (λ k. command_lines k (s.operator k)) (numbers_to s.operators) in
    omega (
      arith,
      among (λ b. history_lines b (s.bucket b).history) s.config.bucket_count b low high,
      length-append (first ++ sets) buckets,
      length-append (first ++ sets ++ buckets) histories,
      length-append (first ++ sets ++ buckets ++ histories) calls,
      length-append (first ++ sets ++ buckets ++ histories ++ calls) commands,
      length-append (first ++ sets ++ buckets ++ histories ++ calls ++ commands) (codes "end\n"),
    )
