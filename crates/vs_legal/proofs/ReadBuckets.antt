-- The history of each bucket is read from its lines.
use Rattle.std.proofs.Common.{◌≡◌, ℕ, zero, suc, ◌+◌, ◌<◌, ◌≤◌, ◌^◌, ◌-◌, Bool, true, false, List, [], ◌∷◌, ◌++◌, map, length, Ok, refl, ap, ◌∙◌, arith, append_assoc, lit<}
use Rattle.std.specs.Prelude.{◌&&◌, ◌||◌, codes, nat_lt, filter}
use Rattle.std.specs.Fmt.{decimal}
use Rattle.std.specs.List.{flat_map, AllByRecursion}
use Rattle.std.proofs.lemmas.Bool.Decides.{nat_tests}
use Rattle.vs_history.specs.History as history
use Rattle.vs_machine.specs.Kinds.Connections.{is_null}
use Rattle.vs_audit.specs.Account.{History}
use Rattle.vs_audit.specs.Reading.{all_at}
use Rattle.vs_audit.specs.Report.{begins, history_at}
use Rattle.vs_audit.specs.ReportLines as lines
use Rattle.vs_audit.specs.Words.{Words}
use Rattle.vs_legal.specs.Account as account
use Rattle.vs_legal.proofs.Words.Spelled.{are_words}
use Rattle.vs_legal.proofs.Words.Operations.{AreNamedRows}
use Rattle.vs_legal.proofs.Words.Entries.{row_words}
use Rattle.vs_legal.proofs.Words.Report.{entry_line, head_tail, body_lines, history_lines}
use Rattle.vs_legal.proofs.Spelled.{decimal_word}
use Rattle.vs_legal.proofs.ReadOps.{number_reads}
use Rattle.vs_legal.proofs.ReadAnswers.{none_below}
use Rattle.vs_legal.proofs.ReadLines.{rest_of, line_reads, begins_with, from}
use Rattle.vs_legal.proofs.ReadItems.{EndsKind}
use Rattle.vs_legal.proofs.ReadHistories.{IsReadable, entries_read, rows_read}

-- the numbers of its first line have 64 bits
pub record IsCounted (h : history.History) : Type 0 where
  pub base : length h.base < 2 ^ 64
  pub writes : length h.writes < 2 ^ 64
  pub reads : length h.reads < 2 ^ 64

-- the history is spelled so that it is read again, where it has a write or a read
pub record IsSpelled (h : history.History) : Type 0 where
  pub writes : AllByRecursion IsReadable h.writes
  pub reads : AllByRecursion IsReadable h.reads
  pub base : (is_null h.writes && is_null h.reads) ≡ false → AreNamedRows h.base
  pub counted : (is_null h.writes && is_null h.reads) ≡ false → IsCounted h

some_long : (n : ℕ) → nat_lt 0 (suc n) ≡ true
some_long n = grind (arith, nat_tests)

some_entry : (h : history.History) → (is_null h.writes && is_null h.reads) ≡ false → (nat_lt 0 (length h.writes) || nat_lt 0 (length h.reads)) ≡ true
some_entry h told = by_lists h.writes h.reads told
  where
    by_lists : (ws rs : List history.Entry) → (is_null ws && is_null rs) ≡ false → (nat_lt 0 (length ws) || nat_lt 0 (length rs)) ≡ true
    by_lists [] [] told = absurd cc
    by_lists [] (r ∷ rs) told = some_long (length rs)
    by_lists (w ∷ ws) rs told = rw (some_long (length ws)) refl

head_reads : (buckets last b : ℕ) (h : history.History) → IsSpelled h → last < b → b ≤ buckets → buckets < 2 ^ 64 → (is_null h.writes && is_null h.reads) ≡ false
    → lines.history_line buckets last (codes "history" ∷ head_tail b h) ≡ Ok (record { bucket = b; rows = length h.base; writes = length h.writes; reads = length h.reads })
head_reads buckets last b h is above within fits told =
    let few = is.counted told in
    rw (
      number_reads (last + 1) buckets b (decimal (length h.base) ∷ decimal (length h.writes) ∷ decimal (length h.reads) ∷ []) fits (omega arith) within,
      number_reads 0 (2 ^ 64 - 1) (length h.base) (decimal (length h.writes) ∷ decimal (length h.reads) ∷ []) (lit< tt) (omega arith) (omega (arith, few.base)),
      number_reads 0 (2 ^ 64 - 1) (length h.writes) (decimal (length h.reads) ∷ []) (lit< tt) (omega arith) (omega (arith, few.writes)),
      number_reads 0 (2 ^ 64 - 1) (length h.reads) [] (lit< tt) (omega arith) (omega (arith, few.reads)),
      some_entry h told,
    ) refl

pub head_words : (b : ℕ) (h : history.History) → IsCounted h → b < 2 ^ 64 → are_words (head_tail b h) ≡ true
head_words b h few fits = rw (decimal_word b fits, decimal_word (length h.base) few.base, decimal_word (length h.writes) few.writes, decimal_word (length h.reads) few.reads) refl

body_assoc : (h : history.History) (ls : List Words) → body_lines h ++ ls ≡ map row_words h.base ++ (map (entry_line (codes "write")) h.writes ++ (map (entry_line (codes "read")) h.reads ++ ls))
body_assoc h ls =
    append_assoc (map row_words h.base) (map (entry_line (codes "write")) h.writes ++ map (entry_line (codes "read")) h.reads) ls
    ∙ ap (λ (r : List Words). map row_words h.base ++ r) (append_assoc (map (entry_line (codes "write")) h.writes) (map (entry_line (codes "read")) h.reads) ls)

pub history_read : (buckets last b n : ℕ) (h : history.History) (ls : List Words) → IsSpelled h → last < b → b ≤ buckets → buckets < 2 ^ 64 → (is_null h.writes && is_null h.reads) ≡ false
    → history_at buckets last (rest_of n ((codes "history" ∷ head_tail b h) ∷ (body_lines h ++ ls))) ≡ Ok (account.history_at n b h, rest_of (n + account.lines_of h) ls)
history_read buckets last b n h ls is above within fits told =
    let base = is.base told in
    let reads = map (entry_line (codes "read")) h.reads ++ ls in
    let writes = map (entry_line (codes "write")) h.writes ++ reads in
    let end : n + 1 + length h.base + length h.writes + length h.reads ≡ n + account.lines_of h = omega arith in
    rw (
      line_reads (λ _ words. lines.history_line buckets last words) n (codes "history") (head_tail b h) (body_lines h ++ ls) (record { bucket = b; rows = length h.base; writes = length h.writes; reads = length h.reads }) refl (head_words b h (is.counted told) (omega arith)) (head_reads buckets last b h is above within fits told),
      body_assoc h ls,
      rows_read h.base [] (n + 1) writes base.named base.rising (none_below h.base),
      entries_read (codes "write") h.writes (n + 1 + length h.base) reads refl refl is.writes,
      entries_read (codes "read") h.reads (n + 1 + length h.base + length h.writes) ls refl refl is.reads,
      end,
    ) refl

-- ---- of all buckets

module _ (hs : ℕ → history.History) where
  abbrev pub all_lines_of : List ℕ → List Words
  all_lines_of bs = flat_map (λ b. history_lines b (hs b)) bs

  abbrev pub told_of : List ℕ → List ℕ
  told_of bs = filter (λ b. account.is_told (hs b)) bs

  abbrev pub told_from : ℕ → List ℕ → List History
  told_from line [] = []
  told_from line (b ∷ bs) = account.history_at line b (hs b) ∷ told_from (line + account.lines_of (hs b)) bs

  abbrev pub told_end : ℕ → List ℕ → ℕ
  told_end line [] = line
  told_end line (b ∷ bs) = told_end (line + account.lines_of (hs b)) bs

module _ (buckets : ℕ) (fits : buckets < 2 ^ 64) (hs : ℕ → history.History) (are : (b : ℕ) → IsSpelled (hs b)) where
  pub histories_read : (m k fuel last n : ℕ) (ls : List Words) → last < k → m ≤ fuel → k + m ≤ buckets + 1 → EndsKind (codes "history") ls
      → all_at (begins (codes "history")) (history_at buckets) (λ _ h. h.bucket) fuel last (rest_of n (all_lines_of hs (from k m) ++ ls))
      ≡ Ok (told_from hs n (told_of hs (from k m)), rest_of (told_end hs n (told_of hs (from k m))) ls)
  unfolding all_at
  histories_read zero k zero last n ls above few within ends = refl
  histories_read zero k (suc fuel) last n ls above few within ends = rw (ends n) refl
  histories_read (suc m) k zero last n ls above few within ends = absurd (omega arith)
  histories_read (suc m) k (suc fuel) last n ls above few within ends =
      by_told (histories_read m (k + 1) (suc fuel) last n ls (omega arith) (omega arith) (omega arith) ends)
      (histories_read m (k + 1) fuel k (n + account.lines_of (hs k)) ls (omega arith) (omega arith) (omega arith) ends)
      (is_null (hs k).writes && is_null (hs k).reads) refl
    where
      by_told : all_at (begins (codes "history")) (history_at buckets) (λ _ h. h.bucket) (suc fuel) last (rest_of n (all_lines_of hs (from (k + 1) m) ++ ls))
          ≡ Ok (told_from hs n (told_of hs (from (k + 1) m)), rest_of (told_end hs n (told_of hs (from (k + 1) m))) ls)
          → all_at (begins (codes "history")) (history_at buckets) (λ _ h. h.bucket) fuel k (rest_of (n + account.lines_of (hs k)) (all_lines_of hs (from (k + 1) m) ++ ls))
          ≡ Ok (told_from hs (n + account.lines_of (hs k)) (told_of hs (from (k + 1) m)), rest_of (told_end hs (n + account.lines_of (hs k)) (told_of hs (from (k + 1) m))) ls)
          → (b : Bool) → (is_null (hs k).writes && is_null (hs k).reads) ≡ b
          → all_at (begins (codes "history")) (history_at buckets) (λ _ h. h.bucket) (suc fuel) last (rest_of n (all_lines_of hs (from k (suc m)) ++ ls))
          ≡ Ok (told_from hs n (told_of hs (from k (suc m))), rest_of (told_end hs n (told_of hs (from k (suc m)))) ls)
      by_told passed told true is = rw is passed
      by_told passed told false is =
          rw (
            is,
            append_assoc (body_lines (hs k)) (all_lines_of hs (from (k + 1) m)) ls,
            begins_with (codes "history") n (codes "history") (head_tail k (hs k)) (body_lines (hs k) ++ (all_lines_of hs (from (k + 1) m) ++ ls)) refl (head_words k (hs k) ((are k).counted is) (omega arith)),
            history_read buckets last k n (hs k) (all_lines_of hs (from (k + 1) m) ++ ls) (are k) above (omega arith) fits is,
            told,
          ) refl
