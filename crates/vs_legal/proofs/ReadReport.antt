-- A report is read as the account of its histories and answers.
use Rattle.std.proofs.Common.{◌≡◌, ℕ, zero, suc, ◌+◌, ◌<◌, ◌≤◌, ◌^◌, Bool, true, false, List, [], ◌∷◌, ◌++◌, map, length, Ok, refl, ◌∙◌, arith}
use Rattle.std.specs.Prelude.{◌&&◌, codes, if◌then◌else◌}
use Rattle.std.specs.Str.{bytes_eq}
use Rattle.std.specs.List.{list_all, AllByRecursion}
use Rattle.std.proofs.lemmas.List.Folds.{list_all-append}
use Rattle.vs_rows.specs.RowMap.{RowMap}
use Rattle.vs_history.specs.History as history
use Rattle.vs_text.specs.Split.{lines_of}
use Rattle.vs_machine.specs.Kinds.Connections.{is_null}
use Rattle.vs_machine.specs.Report.{kind_count}
use Rattle.vs_machine.specs.State.{State, sets_of}
use Rattle.vs_audit.specs.Account.{History, Call}
use Rattle.vs_audit.specs.Report.{line_at, sets_at, buckets_at, histories_at, calls_at, commands_at, report_of}
use Rattle.vs_audit.specs.ReportLines as lines
use Rattle.vs_audit.specs.Words.{Words, Told}
use Rattle.vs_legal.proofs.Words.Spelled.{is_word, are_words, spelled}
use Rattle.vs_legal.proofs.Words.Statuses.{NamesSetIn}
use Rattle.vs_legal.proofs.Words.Entries.{row_words}
use Rattle.vs_legal.specs.Named.{IsNamedRow}
use Rattle.vs_legal.proofs.Words.Report.{kind_at, entry_line, head_tail, body_lines, history_lines}
use Rattle.vs_legal.proofs.ReadLines.{rest_of, begins_with, from, IsNumbered}
use Rattle.vs_legal.proofs.ReadStatuses.{AreCounts}
use Rattle.vs_legal.proofs.ReadItems.{Item, lines_with, EndsKind}
use Rattle.vs_legal.proofs.ReadHistories.{IsReadable, entry_are_words, row_are_words}
use Rattle.vs_legal.proofs.ReadBuckets.{IsSpelled, head_words, all_lines_of}
use Rattle.vs_legal.proofs.ReadCalls.{IsReadableClient}
use Rattle.vs_legal.proofs.ReadCommands.{IsReadableOperator}

-- what a state's report can be read from
pub record IsReadableState (s : State) : Type 0 where
  pub sets : 1 ≤ sets_of s
  pub sets_few : sets_of s ≤ 32
  pub buckets : 1 ≤ s.config.bucket_count
  pub buckets_few : s.config.bucket_count ≤ 30000
  pub counts : (x : ℕ) → AreCounts (λ x k. kind_count s x (kind_at k)) x
  pub entries : (b x : ℕ) → NamesSetIn (sets_of s) ((s.bucket b).entry x)
  pub histories : (b : ℕ) → IsSpelled (s.bucket b).history
  pub clients : (c : ℕ) → 1 ≤ c → c ≤ s.clients → IsReadableClient (sets_of s) c (s.client c)
  pub calls : (c : ℕ) → length (s.client c).answered + 1 < 2 ^ 32
  pub operators : (o : ℕ) → 1 ≤ o → o ≤ s.operators → IsReadableOperator (sets_of s) o (s.operator o)
  pub commands : (o : ℕ) → length (s.operator o).answered + 1 < 2 ^ 32

-- ---- the parts put together

pub glued : (text : List ℕ) (sets buckets : ℕ) (tail : Words) (S B H C D : List Words) (m3 m4 m5 m6 m7 : ℕ) (hs : List History) (cs : List Call) (u v : List (Unit {0})) (ns : List ℕ)
    → lines_of text ≡ map spelled ((codes "cluster" ∷ tail) ∷ (S ++ (B ++ (H ++ (C ++ (D ++ (codes "end" ∷ []) ∷ [])))))) ++ [] ∷ []
    → line_at (λ _ words. lines.cluster_line words) (rest_of 1 ((codes "cluster" ∷ tail) ∷ (S ++ (B ++ (H ++ (C ++ (D ++ (codes "end" ∷ []) ∷ []))))))) ≡ Ok (record { sets = sets; buckets = buckets }, rest_of 2 (S ++ (B ++ (H ++ (C ++ (D ++ (codes "end" ∷ []) ∷ []))))))
    → sets_at sets (rest_of 2 (S ++ (B ++ (H ++ (C ++ (D ++ (codes "end" ∷ []) ∷ [])))))) ≡ Ok (u, rest_of m3 (B ++ (H ++ (C ++ (D ++ (codes "end" ∷ []) ∷ [])))))
    → buckets_at sets buckets (rest_of m3 (B ++ (H ++ (C ++ (D ++ (codes "end" ∷ []) ∷ []))))) ≡ Ok (v, rest_of m4 (H ++ (C ++ (D ++ (codes "end" ∷ []) ∷ []))))
    → histories_at buckets (rest_of m4 (H ++ (C ++ (D ++ (codes "end" ∷ []) ∷ [])))) ≡ Ok (hs, rest_of m5 (C ++ (D ++ (codes "end" ∷ []) ∷ [])))
    → calls_at sets (rest_of m5 (C ++ (D ++ (codes "end" ∷ []) ∷ []))) ≡ Ok (cs, rest_of m6 (D ++ (codes "end" ∷ []) ∷ []))
    → commands_at sets (rest_of m6 (D ++ (codes "end" ∷ []) ∷ [])) ≡ Ok (ns, rest_of m7 ((codes "end" ∷ []) ∷ []))
    → report_of text ≡ Ok (record { buckets = buckets; histories = hs; calls = cs })
unfolding report_of
glued text sets buckets tail S B H C D m3 m4 m5 m6 m7 hs cs u v ns all cluster set bucket history call command =
    rw (all, cluster, set, bucket, history, call, command) refl

-- ---- which lines end a kind

pub ends_end : (name : List ℕ) → bytes_eq (codes "end") name ≡ false → EndsKind name ((codes "end" ∷ []) ∷ [])
ends_end name other n = begins_with name n (codes "end") [] [] refl refl ∙ other

pub ends_items : {A : Type 0} (P : Item A → Type 0) → ((i : Item A) → P i → are_words i.tail ≡ true) → (name other : List ℕ) (items : List (Item A)) (ls : List Words)
    → is_word name ≡ true → bytes_eq name other ≡ false → AllByRecursion P items → EndsKind other ls → EndsKind other (lines_with name items ++ ls)
ends_items P words name other [] ls word apart are ends n = ends n
ends_items P words name other (i ∷ items) ls word apart are ends n = begins_with other n name i.tail (lines_with name items ++ ls) word (words i are.0) ∙ apart

-- ---- all lines are words

pub all_append : (xs ys : List Words) → list_all are_words xs ≡ true → list_all are_words ys ≡ true → list_all are_words (xs ++ ys) ≡ true
all_append xs ys are others = rw (list_all-append are_words xs ys, are, others) refl

pub numbered_words : (read : ℕ → Words → Told (Unit {0})) (name : List ℕ) (more : ℕ → Words) (m k : ℕ) → is_word name ≡ true → ((j : ℕ) → k ≤ j → j < k + m → IsNumbered read name more j) → list_all are_words (map (λ j. name ∷ more j) (from k m)) ≡ true
numbered_words read name more zero k word each = refl
numbered_words read name more (suc m) k word each =
    rw (word, (each k (omega arith) (omega arith)).0) (numbered_words read name more m (k + 1) word (λ j low high. each j (omega arith) (omega arith)))

rows_words : (rows : RowMap) → AllByRecursion IsNamedRow rows → list_all are_words (map row_words rows) ≡ true
rows_words [] named = refl
rows_words (row ∷ rows) named = rw (row_are_words row named.0) (rows_words rows named.1)

entries_words : (kind : List ℕ) (es : List history.Entry) → is_word kind ≡ true → AllByRecursion IsReadable es → list_all are_words (map (entry_line kind) es) ≡ true
entries_words kind [] word are = refl
entries_words kind (e ∷ es) word are = rw (word, entry_are_words e are.0) (entries_words kind es word are.1)

body_words : (h : history.History) → IsSpelled h → (is_null h.writes && is_null h.reads) ≡ false → list_all are_words (body_lines h) ≡ true
body_words h is told =
    all_append (map row_words h.base) (map (entry_line (codes "write")) h.writes ++ map (entry_line (codes "read")) h.reads) (rows_words h.base (is.base told).named)
    (all_append (map (entry_line (codes "write")) h.writes) (map (entry_line (codes "read")) h.reads) (entries_words (codes "write") h.writes refl is.writes) (entries_words (codes "read") h.reads refl is.reads))

history_words : (b : ℕ) (h : history.History) → IsSpelled h → b < 2 ^ 64 → list_all are_words (history_lines b h) ≡ true
history_words b h is fits = by_null (is_null h.writes && is_null h.reads) refl
  where
    by_null : (n : Bool) → (is_null h.writes && is_null h.reads) ≡ n → list_all are_words (if n then [] else (codes "history" ∷ head_tail b h) ∷ body_lines h) ≡ true
    by_null true none = refl
    by_null false told = rw (head_words b h (is.counted told) fits) (body_words h is told)

pub histories_words : (hs : ℕ → history.History) → ((b : ℕ) → IsSpelled (hs b)) → (m k : ℕ) → k + m < 2 ^ 64 → list_all are_words (all_lines_of hs (from k m)) ≡ true
histories_words hs are zero k fits = refl
histories_words hs are (suc m) k fits =
    all_append (history_lines k (hs k)) (all_lines_of hs (from (k + 1) m)) (history_words k (hs k) (are k) (omega arith)) (histories_words hs are m (k + 1) (omega arith))

pub items_words : {A : Type 0} (P : Item A → Type 0) → ((i : Item A) → P i → are_words i.tail ≡ true) → (name : List ℕ) (items : List (Item A)) → is_word name ≡ true → AllByRecursion P items → list_all are_words (lines_with name items) ≡ true
items_words P words name [] word are = refl
items_words P words name (i ∷ items) word are = rw (word, words i are.0) (items_words P words name items word are.1)

-- ---- as many items as lines at most

pub length_lines : {A : Type 0} (name : List ℕ) (items : List (Item A)) (ls : List Words) → length items ≤ length (map spelled (lines_with name items ++ ls) ++ [] ∷ [])
length_lines name [] ls = omega arith
length_lines name (i ∷ items) ls = omega (arith, length_lines name items ls)
