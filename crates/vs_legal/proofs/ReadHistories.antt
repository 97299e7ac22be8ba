-- Histories are read from their lines.
use Rattle.std.proofs.Common.{◌≡◌, ℕ, suc, ◌+◌, ◌<◌, ◌≤◌, ◌^◌, true, List, [], ◌∷◌, ◌++◌, map, length, Ok, refl, ap, arith}
use Rattle.std.specs.Prelude.{codes, nat_lt}
use Rattle.std.specs.Fmt.{decimal}
use Rattle.std.specs.Str.{bytes_eq}
use Rattle.std.specs.List.{AllByRecursion}
use Rattle.std.proofs.lemmas.Bool.Decides.{Decides-by_and, Decides-ltb}
use Rattle.std.proofs.lemmas.List.Elements.{All-weaker}
use Rattle.vs_rows.specs.Names.{IsName, IsKey, IsValue}
use Rattle.vs_rows.specs.RowMap.{RowMap, IsRising}
use Rattle.vs_rows.specs.Said.{Said, Value, NoValue, Done, Exists, Differs, Number, Pairs}
use Rattle.vs_rows.specs.declared.op.Op.{Op}
use Rattle.vs_rows.specs.declared.op.Op.TheVariants.{Get, Put, Insert, Delete, Swap, Count, Scan}
use Rattle.vs_history.specs.History as history
use Rattle.vs_audit.specs.Reading.{many_at}
use Rattle.vs_audit.specs.Operations.{with_row}
use Rattle.vs_audit.specs.Report.{row_at, entries_at}
use Rattle.vs_audit.specs.ReportLines as lines
use Rattle.vs_audit.specs.Words.{Words}
use Rattle.vs_legal.specs.Account as account
use Rattle.vs_legal.proofs.Words.Spelled.{is_word, are_words}
use Rattle.vs_legal.specs.Named.{IsNamedOp, IsNamedRow}
use Rattle.vs_legal.proofs.Words.Operations.{op_words, more_ops, ops_words, pair_words, pairs_words, answer_words, more_answers, answers_words, IsNamedAnswer}
use Rattle.vs_legal.proofs.Words.Entries.{row_words, AreNamed}
use Rattle.vs_legal.proofs.Words.Report.{entry_line}
use Rattle.vs_legal.proofs.Spelled.{decimal_word, are_append}
use Rattle.vs_legal.proofs.ReadAnswers.{AreAbove, next_above}
use Rattle.vs_legal.proofs.ReadLines.{rest_of, line_reads, row_reads, entry_reads}

-- ---- they are words

pub name_word : (most : ℕ) (w : List ℕ) → IsName most w → is_word w ≡ true
name_word most w is =
    (Decides-by_and (λ b. nat_lt 32 b) (λ b. 32 < b) is_word (Decides-ltb 32) refl (λ _ _. refl) w).1
    (All-weaker (λ b. (0x21 ≤ b) × (b ≤ 0x7E)) (λ b. 32 < b) (λ b in_range. omega (arith, in_range.0)) w is.visible)

key_word : (w : List ℕ) → IsKey w → is_word w ≡ true
key_word w is = name_word 64 w is

value_word : (w : List ℕ) → IsValue w → is_word w ≡ true
value_word w is = name_word 256 w is

op_are_words : (op : Op) → IsNamedOp op → are_words (op_words op) ≡ true
op_are_words (Get k) is = rw (key_word k is) refl
op_are_words (Put k v) is = rw (key_word k is.0, value_word v is.1) refl
op_are_words (Insert k v) is = rw (key_word k is.0, value_word v is.1) refl
op_are_words (Delete k) is = rw (key_word k is) refl
op_are_words (Swap k old new) is = rw (key_word k is.0, value_word old is.1, value_word new is.2) refl
op_are_words Count is = refl
op_are_words (Scan k n) is = rw (key_word k is.0, decimal_word n (omega (arith, is.2))) refl

more_are_words : (ops : List Op) → AllByRecursion IsNamedOp ops → are_words (more_ops ops) ≡ true
more_are_words [] are = refl
more_are_words (op ∷ ops) are = are_append (codes ";" ∷ op_words op) (more_ops ops) (op_are_words op are.0) (more_are_words ops are.1)

pub row_are_words : (row : List ℕ × List ℕ) → IsNamedRow row → are_words (pair_words row) ≡ true
row_are_words row is = rw (key_word row.0 is.0, value_word row.1 is.1) refl

pairs_are_words : (pairs : RowMap) → AllByRecursion IsNamedRow pairs → are_words (pairs_words pairs) ≡ true
pairs_are_words [] are = refl
pairs_are_words (row ∷ rows) are = are_append (pair_words row) (pairs_words rows) (row_are_words row are.0) (pairs_are_words rows are.1)

answer_are_words : (a : Said) → IsNamedAnswer a → are_words (answer_words a) ≡ true
answer_are_words (Value v) is = rw (value_word v is) refl
answer_are_words NoValue is = refl
answer_are_words Done is = refl
answer_are_words Exists is = refl
answer_are_words Differs is = refl
answer_are_words (Number n) is = rw (decimal_word n is) refl
answer_are_words (Pairs pairs) is = rw (decimal_word (length pairs) (omega (arith, is.0))) (pairs_are_words pairs is.1.named)

more_answers_are_words : (given : List Said) → AllByRecursion IsNamedAnswer given → are_words (more_answers given) ≡ true
more_answers_are_words [] are = refl
more_answers_are_words (a ∷ given) are = are_append (codes ";" ∷ answer_words a) (more_answers given) (answer_are_words a are.0) (more_answers_are_words given are.1)

pub answers_are_words : (given : List Said) → AreNamed IsNamedAnswer given → are_words (answers_words given) ≡ true
answers_are_words [] named = absurd named
answers_are_words (a ∷ given) named = are_append (answer_words a) (more_answers given) (answer_are_words a named.0) (more_answers_are_words given named.2)

ops_are_words : (ops : List Op) → AreNamed IsNamedOp ops → are_words (ops_words ops) ≡ true
ops_are_words [] named = absurd named
ops_are_words (op ∷ ops) named = are_append (op_words op) (more_ops ops) (op_are_words op named.0) (more_are_words ops named.2)

-- ---- entries

-- the entry is spelled so that it is read again
pub record IsReadable (e : history.Entry) : Type 0 where
  pub place : e.place < 2 ^ 64
  pub client : 1 ≤ e.id.client
  pub client_few : e.id.client ≤ 64
  pub call : 1 ≤ e.id.call
  pub call_few : e.id.call < 2 ^ 32
  pub ops : AreNamed IsNamedOp e.ops
  pub answers : AreNamed IsNamedAnswer e.answers

abbrev pub entry_tail : history.Entry → Words
entry_tail e = decimal e.place ∷ decimal e.id.client ∷ decimal e.id.call ∷ (ops_words e.ops ++ codes "=>" ∷ answers_words e.answers)

pub entry_are_words : (e : history.Entry) → IsReadable e → are_words (entry_tail e) ≡ true
entry_are_words e is =
    rw (decimal_word e.place is.place, decimal_word e.id.client (omega (arith, is.client_few)), decimal_word e.id.call (omega (arith, is.call_few)))
    (are_append (ops_words e.ops) (codes "=>" ∷ answers_words e.answers) (ops_are_words e.ops is.ops) (answers_are_words e.answers is.answers))

entry_read : (kind : List ℕ) (line : ℕ) (e : history.Entry) → bytes_eq kind kind ≡ true → IsReadable e → lines.entry_line kind line (entry_line kind e) ≡ Ok (account.entry_at line e)
entry_read kind line e same is = entry_reads kind line e.place e.id.client e.id.call e.ops e.answers same is.place is.client is.client_few is.call is.call_few is.ops is.answers

pub entries_read : (kind : List ℕ) (es : List history.Entry) (n : ℕ) (ls : List Words) → is_word kind ≡ true → bytes_eq kind kind ≡ true → AllByRecursion IsReadable es
    → entries_at kind (length es) (rest_of n (map (entry_line kind) es ++ ls)) ≡ Ok (account.entries_from n es, rest_of (n + length es) ls)
unfolding many_at
entries_read kind [] n ls word same are = let e : n ≡ n + 0 = omega arith in ap (λ q. Ok ([], rest_of q ls)) e
entries_read kind (e ∷ es) n ls word same are =
    let next : n + 1 + length es ≡ n + suc (length es) = omega arith in
    rw (
      line_reads (lines.entry_line kind) n kind (entry_tail e) (map (entry_line kind) es ++ ls) (account.entry_at n e) word (entry_are_words e are.0) (entry_read kind n e same are.0),
      entries_read kind es (n + 1) ls word same are.1,
      next,
    ) refl

-- ---- rows

pub rows_read : (rows below : RowMap) (n : ℕ) (ls : List Words) → AllByRecursion IsNamedRow rows → IsRising rows → AreAbove below rows
    → many_at row_at with_row (length rows) below (rest_of n (map row_words rows ++ ls)) ≡ Ok (rows, rest_of (n + length rows) ls)
unfolding many_at
rows_read [] below n ls named rising above = let e : n ≡ n + 0 = omega arith in ap (λ q. Ok ([], rest_of q ls)) e
rows_read (row ∷ rows) below n ls named rising above =
    let next : n + 1 + length rows ≡ n + suc (length rows) = omega arith in
    rw (
      line_reads (λ _ words. lines.row_line below words) n (codes "row") (pair_words row) (map row_words rows ++ ls) row refl (row_are_words row named.0) (row_reads below row named.0 above.0),
      rows_read rows (below ++ row ∷ []) (n + 1) ls named.1 rising.1 (next_above below row rows above.1 rising.0),
      next,
    ) refl
