-- Lines are read one after the other.
use Rattle.std.proofs.Common.{◌≡◌, ℕ, zero, suc, ◌+◌, ◌<◌, ◌≤◌, ◌^◌, ◌-◌, true, List, [], ◌∷◌, ◌++◌, map, Ok, refl, ap, arith, lit<}
use Rattle.std.specs.Prelude.{codes}
use Rattle.std.specs.Fmt.{decimal}
use Rattle.std.specs.Str.{bytes_eq}
use Rattle.vs_rows.specs.RowMap.{RowMap}
use Rattle.vs_rows.specs.Said.{Said}
use Rattle.vs_rows.specs.declared.op.Op.{Op}
use Rattle.vs_audit.specs.Reading.{many_at}
use Rattle.vs_audit.specs.Operations.{is_above}
use Rattle.vs_audit.specs.Report.{Rest, line_at, told, begins}
use Rattle.vs_audit.specs.ReportLines.{row_line, entry_line}
use Rattle.vs_audit.specs.Words.{Words, Told}
use Rattle.vs_legal.proofs.Words.Spelled.{is_word, are_words, spelled}
use Rattle.vs_legal.specs.Named.{IsNamedOp, IsNamedRow}
use Rattle.vs_legal.proofs.Words.Operations.{ops_words, answers_words, IsNamedAnswer}
use Rattle.vs_legal.proofs.Words.Entries.{row_words, entry_words, AreNamed}
use Rattle.vs_legal.proofs.Spelled.{words_read}
use Rattle.vs_legal.proofs.ReadOps.{number_reads, ops_read}
use Rattle.vs_legal.proofs.ReadAnswers.{pair_reads, answers_read}

-- the lines that are left, the first of them of this number
abbrev pub rest_of : ℕ → List (List (List ℕ)) → Rest
rest_of n ls = record { number = n; lines = map spelled ls ++ [] ∷ [] }

pub line_reads : {A : Type 0} (read : ℕ → Words → Told A) (n : ℕ) (w : List ℕ) (ws : Words) (ls : List Words) (a : A) → is_word w ≡ true → are_words ws ≡ true → read n (w ∷ ws) ≡ Ok a
    → line_at read (rest_of n ((w ∷ ws) ∷ ls)) ≡ Ok (a, rest_of (n + 1) ls)
line_reads {A} read n w ws [] a is are reads = rw (words_read w ws is are) (ap (λ (r : Told A). told n r (rest_of (n + 1) [])) reads)
line_reads {A} read n w ws (l ∷ ls) a is are reads = rw (words_read w ws is are) (ap (λ (r : Told A). told n r (rest_of (n + 1) (l ∷ ls))) reads)

pub begins_with : (name : List ℕ) (n : ℕ) (w : List ℕ) (ws : Words) (ls : List Words) → is_word w ≡ true → are_words ws ≡ true → begins name (rest_of n ((w ∷ ws) ∷ ls)) ≡ bytes_eq w name
begins_with name n w ws [] is are = rw (words_read w ws is are) refl
begins_with name n w ws (l ∷ ls) is are = rw (words_read w ws is are) refl

-- ---- lines that are numbered

abbrev pub from : ℕ → ℕ → List ℕ
from k zero = []
from k (suc m) = k ∷ from (k + 1) m

-- the line of each number is of words, and tells nothing
abbrev pub IsNumbered : (ℕ → Words → Told (Unit {0})) → List ℕ → (ℕ → Words) → ℕ → Type 0
IsNumbered read name more j = (are_words (more j) ≡ true) × (read j (name ∷ more j) ≡ Ok tt)

pub numbered_lines : (read : ℕ → Words → Told (Unit {0})) (name : List ℕ) (more : ℕ → Words) (m k n : ℕ) (ls : List Words) → is_word name ≡ true
    → ((j : ℕ) → k ≤ j → j < k + m → IsNumbered read name more j)
    → (units : List (Unit {0})) × (many_at (λ j rest. line_at (λ _ words. read j words) rest) (λ j _. j + 1) m k (rest_of n (map (λ j. name ∷ more j) (from k m) ++ ls)) ≡ Ok (units, rest_of (n + m) ls))
unfolding many_at
numbered_lines read name more zero k n ls is each = ([], (let same : n ≡ n + 0 = omega arith in ap (λ q. Ok ([], rest_of q ls)) same))
numbered_lines read name more (suc m) k n ls is each =
    let here = each k (omega arith) (omega arith) in
    let others = numbered_lines read name more m (k + 1) (n + 1) ls is (λ j low high. each j (omega arith) (omega arith)) in
    let same : n + 1 + m ≡ n + suc m = omega arith in
    (tt ∷ others.0, rw (line_reads (λ _ words. read k words) n name (more k) (map (λ j. name ∷ more j) (from (k + 1) m) ++ ls) tt is here.0 here.1, others.1, same) refl)

-- ---- rows and entries

pub row_reads : (below : RowMap) (row : List ℕ × List ℕ) → IsNamedRow row → is_above below row.0 ≡ true → row_line below (row_words row) ≡ Ok row
row_reads below row is above = rw (pair_reads below row [] is above) refl

pub entry_reads : (kind : List ℕ) (line place client call : ℕ) (ops : List Op) (answers : List Said) → bytes_eq kind kind ≡ true → place < 2 ^ 64 → 1 ≤ client → client ≤ 64 → 1 ≤ call → call < 2 ^ 32 → AreNamed IsNamedOp ops → AreNamed IsNamedAnswer answers
    → entry_line kind line (entry_words kind place client call ops answers) ≡ Ok (record { line = line; id = record { client = client; call = call }; ops = ops; answers = answers; place = place })
entry_reads kind line place client call [] answers same fits some few first last named given = absurd named
entry_reads kind line place client call (op ∷ ops) [] same fits some few first last named given = absurd given
entry_reads kind line place client call (op ∷ ops) (a ∷ more_said) same fits some few first last named given =
    rw (
      same,
      number_reads 0 (2 ^ 64 - 1) place (decimal client ∷ decimal call ∷ (ops_words (op ∷ ops) ++ codes "=>" ∷ answers_words (a ∷ more_said))) (lit< tt) (omega arith) (omega arith),
      number_reads 1 64 client (decimal call ∷ (ops_words (op ∷ ops) ++ codes "=>" ∷ answers_words (a ∷ more_said))) (lit< tt) some few,
      number_reads 1 (2 ^ 32 - 1) call (ops_words (op ∷ ops) ++ codes "=>" ∷ answers_words (a ∷ more_said)) (lit< tt) first (omega arith),
      ops_read op ops (answers_words (a ∷ more_said)) named.1 named.0 named.2,
      answers_read a more_said given.1 given.0 given.2,
    ) refl
