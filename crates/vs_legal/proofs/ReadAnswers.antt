-- Answers are read from their words.
use Rattle.std.proofs.Common.{◌≡◌, ℕ, zero, suc, ◌≤◌, ◌^◌, ◌-◌, true, List, [], ◌∷◌, ◌++◌, length, Ok, refl, arith, lit<}
use Rattle.std.specs.Prelude.{codes}
use Rattle.std.specs.List.{AllByRecursion}
use Rattle.std.specs.Ordering.{is_lt}
use Rattle.std.specs.declared.cmp.Ordering.TheVariants.{Less}
use Rattle.std.proofs.lemmas.List.Folds.{list_all-append}
use Rattle.vs_rows.specs.RowMap.{RowMap, IsRising, key_cmp}
use Rattle.vs_rows.specs.Said.{Said, Value, NoValue, Done, Exists, Differs, Number, Pairs}
use Rattle.vs_audit.specs.Reading.{many_at, listed_at}
use Rattle.vs_audit.specs.Operations.{pair_at, with_row, is_above, answer_at, answers_at}
use Rattle.vs_audit.specs.Words.{Words}
use Rattle.vs_legal.specs.Named.{IsNamedRow}
use Rattle.vs_legal.proofs.Words.Operations.{pairs_words, answer_words, more_answers, answers_words, IsNamedAnswer}
use Rattle.vs_legal.proofs.ReadOps.{key_reads, value_reads, number_reads}

-- each of these rows is above those
abbrev pub AreAbove : RowMap → RowMap → Type 0
AreAbove below rows = AllByRecursion (λ row. is_above below row.0 ≡ true) rows

pub next_above : (below : RowMap) (row : List ℕ × List ℕ) (rows : RowMap) → AreAbove below rows → AllByRecursion (λ later. key_cmp row.0 later.0 ≡ Less) rows → AreAbove (below ++ row ∷ []) rows
next_above below row [] above less = tt
next_above below row (next ∷ rows) above less =
    (rw (list_all-append (λ (r : List ℕ × List ℕ). is_lt (key_cmp r.0 next.0)) below (row ∷ []), above.0, less.0) refl, next_above below row rows above.1 less.1)

pub none_below : (rows : RowMap) → AreAbove [] rows
none_below [] = tt
none_below (row ∷ rows) = (refl, none_below rows)

pub pair_reads : (below : RowMap) (row : List ℕ × List ℕ) (rest : Words) → IsNamedRow row → is_above below row.0 ≡ true → pair_at below (row.0 ∷ row.1 ∷ rest) ≡ Ok (row, rest)
pair_reads below row rest is above = rw (key_reads row.0 (row.1 ∷ rest) is.0, value_reads row.1 rest is.1, above) refl

listed_pairs : (below rows : RowMap) (rest : Words) → AllByRecursion IsNamedRow rows → IsRising rows → AreAbove below rows → many_at pair_at with_row (length rows) below (pairs_words rows ++ rest) ≡ Ok (rows, rest)
unfolding many_at
listed_pairs below [] rest named rising above = refl
listed_pairs below (row ∷ rows) rest named rising above =
    rw (pair_reads below row (pairs_words rows ++ rest) named.0 above.0, listed_pairs (below ++ row ∷ []) rows rest named.1 rising.1 (next_above below row rows above.1 rising.0)) refl

pub answer_reads : (a : Said) (rest : Words) → IsNamedAnswer a → answer_at (answer_words a ++ rest) ≡ Ok (a, rest)
answer_reads (Value v) rest is = rw (value_reads v rest is) refl
answer_reads NoValue rest is = refl
answer_reads Done rest is = refl
answer_reads Exists rest is = refl
answer_reads Differs rest is = refl
answer_reads (Number n) rest is = rw (number_reads 0 (2 ^ 64 - 1) n rest (lit< tt) (omega arith) (omega arith)) refl
answer_reads (Pairs pairs) rest is =
    rw (number_reads 0 1000 (length pairs) (pairs_words pairs ++ rest) (lit< tt) (omega arith) is.0, listed_pairs [] pairs rest is.1.named is.1.rising (none_below pairs)) refl

listed_answers : (more : ℕ) (a : Said) (more_said : List Said) → length more_said ≤ more → IsNamedAnswer a → AllByRecursion IsNamedAnswer more_said
    → answers_at (suc more) (answer_words a ++ more_answers more_said) ≡ Ok (a ∷ more_said, [])
unfolding listed_at
listed_answers more a [] few is are = rw (answer_reads a [] is) refl
listed_answers zero a (next ∷ more_said) few is are = absurd (omega arith)
listed_answers (suc more) a (next ∷ more_said) few is are =
    rw (answer_reads a (codes ";" ∷ (answer_words next ++ more_answers more_said)) is, listed_answers more next more_said (omega arith) are.0 are.1) refl

pub answers_read : (a : Said) (more_said : List Said) → length more_said ≤ 15 → IsNamedAnswer a → AllByRecursion IsNamedAnswer more_said → answers_at 16 (answers_words (a ∷ more_said)) ≡ Ok (a ∷ more_said, [])
answers_read a more_said few is are = listed_answers 15 a more_said few is are
