-- Lines of one kind, as many as there are, each above the one before it.
use Rattle.std.proofs.Common.{◌≡◌, ℕ, zero, suc, ◌+◌, ◌<◌, ◌≤◌, true, false, List, [], ◌∷◌, ◌++◌, map, length, Ok, refl, ap, arith}
use Rattle.std.specs.List.{AllByRecursion}
use Rattle.std.specs.Str.{bytes_eq}
use Rattle.vs_audit.specs.Reading.{all_at}
use Rattle.vs_audit.specs.Report.{line_at, begins}
use Rattle.vs_audit.specs.Words.{Words, Told}
use Rattle.vs_legal.proofs.Words.Spelled.{is_word, are_words}
use Rattle.vs_legal.proofs.ReadLines.{rest_of, line_reads, begins_with}

-- a line behind its first word, its number among the others, and what is told by it at each line
pub record Item (A : Type 0) : Type 0 where
  pub tail : Words
  pub key : ℕ
  pub value : ℕ → A

pub record IsItem {A : Type 0} (read : ℕ → ℕ → Words → Told A) (number : A → ℕ) (name : List ℕ) (i : Item A) : Type 0 where
  pub words : are_words i.tail ≡ true
  pub numbered : (line : ℕ) → number (i.value line) ≡ i.key
  pub reads : (last line : ℕ) → last < i.key → read last line (name ∷ i.tail) ≡ Ok (i.value line)

module _ {A : Type 0} where
  -- each is above the one before it
  abbrev pub Rises : ℕ → List (Item A) → Type 0
  Rises last [] = Unit {0}
  Rises last (i ∷ items) = (last < i.key) × Rises i.key items

  abbrev pub values_from : ℕ → List (Item A) → List A
  values_from line [] = []
  values_from line (i ∷ items) = i.value line ∷ values_from (line + 1) items

  abbrev pub lines_with : List ℕ → List (Item A) → List Words
  lines_with name items = map (λ i. name ∷ i.tail) items

abbrev pub EndsKind : List ℕ → List Words → Type 0
EndsKind name ls = (n : ℕ) → begins name (rest_of n ls) ≡ false

pub all_lines : {A : Type 0} (read : ℕ → ℕ → Words → Told A) (number : A → ℕ) (name : List ℕ) (items : List (Item A)) (fuel last n : ℕ) (ls : List Words)
    → is_word name ≡ true → bytes_eq name name ≡ true → AllByRecursion (IsItem read number name) items → Rises last items → length items ≤ fuel → EndsKind name ls
    → all_at (begins name) (λ last rest. line_at (read last) rest) (λ _ a. number a) fuel last (rest_of n (lines_with name items ++ ls)) ≡ Ok (values_from n items, rest_of (n + length items) ls)
unfolding all_at
all_lines {A} read number name [] zero last n ls word same are rises few ends =
    let e : n ≡ n + 0 = omega arith in ap (λ q. Ok ([], rest_of q ls)) e
all_lines {A} read number name [] (suc fuel) last n ls word same are rises few ends =
    let e : n ≡ n + 0 = omega arith in rw (ends n) (ap (λ q. Ok ([], rest_of q ls)) e)
all_lines read number name (i ∷ items) zero last n ls word same are rises few ends = absurd (omega arith)
all_lines {A} read number name (i ∷ items) (suc fuel) last n ls word same are rises few ends =
    let here = are.0 in
    let e : n + 1 + length items ≡ n + suc (length items) = omega arith in
    rw (
      begins_with name n name i.tail (lines_with name items ++ ls) word here.words,
      same,
      line_reads (read last) n name i.tail (lines_with name items ++ ls) (i.value n) word here.words (here.reads last n rises.0),
      here.numbered n,
      all_lines read number name items fuel i.key (n + 1) ls word same are.1 rises.1 (omega arith) ends,
      e,
    ) refl
