-- Operations and answers as words.
use Rattle.std.specs.Prelude.{ℕ, ◌≤◌, ◌<◌, ◌^◌, List, [], ◌∷◌, ◌++◌, length, codes}
use Rattle.std.specs.Fmt.{decimal}
use Rattle.std.specs.List.{flat_map, AllByRecursion}
use Rattle.vs_rows.specs.Names.{IsValue}
use Rattle.vs_rows.specs.RowMap.{RowMap, IsRising}
use Rattle.vs_rows.specs.Said.{Said, Value, NoValue, Done, Exists, Differs, Number, Pairs}
use Rattle.vs_rows.specs.declared.op.Op.{Op}
use Rattle.vs_rows.specs.declared.op.Op.TheVariants.{Get, Put, Insert, Delete, Swap, Count, Scan}
use Rattle.vs_legal.specs.Named.{IsNamedRow}

abbrev pub op_words : Op → List (List ℕ)
op_words (Get k) = codes "get" ∷ k ∷ []
op_words (Put k v) = codes "put" ∷ k ∷ v ∷ []
op_words (Insert k v) = codes "insert" ∷ k ∷ v ∷ []
op_words (Delete k) = codes "delete" ∷ k ∷ []
op_words (Swap k old new) = codes "swap" ∷ k ∷ old ∷ new ∷ []
op_words Count = codes "count" ∷ []
op_words (Scan k n) = codes "scan" ∷ k ∷ decimal n ∷ []

-- further operations, each behind a mark
abbrev pub more_ops : List Op → List (List ℕ)
more_ops ops = flat_map (λ op. codes ";" ∷ op_words op) ops

abbrev pub ops_words : List Op → List (List ℕ)
ops_words [] = []
ops_words (op ∷ ops) = op_words op ++ more_ops ops

abbrev pub pair_words : List ℕ × List ℕ → List (List ℕ)
pair_words pair = pair.0 ∷ pair.1 ∷ []

abbrev pub pairs_words : RowMap → List (List ℕ)
pairs_words pairs = flat_map pair_words pairs

abbrev pub answer_words : Said → List (List ℕ)
answer_words (Value v) = codes "value" ∷ v ∷ []
answer_words NoValue = codes "none" ∷ []
answer_words Done = codes "done" ∷ []
answer_words Exists = codes "exists" ∷ []
answer_words Differs = codes "differs" ∷ []
answer_words (Number n) = codes "number" ∷ decimal n ∷ []
answer_words (Pairs pairs) = codes "pairs" ∷ decimal (length pairs) ∷ pairs_words pairs

abbrev pub more_answers : List Said → List (List ℕ)
more_answers answers = flat_map (λ answer. codes ";" ∷ answer_words answer) answers

abbrev pub answers_words : List Said → List (List ℕ)
answers_words [] = []
answers_words (answer ∷ answers) = answer_words answer ++ more_answers answers

-- ---- what is spelled so that it can be read

pub record AreNamedRows (rows : RowMap) : Type 0 where
  pub named : AllByRecursion IsNamedRow rows
  pub rising : IsRising rows

abbrev pub IsNamedAnswer : Said → Type 0
IsNamedAnswer (Value v) = IsValue v
IsNamedAnswer NoValue = Unit {0}
IsNamedAnswer Done = Unit {0}
IsNamedAnswer Exists = Unit {0}
IsNamedAnswer Differs = Unit {0}
IsNamedAnswer (Number n) = n < 2 ^ 64
IsNamedAnswer (Pairs pairs) = (length pairs ≤ 1000) × AreNamedRows pairs
