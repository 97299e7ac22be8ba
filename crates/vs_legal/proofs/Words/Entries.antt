-- The lines of entries as words.
use Rattle.std.specs.Prelude.{ℕ, ◌≤◌, List, [], ◌∷◌, ◌++◌, length, codes}
use Rattle.std.specs.Fmt.{decimal}
use Rattle.std.specs.List.{AllByRecursion}
use Rattle.vs_rows.specs.Said.{Said}
use Rattle.vs_rows.specs.declared.op.Op.{Op}
use Rattle.vs_legal.proofs.Words.Operations.{ops_words, answers_words}

abbrev pub row_words : List ℕ × List ℕ → List (List ℕ)
row_words row = codes "row" ∷ row.0 ∷ row.1 ∷ []

-- an entry of this kind, with its place, its client, the number of its call, what it asked and what it was answered
abbrev pub entry_words : List ℕ → ℕ → ℕ → ℕ → List Op → List Said → List (List ℕ)
entry_words kind place client call ops answers = kind ∷ decimal place ∷ decimal client ∷ decimal call ∷ (ops_words ops ++ codes "=>" ∷ answers_words answers)

-- 1 to 16 of them
abbrev pub AreNamed : {A : Type 0} → (A → Type 0) → List A → Type 0
AreNamed IsNamed [] = ⊥
AreNamed IsNamed (x ∷ xs) = IsNamed x × (length xs ≤ 15) × AllByRecursion IsNamed xs
