-- Readings, step by step, and lists that are read.
use Rattle.std.specs.Prelude.{ℕ, zero, suc, Bool, if◌then◌else◌, List, [], ◌∷◌, Result, Ok, Err}

-- a step and those after it, up to the first that fails
infixl 10 ◌>>=◌
abbrev pub ◌>>=◌ : {A B E : Type 0} → Result A E → (A → Result B E) → Result B E
Ok a >>= rest = rest a
Err fault >>= rest = Err fault

infixl 10 ◌>>◌
abbrev pub ◌>>◌ : {A B E : Type 0} → Result A E → Result B E → Result B E
step >> rest = step >>= (λ _. rest)

-- what a reading gives: an item and what follows it. `S` is what is to be read, and `T` what is
-- known from the items before
module _ {A E S T : Type 0} where
  -- so many items, one after the other
  unfoldable pub many_at : (T → S → Result (A × S) E) → (T → A → T) → ℕ → T → S → Result (List A × S) E
  many_at item next zero t s = Ok ([], s)
  many_at item next (suc more) t s = do
    one ← item t s
    others ← many_at item next more (next t one.0) one.1
    Ok (one.0 ∷ others.0, others.1)

  -- as many items as there are, though not more than so many
  unfoldable pub all_at : (S → Bool) → (T → S → Result (A × S) E) → (T → A → T) → ℕ → T → S → Result (List A × S) E
  all_at begins item next zero t s = Ok ([], s)
  all_at begins item next (suc more) t s =
      if begins s then (do
        one ← item t s
        others ← all_at begins item next more (next t one.0) one.1
        Ok (one.0 ∷ others.0, others.1))
      else Ok ([], s)

-- one item at least and so many at most, where `after` says how the others follow
unfoldable pub listed_at : {A E S : Type 0} → E → (S → Result (A × S) E) → ((S → Result (List A × S) E) → S → Result (List A × S) E) → ℕ → S → Result (List A × S) E
listed_at fault item after zero s = Err fault
listed_at fault item after (suc more) s = do
  first ← item s
  others ← after (listed_at fault item after more) first.1
  Ok (first.0 ∷ others.0, others.1)
