-- What a change of the entries does to the status of each bucket.
use Rattle.std.proofs.Common.{◌≡◌, ℕ, List, [], ◌∷◌, Option, Some, None, ◌+◌, ◌<◌, refl, arith}
use Rattle.std.specs.Prelude.{◌==◌, if◌then◌else◌}
use Rattle.std.proofs.lemmas.Bool.Decides.{nat_tests}
use Rattle.vs_space.specs.declared.status.Status.{Status}
use Rattle.vs_space.specs.Counts.{counted}
use Rattle.vs_space.specs.declared.status.StatusKind.{StatusKind}
use Rattle.vs_space.proofs.Places.{total, total_is}
use Rattle.vs_space.specs.Entries.{RisesFrom, count_of, status_of, with_entry, without_entry, with_status}

status_of-with_entry : (es : List (ℕ × Status)) (id : ℕ) (status : Status) (q : ℕ) → status_of (with_entry es id status) q ≡ (if id == q then Some status else status_of es q)
status_of-with_entry [] id status q = grind (arith, nat_tests)
status_of-with_entry (e ∷ es) id status q = grind (arith, nat_tests, status_of-with_entry es id status q)

status_of-without_entry : (es : List (ℕ × Status)) (id q : ℕ) → status_of (without_entry es id) q ≡ (if id == q then None else status_of es q)
status_of-without_entry [] id q = grind (arith, nat_tests)
status_of-without_entry (e ∷ es) id q = grind (arith, nat_tests, status_of-without_entry es id q)

-- the bucket has the new status, and each other one the status that it had
pub status_of-with_status : (es : List (ℕ × Status)) (id : ℕ) (new : Option Status) (q : ℕ) → status_of (with_status es id new) q ≡ (if id == q then new else status_of es q)
status_of-with_status es id None q = status_of-without_entry es id q
status_of-with_status es id (Some status) q = status_of-with_entry es id status q

-- no entry of a bucket stands among those of later ones
status_of_before : (es : List (ℕ × Status)) (low id : ℕ) → id < low → RisesFrom low es → status_of es id ≡ None
status_of_before [] low id before rises = refl
status_of_before (e ∷ es) low id before rises =
    let later : status_of es id ≡ None = status_of_before es (e.0 + 1) id (omega (arith, rises.0)) rises.2 in
    grind (arith, nat_tests, later, rises.0)

without_entry_before : (es : List (ℕ × Status)) (low id : ℕ) → id < low → RisesFrom low es → without_entry es id ≡ es
without_entry_before [] low id before rises = refl
without_entry_before (e ∷ es) low id before rises =
    let later : without_entry es id ≡ es = without_entry_before es (e.0 + 1) id (omega (arith, rises.0)) rises.2 in
    grind (arith, nat_tests, later, rises.0)

module _ (kind : StatusKind) where
  total-with_entry : (es : List (ℕ × Status)) (low id : ℕ) (status : Status) → RisesFrom low es → total kind (with_entry es id status) + counted kind (status_of es id) ≡ total kind es + counted kind (Some status)
  unfolding total
  total-with_entry [] low id status rises = grind (arith, nat_tests)
  total-with_entry (e ∷ es) low id status rises =
      let before : id < e.0 + 1 → status_of es id ≡ None = λ lt. status_of_before es (e.0 + 1) id lt rises.2 in
      grind (arith, nat_tests, before, total-with_entry es (e.0 + 1) id status rises.2)

  total-without_entry : (es : List (ℕ × Status)) (low id : ℕ) → RisesFrom low es → total kind (without_entry es id) + counted kind (status_of es id) ≡ total kind es
  unfolding total
  total-without_entry [] low id rises = refl
  total-without_entry (e ∷ es) low id rises =
      let same : id < e.0 + 1 → without_entry es id ≡ es = λ lt. without_entry_before es (e.0 + 1) id lt rises.2 in
      grind (arith, nat_tests, same, total-without_entry es (e.0 + 1) id rises.2)

  -- a change of a bucket's status is seen in the numbers
  pub count_of-with_status : (es : List (ℕ × Status)) (low id : ℕ) (new : Option Status) → RisesFrom low es → count_of kind (with_status es id new) + counted kind (status_of es id) ≡ count_of kind es + counted kind new
  count_of-with_status es low id None rises =
      omega (arith, total_is kind (without_entry es id), total_is kind es, total-without_entry es low id rises)
  count_of-with_status es low id (Some status) rises =
      omega (arith, total_is kind (with_entry es id status), total_is kind es, total-with_entry es low id status rises)
