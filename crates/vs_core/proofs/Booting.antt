-- The states of a new cluster's sets hold what it begins with.
use Rattle.std.proofs.Common.{◌≡◌, ℕ, zero, suc, ◌+◌, ◌-◌, ◌<◌, ◌≤◌, Bool, true, false, List, [], ◌∷◌, ◌++◌, length, sum, Some, None, refl, sym, ap, subst, ◌∙◌, arith}
use Rattle.std.specs.Prelude.{◌&&◌, nat_lt, nat_le, if◌then◌else◌, All}
use Rattle.std.proofs.lemmas.Bool.Decides.{nat_tests}
use Rattle.std.proofs.lemmas.List.Elements.{All-nil, All-cons}
use Rattle.std.proofs.lemmas.List.Sums.{sum_by-cons}
use Rattle.vs_config.specs.Configuration.{Configuration}
use Rattle.vs_record.specs.Durable.{Durable, booted as booted_set}
use Rattle.vs_record.specs.States.{durable}
use Rattle.vs_record.specs.declared.set_state.SetState.{SetState}
use Rattle.vs_script.specs.Lawful.{IsWithin}
use Rattle.vs_space.specs.declared.status.Status.TheVariants.{Active}
use Rattle.vs_machine.specs.Journals.{nothing}
use Rattle.vs_state.specs.Tables.{numbered}
use Rattle.vs_core.specs.Booted.{shares_of, gets, booted}
use Rattle.vs_core.specs.Booting.{AreNewStates}
use Rattle.vs_core.specs.Opened.{held, IsOfBuckets}
use Rattle.vs_core.proofs.Booted.{through, through-cons, are_shares}

-- ---- one state more, and how many there are

pub one_more_state : (first n : ℕ) (d : SetState) (ns : List ℕ) (ds : List SetState) → AreNewStates first ns ds → durable d ≡ booted_set (first + sum ns) n → AreNewStates first (ns ++ n ∷ []) (ds ++ d ∷ [])
one_more_state first n d [] [] made new = (subst (λ k. durable d ≡ booted_set k n) (omega arith) new, tt)
one_more_state first n d (m ∷ ns) (e ∷ ds) made new =
    (made.0, one_more_state (first + m) n d ns ds made.1 (subst (λ k. durable d ≡ booted_set k n) (omega (arith, sum_by-cons (λ x. x) m ns)) new))
one_more_state first n d [] (e ∷ ds) made new = absurd made
one_more_state first n d (m ∷ ns) [] made new = absurd made

pub as_many_states : (first : ℕ) (ns : List ℕ) (ds : List SetState) → AreNewStates first ns ds → length ds ≡ length ns
as_many_states first [] [] made = refl
as_many_states first (n ∷ ns) (d ∷ ds) made = ap suc (as_many_states (first + n) ns ds made.1)
as_many_states first [] (d ∷ ds) made = absurd made
as_many_states first (n ∷ ns) [] made = absurd made

-- ---- their entries

abbrev is_from : ℕ → ℕ → ℕ → Bool
is_from low high b = nat_le low b && nat_lt b high

same_bounds : (low high to upto b : ℕ) → to ≡ low → upto ≡ high → (if is_from low high b then Some Active else None) ≡ (if is_from to upto b then Some Active else None)
same_bounds low high to upto b l h = λ i. if is_from (sym l i) (sym h i) b then Some Active else None

entries_at : (b first : ℕ) (ns : List ℕ) (ds : List SetState) → AreNewStates first ns ds → (k : ℕ) → (numbered durable nothing ds (suc k)).entry b ≡ (if is_from (first + through ns k) (first + through ns (suc k)) b then Some Active else None)
entries_at b first [] [] made zero = grind (arith, nat_tests)
entries_at b first [] [] made (suc k) = grind (arith, nat_tests)
entries_at b first (n ∷ ns) (d ∷ ds) made zero =
    ap (λ (e : Durable). e.entry b) made.0
    ∙ same_bounds first (first + n) (first + through (n ∷ ns) 0) (first + through (n ∷ ns) 1) b (omega arith) (omega (arith, through-cons n ns 0))
entries_at b first (n ∷ ns) (d ∷ ds) made (suc k) =
    entries_at b (first + n) ns ds made.1 k
    ∙ same_bounds (first + n + through ns k) (first + n + through ns (suc k)) (first + through (n ∷ ns) (suc k)) (first + through (n ∷ ns) (suc (suc k))) b (omega (arith, through-cons n ns k)) (omega (arith, through-cons n ns (suc k)))
entries_at b first [] (d ∷ ds) made k = absurd made
entries_at b first (n ∷ ns) [] made k = absurd made

-- a set has the entries of the buckets that it gets
entries_got : (ns : List ℕ) (ds : List SetState) → AreNewStates 1 ns ds → (x b : ℕ) → (numbered durable nothing ds x).entry b ≡ (if gets ns x b then Some Active else None)
entries_got ns ds made zero b = grind (arith, nat_tests)
entries_got ns ds made (suc k) b =
    let same : suc k - 1 ≡ k = omega arith in
    let test : is_from (1 + through ns k) (1 + through ns (suc k)) b ≡ gets ns (suc k) b = rw same (tests_agree (through ns k) (through ns (suc k)) b) in
    entries_at b 1 ns ds made k ∙ ap (λ t. if t then Some Active else None) test
  where
    tests_agree : (low high b : ℕ) → is_from (1 + low) (1 + high) b ≡ (nat_lt low b && nat_le b high)
    tests_agree low high b = grind (arith, nat_tests)

-- ---- and no rows

no_rows : (first : ℕ) (ns : List ℕ) (ds : List SetState) → AreNewStates first ns ds → (x b : ℕ) → (numbered durable nothing ds x).rows b ≡ []
no_rows first ns ds made zero b = refl
no_rows first [] [] made (suc zero) b = refl
no_rows first [] [] made (suc (suc k)) b = refl
no_rows first (n ∷ ns) (d ∷ ds) made (suc zero) b = ap (λ (e : Durable). e.rows b) made.0
no_rows first (n ∷ ns) (d ∷ ds) made (suc (suc k)) b = no_rows (first + n) ns ds made.1 (suc k) b
no_rows first [] (d ∷ ds) made (suc k) b = absurd made
no_rows first (n ∷ ns) [] made (suc k) b = absurd made

pub held_is : (config : Configuration) (ds : List SetState) → AreNewStates 1 (shares_of config) ds → held ds ≡ booted config
held_is config ds made = λ i. record {
  entry = λ x b. entries_got (shares_of config) ds made x b i;
  rows = λ x b. no_rows 1 (shares_of config) ds made x b i;
}

-- ---- nothing stands behind the last bucket

of_buckets : (n first m : ℕ) (d : SetState) → durable d ≡ booted_set first m → first + m ≤ n + 1 → IsOfBuckets n d
of_buckets n first m d is few = record {
  entry = λ b above. ap (λ (e : Durable). e.entry b) is ∙ beyond b above (is_from first (first + m) b) refl;
  rows = λ b above. ap (λ (e : Durable). e.rows b) is;
}
  where
    beyond : (b : ℕ) → n < b → (t : Bool) → is_from first (first + m) b ≡ t → (if t then Some Active else None) ≡ None
    beyond b above true e = absurd (grind (arith, nat_tests, e, above, few))
    beyond b above false e = refl

pub all_of_buckets : (n first : ℕ) (ns : List ℕ) (ds : List SetState) → AreNewStates first ns ds → first + sum ns ≤ n + 1 → All (IsOfBuckets n) ds
all_of_buckets n first [] [] made few = All-nil (IsOfBuckets n)
all_of_buckets n first (m ∷ ns) (d ∷ ds) made few =
    All-cons (IsOfBuckets n) d ds (of_buckets n first m d made.0 (omega (arith, few, sum_by-cons (λ x. x) m ns)))
    (all_of_buckets n (first + m) ns ds made.1 (omega (arith, few, sum_by-cons (λ x. x) m ns)))
all_of_buckets n first [] (d ∷ ds) made few = absurd made
all_of_buckets n first (m ∷ ns) [] made few = absurd made

module _ (config : Configuration) (sets : IsWithin 32 (length config.sets)) (buckets : IsWithin 30000 config.bucket_count) (ds : List SetState) (made : AreNewStates 1 (shares_of config) ds) where
  pub a_state_each : length ds ≡ length config.sets
  a_state_each = as_many_states 1 (shares_of config) ds made ∙ (are_shares config sets buckets).each

  pub all_within : All (IsOfBuckets config.bucket_count) ds
  all_within = all_of_buckets config.bucket_count 1 (shares_of config) ds made (omega (arith, (are_shares config sets buckets).all))
