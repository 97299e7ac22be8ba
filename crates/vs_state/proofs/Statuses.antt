-- How many entries have a status of a kind: a count over the numbers of the buckets.
use Rattle.std.proofs.Common.{◌≡◌, ◌≢◌, ℕ, ◌+◌, ◌<◌, ◌≤◌, Bool, true, false, cond, List, [], ◌∷◌, Option, Some, None, refl, sym, ap, subst, ◌∙◌, arith, inl, inr}
use Rattle.std.specs.Prelude.{◌&&◌, count_by}
use Rattle.std.proofs.lemmas.Bool.{cases_eq}
use Rattle.std.proofs.lemmas.Bool.Decides.{nat_tests}
use Rattle.std.proofs.lemmas.List.Recursion.{is_count_by}
use Rattle.vs_space.specs.declared.status.Status.{Status}
use Rattle.vs_space.specs.declared.status.Status.TheVariants as status
use Rattle.vs_space.specs.declared.status.StatusKind.{StatusKind}
use Rattle.vs_space.specs.declared.status.StatusKind.TheVariants as kind
use Rattle.vs_space.specs.Status.{is_kind, is_active}
use Rattle.vs_space.specs.Entries.{RisesFrom, status_of, count_of}
use Rattle.vs_machine.specs.Tables.{count_to, is_to}
use Rattle.vs_machine.specs.State.{State}
use Rattle.vs_machine.specs.Kinds.Connections.{is_receiving}
use Rattle.vs_machine.specs.Kinds.Rebalancing.{is_pinned, view_of}
use Rattle.vs_state.specs.Statuses.{has_kind, number_at}
use Rattle.vs_state.proofs.Counts.{counts_same, counts_none, counts_or, one_more}

-- what a test of statuses says where there may be none
abbrev passes : (Status → Bool) → Option Status → Bool
passes p None = false
passes p (Some status) = p status

total : (Status → Bool) → List (ℕ × Status) → ℕ
total p [] = 0
total p (e ∷ es) = cond (p e.1) (1 + total p es) (total p es)

total_is : (p : Status → Bool) (es : List (ℕ × Status)) → total p es ≡ count_by (λ e. p e.1) es
unfolding total
total_is p es = is_count_by (total p) (λ e. p e.1) refl (λ e es. refl) es

-- no entry of a bucket stands among those of later ones
status_of_before : (es : List (ℕ × Status)) (low id : ℕ) → id < low → RisesFrom low es → status_of es id ≡ None
status_of_before [] low id before rises = refl
status_of_before (e ∷ es) low id before rises =
    let later : status_of es id ≡ None = status_of_before es (e.0 + 1) id (omega (arith, rises.0)) rises.2 in
    grind (arith, nat_tests, later, rises.0)

module _ (p : Status → Bool) (n : ℕ) where
  counted_to : List (ℕ × Status) → ℕ
  counted_to es = count_to (λ b. passes p (status_of es b)) n

  total_to : (es : List (ℕ × Status)) (low : ℕ) → 1 ≤ low → RisesFrom low es → ((b : ℕ) → status_of es b ≢ None → b ≤ n) → total p es ≡ counted_to es
  unfolding total counted_to
  total_to [] low least rises within = sym (counts_none (λ b. false) n (λ b. refl))
  total_to (e ∷ es) low least rises within =
      let none : status_of es e.0 ≡ None = status_of_before es (e.0 + 1) e.0 (omega arith) rises.2 in
      let here : status_of (e ∷ es) e.0 ≡ Some e.1 = grind (arith, nat_tests) in
      let fits : e.0 ≤ n = within e.0 (λ f. cc (here, f)) in
      let before : total p es ≡ counted_to es = total_to es (e.0 + 1) (omega arith) rises.2 (λ b there. within b (λ f. there (grind (arith, nat_tests, f)))) in
      let others : (b : ℕ) → b ≢ e.0 → status_of (e ∷ es) b ≡ status_of es b = λ b apart. grind (arith, nat_tests, apart) in
      by (p e.1) refl before none here fits others
    where
      by : (t : Bool) → p e.1 ≡ t → total p es ≡ counted_to es → status_of es e.0 ≡ None → status_of (e ∷ es) e.0 ≡ Some e.1 → e.0 ≤ n → ((b : ℕ) → b ≢ e.0 → status_of (e ∷ es) b ≡ status_of es b) → cond t (1 + total p es) (total p es) ≡ counted_to (e ∷ es)
      by true is before none here fits others =
          omega (arith, before, one_more (λ b. passes p (status_of (e ∷ es) b)) (λ b. passes p (status_of es b)) e.0 n (omega (arith, rises.0)) fits (ap (passes p) here ∙ is) (ap (passes p) none) (λ b apart. ap (passes p) (others b apart)))
      by false is before none here fits others = before ∙ sym (counts_same (λ b. passes p (status_of (e ∷ es) b)) (λ b. passes p (status_of es b)) n (λ b f l. same b))
        where
          same : (b : ℕ) → passes p (status_of (e ∷ es) b) ≡ passes p (status_of es b)
          same b = elim (cases_eq b e.0) [ inl at ↦ subst (λ b. passes p (status_of (e ∷ es) b) ≡ passes p (status_of es b)) (sym at) (ap (passes p) here ∙ is ∙ sym (ap (passes p) none)) | inr apart ↦ ap (passes p) (others b apart) ]

has_kind_is : (kind : StatusKind) (st : Option Status) → passes (is_kind kind) st ≡ has_kind kind st
has_kind_is kind None = refl
has_kind_is kind (Some status) = refl

-- the entries of this kind are as many as the buckets that have such a status
pub kind_in : (kind : StatusKind) (es : List (ℕ × Status)) (n : ℕ) → RisesFrom 1 es → ((b : ℕ) → status_of es b ≢ None → is_to n b ≡ true) → count_of kind es ≡ count_to (λ b. has_kind kind (status_of es b)) n
unfolding counted_to
kind_in kind es n rises within =
    let p = is_kind kind in
    sym (total_is p es)
    ∙ total_to p n es 1 (omega arith) rises (λ b there. grind (arith, nat_tests, within b there))
    ∙ counts_same (λ b. passes p (status_of es b)) (λ b. has_kind kind (status_of es b)) n (λ b f l. has_kind_is kind (status_of es b))

pub receiving_is : (st : Option Status) → has_kind kind.Receiving st ≡ is_receiving st
receiving_is None = refl
receiving_is (Some status.Active) = refl
receiving_is (Some status.Pinned) = refl
receiving_is (Some (status.Sending d)) = refl
receiving_is (Some (status.Receiving x)) = refl
receiving_is (Some (status.Sent d)) = refl
receiving_is (Some status.Garbage) = refl

active_is : (st : Option Status) → has_kind kind.Active st ≡ is_active st
active_is None = refl
active_is (Some status.Active) = refl
active_is (Some status.Pinned) = refl
active_is (Some (status.Sending d)) = refl
active_is (Some (status.Receiving x)) = refl
active_is (Some (status.Sent d)) = refl
active_is (Some status.Garbage) = refl

pinned_is : (st : Option Status) → has_kind kind.Pinned st ≡ is_pinned st
pinned_is None = refl
pinned_is (Some status.Active) = refl
pinned_is (Some status.Pinned) = refl
pinned_is (Some (status.Sending d)) = refl
pinned_is (Some (status.Receiving x)) = refl
pinned_is (Some (status.Sent d)) = refl
pinned_is (Some status.Garbage) = refl

apart : (st : Option Status) → (is_active st && is_pinned st) ≡ false
apart None = refl
apart (Some status.Active) = refl
apart (Some status.Pinned) = refl
apart (Some (status.Sending d)) = refl
apart (Some (status.Receiving x)) = refl
apart (Some (status.Sent d)) = refl
apart (Some status.Garbage) = refl

-- what the rebalancer sees of a set
pub pinned_at : (s : State) (x : ℕ) → number_at s x kind.Pinned ≡ (view_of s x).pinned
pinned_at s x = counts_same (λ b. has_kind kind.Pinned ((s.bucket b).entry x)) (λ b. is_pinned ((s.bucket b).entry x)) s.config.bucket_count (λ b f l. pinned_is ((s.bucket b).entry x))

pub count_at : (s : State) (x : ℕ) → number_at s x kind.Active + number_at s x kind.Pinned ≡ (view_of s x).count
count_at s x =
    let active = counts_same (λ b. has_kind kind.Active ((s.bucket b).entry x)) (λ b. is_active ((s.bucket b).entry x)) s.config.bucket_count (λ b f l. active_is ((s.bucket b).entry x)) in
    let both = counts_or (λ b. is_active ((s.bucket b).entry x)) (λ b. is_pinned ((s.bucket b).entry x)) s.config.bucket_count (λ b. apart ((s.bucket b).entry x)) in
    omega (arith, active, pinned_at s x, both)
