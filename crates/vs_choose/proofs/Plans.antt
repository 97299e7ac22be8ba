-- No round is planned while every set is up and a bucket is on its way.
use Rattle.std.proofs.Common.{◌≡◌, ◌≢◌, ℕ, zero, suc, ◌+◌, ◌<◌, ◌≤◌, Bool, true, false, Option, Some, None, Ok, refl, ap, arith, inl, inr}
use Rattle.std.specs.Prelude.{◌⊎◌, nat_lt, if◌then◌else◌}
use Rattle.std.proofs.lemmas.Bool.Decides.{nat_tests}
use Rattle.vs_space.specs.declared.status.Status.{Status}
use Rattle.vs_space.specs.declared.status.Status.TheVariants as status
use Rattle.vs_space.specs.declared.status.StatusKind.{StatusKind}
use Rattle.vs_space.specs.declared.status.StatusKind.TheVariants as kind
use Rattle.vs_event.specs.declared.event.Event.TheVariants.{Plan}
use Rattle.vs_event.specs.declared.reason.Reason.TheVariants as reason
use Rattle.vs_machine.specs.Actors.{IsPossible}
use Rattle.vs_machine.specs.Kinds.Rebalancing.{is_in_move, is_moving, plan, plan_round}
use Rattle.vs_machine.specs.State.{State, has_set, sets_of}
use Rattle.vs_machine.specs.Tables.{count_to, least_to, or_else}
use Rattle.vs_machine.proofs.Can.Others.{can_plan}
use Rattle.vs_machine.proofs.Counts.{none_counted}
use Rattle.vs_machine.proofs.Possible.{wants_none_ok}
use Rattle.vs_state.specs.Moves.{first_down, first_in_move}
use Rattle.vs_state.specs.Statuses.{has_kind, number_at}
use Rattle.vs_choose.proofs.Chosen.{gives}

-- ---- numbers that pass a test

some_counted : (p : ℕ → Bool) (n : ℕ) → 0 < count_to p n → (b : ℕ) × (1 ≤ b) × (b ≤ n) × (p b ≡ true)
some_counted p zero h = absurd (omega (arith, h))
some_counted p (suc n) h = by (p (suc n)) refl (λ l. some_counted p n l) h
  where
    by : (t : Bool) → p (suc n) ≡ t → (0 < count_to p n → (b : ℕ) × (1 ≤ b) × (b ≤ n) × (p b ≡ true)) → 0 < count_to p n + (if t then 1 else 0)
        → (b : ℕ) × (1 ≤ b) × (b ≤ suc n) × (p b ≡ true)
    by true is before h = (suc n, omega arith, omega arith, is)
    by false is before h = let found = before (omega (arith, h)) in (found.0, found.1, omega (arith, found.2), found.3)

at_or_below : (k n : ℕ) → k ≤ suc n → (k ≡ suc n) ⊎ (k ≤ n)
at_or_below k n h = grind arith

none_least : (p : ℕ → Bool) (n : ℕ) → least_to p n ≡ None → (b : ℕ) → 1 ≤ b → b ≤ n → p b ≡ true → ⊥
none_least p zero none b first last here = absurd (omega arith)
none_least p (suc n) none b first last here = by (least_to p n) refl (p (suc n)) refl none (at_or_below b n last) (λ e l. none_least p n e b first l here)
  where
    by : (o : Option ℕ) → least_to p n ≡ o → (t : Bool) → p (suc n) ≡ t → or_else o (if t then Some (suc n) else None) ≡ None → (b ≡ suc n) ⊎ (b ≤ n)
        → (least_to p n ≡ None → b ≤ n → ⊥) → ⊥
    by (Some k) is t at nothing place before = absurd (cc nothing)
    by None is true at nothing place before = absurd (cc nothing)
    by None is false at nothing (inl same) before = absurd (cc (ap p same, at, here))
    by None is false at nothing (inr l) before = before is l

-- ---- a bucket that a set sends or receives is on its way

pub sending_moves : (e : Option Status) → has_kind kind.Sending e ≡ true → is_moving e ≡ true
sending_moves (Some (status.Sending d)) h = refl
sending_moves e h = absurd (cc h)

pub receiving_moves : (e : Option Status) → has_kind kind.Receiving e ≡ true → is_moving e ≡ true
receiving_moves (Some (status.Receiving x)) h = refl
receiving_moves e h = absurd (cc h)

module _ (s : State) (x : ℕ) (known : has_set s x ≡ true) where
  in_move : (b : ℕ) → is_moving ((s.bucket b).entry x) ≡ true → is_in_move s b ≡ true
  in_move b here = by (count_to (λ y. is_moving ((s.bucket b).entry y)) (sets_of s)) (λ none. none_counted (λ y. is_moving ((s.bucket b).entry y)) (sets_of s) none x known here)
    where
      by : (n : ℕ) → (n ≡ 0 → ⊥) → nat_lt 0 n ≡ true
      by zero some = absurd (some refl)
      by (suc n) some = grind (arith, nat_tests)

  -- some bucket is on its way where the set has one of such a kind
  pub counted_moves : (k : StatusKind) → ((e : Option Status) → has_kind k e ≡ true → is_moving e ≡ true) → 0 < number_at s x k → first_in_move s ≢ None
  counted_moves k moves some none =
      let found = some_counted (λ b. has_kind k ((s.bucket b).entry x)) s.config.bucket_count some in
      none_least (is_in_move s) s.config.bucket_count none found.0 found.1 found.2 (in_move found.0 (moves ((s.bucket found.0).entry x) found.3))

pub any_moves : (s : State) (x m n : ℕ) → 1 ≤ x → x ≤ sets_of s → m ≡ number_at s x kind.Sending → n ≡ number_at s x kind.Receiving → 0 < m + n → first_in_move s ≢ None
any_moves s x zero n first last sending receiving some = counted_moves s x (grind (arith, nat_tests)) kind.Receiving receiving_moves (omega (arith, receiving))
any_moves s x (suc m) n first last sending receiving some = counted_moves s x (grind (arith, nat_tests)) kind.Sending sending_moves (omega (arith, sending))

-- ---- so no round is planned

pub no_plan : (s : State) → first_down s ≡ None → first_in_move s ≢ None → (o : ℕ) → IsPossible s (Plan o) → ⊥
no_plan s up moving o possible =
    let g = gives (plan s o) possible in
    let can = can_plan s g.0 o g.1 in
    moving (by (first_down s) up can.gives)
  where
    by : {t : State} (d : Option ℕ) → d ≡ None → plan_round s o d ≡ Ok t → first_in_move s ≡ None
    by None none planned = (wants_none_ok (first_in_move s) reason.Moving _ _ planned).0
    by (Some x) none planned = absurd (cc none)
