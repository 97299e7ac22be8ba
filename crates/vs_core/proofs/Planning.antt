-- A round is planned.
use Rattle.std.proofs.Common.{◌≡◌, ℕ, zero, suc, ◌+◌, ◌*◌, ◌≤◌, Bool, true, false, [], ◌∷◌, length, Some, None, Ok, refl, sym, ap, subst, ◌∙◌, arith}
use Rattle.std.specs.Prelude.{◌||◌, if◌then◌else◌, All}
use Rattle.std.specs.List.{sum_by}
use Rattle.std.proofs.lemmas.List.{length-append}
use Rattle.std.proofs.lemmas.List.Elements.{All-nil, All-cons, All-append}
use Rattle.std.proofs.lemmas.List.Sums.{sum_by_push}
use Rattle.vs_balance.specs.declared.view.SetView.{SetView}
use Rattle.vs_event.specs.declared.reason.Reason.TheVariants as reason
use Rattle.vs_machine.specs.State as machine
use Rattle.vs_machine.specs.Tables.{count_to, least_to, list_to}
use Rattle.vs_space.specs.Status.{is_active}
use Rattle.vs_machine.specs.Kinds.Rebalancing.{is_pinned, is_in_move, view_of, plan, plan_round, after_plan}
use Rattle.vs_machine.specs.declared.outcome.CommandFault.TheVariants.{Down}
use Rattle.vs_machine.specs.declared.outcome.CommandOutcome.TheVariants.{Refused}
use Rattle.vs_machine.proofs.Can.Others.{can_plan}
use Rattle.vs_machine.proofs.Possible.{wants_none_ok}
use Rattle.vs_state.specs.Guard.{verdict}
use Rattle.vs_state.specs.Moves.{first_down}
use Rattle.vs_core.proofs.Sender.{goes_on}

-- ---- what is seen of the sets

pub as_many : {A : Type 0} (f : ℕ → A) (n : ℕ) → length (list_to f n) ≡ n
as_many f zero = refl
as_many f (suc n) = omega (arith, length-append (list_to f n) (f (suc n) ∷ []), as_many f n)

count_within : (p : ℕ → Bool) (n : ℕ) → count_to p n ≤ n
count_within p zero = omega arith
count_within p (suc n) = by (p (suc n)) (count_within p n)
  where
    by : (t : Bool) → count_to p n ≤ n → count_to p n + (if t then 1 else 0) ≤ suc n
    by true before = omega arith
    by false before = omega arith

count_either : (p r : ℕ → Bool) (n : ℕ) → count_to r n ≤ count_to (λ k. p k || r k) n
count_either p r zero = omega arith
count_either p r (suc n) = by (p (suc n)) (r (suc n)) (count_either p r n)
  where
    by : (d e : Bool) → count_to r n ≤ count_to (λ k. p k || r k) n → count_to r n + (if e then 1 else 0) ≤ count_to (λ k. p k || r k) n + (if d || e then 1 else 0)
    by true true before = omega arith
    by true false before = omega arith
    by false true before = omega arith
    by false false before = omega arith

module _ (s : machine.State) where
  pinned_within : (x : ℕ) → (view_of s x).pinned ≤ (view_of s x).count
  pinned_within x = count_either (λ b. is_active ((s.bucket b).entry x)) (λ b. is_pinned ((s.bucket b).entry x)) s.config.bucket_count

  -- no set has more pinned buckets than buckets
  pub all_pinned_within : (n : ℕ) → All (λ v. v.pinned ≤ v.count) (list_to (view_of s) n)
  all_pinned_within zero = All-nil (λ (v : SetView). v.pinned ≤ v.count)
  all_pinned_within (suc n) =
      All-append (λ (v : SetView). v.pinned ≤ v.count) (list_to (view_of s) n) (view_of s (suc n) ∷ []) (all_pinned_within n)
      (All-cons (λ (v : SetView). v.pinned ≤ v.count) (view_of s (suc n)) [] (pinned_within (suc n)) (All-nil (λ (v : SetView). v.pinned ≤ v.count)))

  -- and each has no more than there are
  pub all_few : s.config.bucket_count ≤ 30000 → (n : ℕ) → sum_by (λ v. v.count) (list_to (view_of s) n) ≤ n * 30000
  all_few few zero = omega arith
  all_few few (suc n) =
      let before : sum_by (λ v. v.count) (list_to (view_of s) n) ≤ n * 30000 = all_few few n in
      let here : (view_of s (suc n)).count ≤ s.config.bucket_count = count_within (λ b. is_active ((s.bucket b).entry (suc n)) || is_pinned ((s.bucket b).entry (suc n))) s.config.bucket_count in
      omega (arith, sum_by_push (λ (v : SetView). v.count) (list_to (view_of s) n) (view_of s (suc n)), before, here, few)

-- ---- what the plan comes to

module _ (s : machine.State) (o : ℕ) (h : verdict (plan s o) ≡ Ok tt) where
  pub plan_operator : machine.has_operator s o ≡ true
  plan_operator = let next = goes_on (plan s o) h in (can_plan s next.0 o next.1).operator

  -- with a set down the command is refused
  pub plan_down : (x : ℕ) → first_down s ≡ Some x → plan s o ≡ Ok (machine.put_operator s o (machine.answer (s.operator o) (Refused (Down x))))
  plan_down x down =
      let next = goes_on (plan s o) h in
      next.1 ∙ sym (can_plan s next.0 o next.1).gives ∙ ap (plan_round s o) down

  -- and with none down no bucket is in a move
  pub plan_on : first_down s ≡ None → plan s o ≡ Ok (after_plan s o)
  plan_on up =
      let next = goes_on (plan s o) h in
      let g = wants_none_ok (least_to (is_in_move s) s.config.bucket_count) reason.Moving _ next.0 (subst (λ d. plan_round s o d ≡ Ok next.0) up (can_plan s next.0 o next.1).gives) in
      next.1 ∙ sym g.1
