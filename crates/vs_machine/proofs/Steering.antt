-- Whether a post is allowed, by tests; and whether a state is still, by what there is in the cluster.
use Rattle.std.proofs.Common.{◌≡◌, ℕ, zero, suc, inl, inr, ◌≤◌, arith, Bool, true, false, refl, sym, ap, subst, ◌∙◌, Option, Some, None, Result, Ok, Err}
use Rattle.std.specs.Prelude.{◌≢◌, ◌⊎◌, ◌↔◌, ◌&&◌, ◌||◌, not, is_some, IsOk, if◌then◌else◌}
use Rattle.std.proofs.lemmas.Bool.{cases_eq, eqb-true, eq-eqb}
use Rattle.vs_space.specs.declared.status.Cause.{Cause}
use Rattle.vs_space.specs.declared.status.Cause.TheVariants.{WrongBucket, TransferInProgress, BucketIsLocked, Down}
use Rattle.vs_space.specs.declared.status.Verdict.{Verdict}
use Rattle.vs_space.specs.declared.status.Verdict.TheVariants.{Granted, Refused}
use Rattle.vs_space.specs.declared.status.Status.{Status}
use Rattle.vs_space.specs.declared.status.Status.TheVariants.{Active, Pinned, Sending, Receiving, Sent, Garbage}
use Rattle.vs_send.specs.declared.transfer.Transfer.{Transfer}
use Rattle.vs_calls.specs.Progress.{is_at_set, is_idle}
use Rattle.vs_calls.specs.declared.stage.Stage.{Stage}
use Rattle.vs_calls.specs.declared.stage.Stage.TheVariants as stage
use Rattle.vs_event.specs.declared.event.Event.{Event}
use Rattle.vs_event.specs.declared.event.Event.TheVariants.{Post, Begin, Act, End, Take, Cut, Start, Haul, NotYet, Freeze, Chunk, Seal, Last, Abort, EndMove, Deliver, Hear, Close, Ask, Condemn, Wipe, Forget, Pin, Plan, Stop, Fault, Restart}
use Rattle.vs_event.specs.declared.event.RestartBy.TheVariants as by
use Rattle.vs_event.specs.declared.reason.Reason.{Reason}
use Rattle.vs_script.specs.Calls.{Call}
use Rattle.vs_machine.specs.Tables.{least_to, or_else}
use Rattle.vs_machine.specs.State.{State, sets_of, next_call, has_client, has_operator, has_set}
use Rattle.vs_machine.specs.Step.{step}
use Rattle.vs_machine.specs.Kinds.Calls.{verdict_at}
use Rattle.vs_machine.specs.Actors.{IsLeftAside, Operator, Mover, Service, HasEvent, IsStill, IsSteered, IsStranded, IsHinted, WouldGrant, IsOf}
use Rattle.vs_machine.specs.Driven.{IsPostAllowed, GoesByHint, is_granted, is_hint_to, is_first, would_grant, is_granted_somewhere, is_stranded, is_being_sent, IsStillWithin, TestedPosts, TestedAsks, StillWithin}
use Rattle.vs_machine.proofs.Can.Calls.{can_cut}
use Rattle.vs_machine.proofs.Can.Others.{can_deliver, can_hear, can_close, can_ask, can_condemn, can_wipe, can_forget, can_pin, can_haul, can_plan}
use Rattle.vs_machine.proofs.Can.Sender.{can_start, can_wait, can_freeze, can_chunk, can_seal, can_last, can_abort, can_end_move}
use Rattle.vs_machine.proofs.Can.Stops.{can_stop, can_restart, can_restart_line}
use Rattle.vs_machine.proofs.Reached.{reached_whole}

-- ---- tests

granted_is : (v : Verdict) → (is_granted v ≡ true) ↔ (v ≡ Granted)
granted_is Granted = (λ h. refl, λ h. refl)
granted_is (Refused cause) = (λ h. absurd cc, λ h. absurd cc)

hint_is : (cause : Option Cause) (x : ℕ) → (is_hint_to cause x ≡ true) ↔ (cause ≡ Some (WrongBucket (Some x)))
hint_is None x = (λ h. absurd cc, λ h. absurd cc)
hint_is (Some (WrongBucket (Some y))) x = (λ h. ap (λ (z : ℕ). Some (WrongBucket (Some z))) (eqb-true y x h), λ h. let same : y ≡ x = cc in eq-eqb y x same)
hint_is (Some (WrongBucket None)) x = (λ h. absurd cc, λ h. absurd cc)
hint_is (Some (TransferInProgress d)) x = (λ h. absurd cc, λ h. absurd cc)
hint_is (Some BucketIsLocked) x = (λ h. absurd cc, λ h. absurd cc)
hint_is (Some Down) x = (λ h. absurd cc, λ h. absurd cc)

-- none from 1 to n passes where there is no least one, and the least one passes
none_least : (p : ℕ → Bool) (n : ℕ) → least_to p n ≡ None → (x : ℕ) → 1 ≤ x → x ≤ n → p x ≡ true → ⊥
none_least p zero none x from to passes = absurd (omega arith)
none_least p (suc n) none x from to passes = by (least_to p n) refl (p (suc n)) refl none (λ is le. none_least p n is x from le passes)
  where
    last : p (suc n) ≡ false → (x ≤ n → ⊥) → (x ≡ suc n) ⊎ (x ≢ suc n) → ⊥
    last at below (inl same) = absurd (cc (sym passes ∙ ap p same ∙ at))
    last at below (inr ne) = below (omega (arith, ne))

    by : (o : Option ℕ) → least_to p n ≡ o → (t : Bool) → p (suc n) ≡ t → or_else o (if t then Some (suc n) else None) ≡ None → (least_to p n ≡ None → x ≤ n → ⊥) → ⊥
    by (Some y) is t at h below = absurd (cc h)
    by None is true at h below = absurd (cc h)
    by None is false at h below = last at (below is) (cases_eq x (suc n))

least_is : (p : ℕ → Bool) (n y : ℕ) → least_to p n ≡ Some y → (1 ≤ y) × (y ≤ n) × (p y ≡ true)
least_is p zero y h = absurd cc
least_is p (suc n) y h = by (least_to p n) refl (p (suc n)) refl h (λ z is. least_is p n z is)
  where
    by : (o : Option ℕ) → least_to p n ≡ o → (t : Bool) → p (suc n) ≡ t → or_else o (if t then Some (suc n) else None) ≡ Some y → ((z : ℕ) → least_to p n ≡ Some z → (1 ≤ z) × (z ≤ n) × (p z ≡ true)) → (1 ≤ y) × (y ≤ suc n) × (p y ≡ true)
    by (Some z) is t at g lower = let same : z ≡ y = cc in let low = lower z is in
        (subst (λ (v : ℕ). 1 ≤ v) same low.0, subst (λ (v : ℕ). v ≤ suc n) same (omega (arith, low.1)), subst (λ (v : ℕ). p v ≡ true) same low.2)
    by None is true at g lower = let same : suc n ≡ y = cc in (omega (arith, same), omega (arith, same), subst (λ (v : ℕ). p v ≡ true) same at)
    by None is false at g lower = absurd (cc g)

module _ (s : State) (c x : ℕ) (k : Call) (still flag : Bool) (called : next_call (s.client c) ≡ Some k) (decides : is_first s c ≡ false → is_granted_somewhere s k ≡ false → (still ≡ true) ↔ IsStill s) where
  first_is : (is_first s c ≡ true) ↔ ((s.client c).present.tries ≡ 0)
  first_is = (λ h. eqb-true (s.client c).present.tries 0 h, λ h. eq-eqb (s.client c).present.tries 0 h)

  nobody : is_granted_somewhere s k ≡ false → (y : ℕ) → 1 ≤ y → y ≤ sets_of s → ¬ (WouldGrant s y k)
  nobody none y from to grants = by (least_to (λ z. would_grant s z k) (sets_of s)) refl none
    where
      by : (o : Option ℕ) → least_to (λ z. would_grant s z k) (sets_of s) ≡ o → is_some o ≡ false → ⊥
      by (Some z) is h = absurd (cc h)
      by None is h = none_least (λ z. would_grant s z k) (sets_of s) is y from to ((granted_is (verdict_at s y k)).1 grants)

  somebody : is_granted_somewhere s k ≡ true → ((y : ℕ) → 1 ≤ y → y ≤ sets_of s → ¬ (WouldGrant s y k)) → ⊥
  somebody some none = by (least_to (λ z. would_grant s z k) (sets_of s)) refl some
    where
      by : (o : Option ℕ) → least_to (λ z. would_grant s z k) (sets_of s) ≡ o → is_some o ≡ true → ⊥
      by (Some z) is h = let low = least_is (λ y. would_grant s y k) (sets_of s) z is in none z low.0 low.1 ((granted_is (verdict_at s z k)).0 low.2)
      by None is h = absurd (cc h)

  stranded_is : is_first s c ≡ false → (is_stranded s still k ≡ true) ↔ IsStranded s k
  stranded_is fi = (λ h. to (is_granted_somewhere s k) refl h, λ h. from (is_granted_somewhere s k) refl h)
    where
      to : (t : Bool) → is_granted_somewhere s k ≡ t → (not t && still) ≡ true → IsStranded s k
      to true is h = absurd (cc h)
      to false is h = record { refused = nobody is; still = (decides fi is).0 h }

      from : (t : Bool) → is_granted_somewhere s k ≡ t → IsStranded s k → (not t && still) ≡ true
      from true is h = absurd (somebody is h.refused)
      from false is h = (decides fi is).1 h.still

  one_call : (j : Call) → next_call (s.client c) ≡ Some j → k ≡ j
  one_call j h = cc

  tells : (f g t h : Bool) → is_first s c ≡ f → would_grant s x k ≡ g → is_stranded s still k ≡ t → is_hint_to (s.client c).present.cause x ≡ h
      → (((not f && (h && (not g && not t))) ≡ true) ↔ GoesByHint s c x)
  tells f g t h fi gi ti hi = (λ is. to f g t h fi gi ti hi is, λ w. from f g t h fi gi ti hi w)
    where
      to : (f g t h : Bool) → is_first s c ≡ f → would_grant s x k ≡ g → is_stranded s still k ≡ t → is_hint_to (s.client c).present.cause x ≡ h → (not f && (h && (not g && not t))) ≡ true → GoesByHint s c x
      to false false false true fi gi ti hi is = record {
        call = k;
        called = called;
        further = let ne : (s.client c).present.tries ≢ 0 = λ z. absurd (cc (sym fi ∙ first_is.1 z)) in omega (arith, ne);
        alone = record {
          hinted = (hint_is (s.client c).present.cause x).0 hi;
          refused = λ w. absurd (cc (sym gi ∙ (granted_is (verdict_at s x k)).1 w));
          moving = λ w. absurd (cc (sym ti ∙ (stranded_is fi).1 w));
        };
      }
      to true g t h fi gi ti hi is = absurd (cc is)
      to false g t false fi gi ti hi is = absurd (cc is)
      to false true t true fi gi ti hi is = absurd (cc is)
      to false false true true fi gi ti hi is = absurd (cc is)

      from : (f g t h : Bool) → is_first s c ≡ f → would_grant s x k ≡ g → is_stranded s still k ≡ t → is_hint_to (s.client c).present.cause x ≡ h → GoesByHint s c x → (not f && (h && (not g && not t))) ≡ true
      from true g t h fi gi ti hi w = let z = first_is.0 fi in let n = w.further in absurd (omega (arith, z, n))
      from false true t h fi gi ti hi w = absurd (w.alone.refused (subst (λ (j : Call). WouldGrant s x j) (one_call w.call w.called) ((granted_is (verdict_at s x k)).0 gi)))
      from false false true h fi gi ti hi w = absurd (w.alone.moving (subst (IsStranded s) (one_call w.call w.called) ((stranded_is fi).0 ti)))
      from false false false false fi gi ti hi w = absurd (cc (sym hi ∙ (hint_is (s.client c).present.cause x).1 w.alone.hinted))
      from false false false true fi gi ti hi w = refl

  allows : (f g t h n : Bool) → is_first s c ≡ f → would_grant s x k ≡ g → is_stranded s still k ≡ t → is_hint_to (s.client c).present.cause x ≡ h → flag ≡ n
      → (((f || (g || (t || (h && not n)))) ≡ true) ↔ IsPostAllowed s flag c x)
  allows f g t h n fi gi ti hi ni = (λ is. to f g t h n fi gi ti hi ni is, λ w. from f g t h n fi gi ti hi ni w)
    where
      granted : would_grant s x k ≡ true → WouldGrant s x k
      granted gi = (granted_is (verdict_at s x k)).0 gi

      none_further : (s.client c).present.tries ≡ 0 → 1 ≤ (s.client c).present.tries → ⊥
      none_further z n = omega (arith, z, n)

      to : (f g t h n : Bool) → is_first s c ≡ f → would_grant s x k ≡ g → is_stranded s still k ≡ t → is_hint_to (s.client c).present.cause x ≡ h → flag ≡ n → (f || (g || (t || (h && not n)))) ≡ true → IsPostAllowed s flag c x
      to true g t h n fi gi ti hi ni is = record { steered = λ j named more. absurd (none_further (first_is.0 fi) more); not_both = λ e w. none_further (first_is.0 fi) w.further }
      to false true t h n fi gi ti hi ni is = record {
        steered = λ j named more. inl (subst (λ (v : Call). WouldGrant s x v) (one_call j named) (granted gi));
        not_both = λ e w. w.alone.refused (subst (λ (v : Call). WouldGrant s x v) (one_call w.call w.called) (granted gi));
      }
      to false false true h n fi gi ti hi ni is = record {
        steered = λ j named more. inr (inr (subst (IsStranded s) (one_call j named) ((stranded_is fi).0 ti)));
        not_both = λ e w. w.alone.moving (subst (IsStranded s) (one_call w.call w.called) ((stranded_is fi).0 ti));
      }
      to false false false true false fi gi ti hi ni is = record {
        steered = λ j named more. inr (inl ((hint_is (s.client c).present.cause x).0 hi));
        not_both = λ e w. absurd (cc (sym ni ∙ e));
      }
      to false false false true true fi gi ti hi ni is = absurd (cc is)
      to false false false false n fi gi ti hi ni is = absurd (cc is)

      from : (f g t h n : Bool) → is_first s c ≡ f → would_grant s x k ≡ g → is_stranded s still k ≡ t → is_hint_to (s.client c).present.cause x ≡ h → flag ≡ n → IsPostAllowed s flag c x → (f || (g || (t || (h && not n)))) ≡ true
      from true g t h n fi gi ti hi ni w = refl
      from false true t h n fi gi ti hi ni w = refl
      from false false true h n fi gi ti hi ni w = refl
      from false false false h n fi gi ti hi ni w = steered (w.steered k called more)
        where
          more : 1 ≤ (s.client c).present.tries
          more = let ne : (s.client c).present.tries ≢ 0 = λ z. absurd (cc (sym fi ∙ first_is.1 z)) in omega (arith, ne)

          hinted : (h n : Bool) → is_hint_to (s.client c).present.cause x ≡ h → flag ≡ n → IsHinted s c x → (h && not n) ≡ true
          hinted true false hi ni is = refl
          hinted true true hi ni is = absurd (w.not_both ni (record {
            call = k;
            called = called;
            further = more;
            alone = record {
              hinted = is;
              refused = λ v. absurd (cc (sym gi ∙ (granted_is (verdict_at s x k)).1 v));
              moving = λ v. absurd (cc (sym ti ∙ (stranded_is fi).1 v));
            };
          }))
          hinted false n hi ni is = absurd (cc (sym hi ∙ (hint_is (s.client c).present.cause x).1 is))

          steered : IsSteered s c x k → (h && not n) ≡ true
          steered (inl v) = absurd (cc (sym gi ∙ (granted_is (verdict_at s x k)).1 v))
          steered (inr (inl v)) = hinted h n hi ni v
          steered (inr (inr v)) = absurd (cc (sym ti ∙ (stranded_is fi).1 v))

pub tested_posts : TestedPosts
tested_posts s c x k still flag called decides =
    (allows s c x k still flag called decides _ _ _ _ flag refl refl refl refl refl, tells s c x k still flag called decides _ _ _ _ refl refl refl refl)

-- ---- questions

pub tested_asks : TestedAsks
tested_asks s x b = (λ left. told left, λ h. asks ((s.bucket b).entry x) refl h)
  where
    told : IsLeftAside s (Ask x b) → is_being_sent (s.bucket b) ((s.bucket b).entry x) ≡ true
    told left = ap (is_being_sent (s.bucket b)) left.2 ∙ ap is_some left.3

    asks : (e : Option Status) → (s.bucket b).entry x ≡ e → is_being_sent (s.bucket b) e ≡ true → IsLeftAside s (Ask x b)
    asks None is h = absurd (cc h)
    asks (Some Active) is h = absurd (cc h)
    asks (Some Pinned) is h = absurd (cc h)
    asks (Some (Sending d)) is h = absurd (cc h)
    asks (Some (Sent d)) is h = absurd (cc h)
    asks (Some Garbage) is h = absurd (cc h)
    asks (Some (Receiving z)) is h = by ((s.bucket b).transfer z) refl h
      where
        by : (v : Option Transfer) → (s.bucket b).transfer z ≡ v → is_some v ≡ true → IsLeftAside s (Ask x b)
        by None there g = absurd (cc g)
        by (Some t) there g = (z, t, is, there)

-- ---- stillness

stage_idle : (st : Stage) → is_idle st ≡ true → is_at_set st ≡ false
stage_idle stage.Idle h = refl
stage_idle stage.Posted h = absurd (cc h)
stage_idle stage.Running h = absurd (cc h)
stage_idle stage.Acted h = absurd (cc h)
stage_idle stage.Ended h = absurd (cc h)
stage_idle stage.Refused h = refl
stage_idle stage.Lost h = refl

pub still_within : StillWithin
still_within s r = (
  λ w. record {
    calls = λ c. by_client w c (has_client s c) refl;
    operators = λ o h. w.operators o (operator_there o h) h;
    movers = λ x h. w.movers x (mover_there x h) h;
    services = λ x up h. w.services x (service_there x h) up h;
  },
  λ w. record { calls = λ c known. w.calls c; operators = λ o known. w.operators o; movers = λ x known. w.movers x; services = λ x known. w.services x },
)
  where
    by_client : IsStillWithin s → (c : ℕ) → (t : Bool) → has_client s c ≡ t → is_at_set (s.client c).present.stage ≡ false
    by_client w c true known = w.calls c known
    by_client w c false none = stage_idle (s.client c).present.stage ((reached_whole s r).1.inner.absent c none)

    possible : (e : Event) → IsOk (step s e) → (t : State) × (step s e ≡ Ok t)
    possible e h = ok (step s e) refl h
      where
        ok : (v : Result State Reason) → step s e ≡ v → IsOk v → (t : State) × (step s e ≡ Ok t)
        ok (Ok t) is g = (t, is)
        ok (Err f) is g = absurd cc

    operator_by : (o : ℕ) (e : Event) (t : State) → IsOf (Operator o) e → step s e ≡ Ok t → has_operator s o ≡ true
    operator_by o (Cut k) t own h = subst (λ (v : ℕ). has_operator s v ≡ true) own (can_cut s t k h).operator
    operator_by o (Start k) t own h = subst (λ (v : ℕ). has_operator s v ≡ true) own (can_start s t k h).operator
    operator_by o (Close k) t own h = subst (λ (v : ℕ). has_operator s v ≡ true) own (can_close s t k h).operator
    operator_by o (Pin k) t own h = subst (λ (v : ℕ). has_operator s v ≡ true) own (can_pin s t k h).operator
    operator_by o (Plan k) t own h = subst (λ (v : ℕ). has_operator s v ≡ true) own (can_plan s t k h).operator
    operator_by o (Stop k) t own h = subst (λ (v : ℕ). has_operator s v ≡ true) own (can_stop s t k h).operator
    operator_by o (Restart x kept (by.Line k)) t own h = subst (λ (v : ℕ). has_operator s v ≡ true) own (can_restart_line s t x k kept h).operator
    operator_by o (Restart x kept by.Service) t own h = absurd own
    operator_by o (Post c x) t own h = absurd own
    operator_by o (Begin c) t own h = absurd own
    operator_by o (Act c) t own h = absurd own
    operator_by o (End c) t own h = absurd own
    operator_by o (Take c) t own h = absurd own
    operator_by o (Haul k x d) t own h = absurd own
    operator_by o (NotYet x b) t own h = absurd own
    operator_by o (Freeze x b) t own h = absurd own
    operator_by o (Chunk x b) t own h = absurd own
    operator_by o (Seal x b) t own h = absurd own
    operator_by o (Last x b) t own h = absurd own
    operator_by o (Abort x b) t own h = absurd own
    operator_by o (EndMove x b) t own h = absurd own
    operator_by o (Deliver x y) t own h = absurd own
    operator_by o (Hear x y) t own h = absurd own
    operator_by o (Ask x b) t own h = absurd own
    operator_by o (Condemn x b) t own h = absurd own
    operator_by o (Wipe x b) t own h = absurd own
    operator_by o (Forget x b) t own h = absurd own
    operator_by o (Fault x n e) t own h = absurd own

    mover_by : (x : ℕ) (e : Event) (t : State) → IsOf (Mover x) e → step s e ≡ Ok t → has_set s x ≡ true
    mover_by x (Haul k y d) t own h = subst (λ (v : ℕ). has_set s v ≡ true) own (can_haul s t k y d h).from
    mover_by x (NotYet y b) t own h = subst (λ (v : ℕ). has_set s v ≡ true) own (can_wait s t y b h).set
    mover_by x (Freeze y b) t own h = subst (λ (v : ℕ). has_set s v ≡ true) own (can_freeze s t y b h).set
    mover_by x (Chunk y b) t own h = subst (λ (v : ℕ). has_set s v ≡ true) own (can_chunk s t y b h).set
    mover_by x (Seal y b) t own h = subst (λ (v : ℕ). has_set s v ≡ true) own (can_seal s t y b h).set
    mover_by x (Last y b) t own h = subst (λ (v : ℕ). has_set s v ≡ true) own (can_last s t y b h).set
    mover_by x (Abort y b) t own h = subst (λ (v : ℕ). has_set s v ≡ true) own (can_abort s t y b h).set
    mover_by x (EndMove y b) t own h = subst (λ (v : ℕ). has_set s v ≡ true) own (can_end_move s t y b h).set
    mover_by x (Cut k) t own h = absurd own
    mover_by x (Start k) t own h = absurd own
    mover_by x (Close k) t own h = absurd own
    mover_by x (Pin k) t own h = absurd own
    mover_by x (Plan k) t own h = absurd own
    mover_by x (Stop k) t own h = absurd own
    mover_by x (Restart y kept r) t own h = absurd own
    mover_by x (Post c y) t own h = absurd own
    mover_by x (Begin c) t own h = absurd own
    mover_by x (Act c) t own h = absurd own
    mover_by x (End c) t own h = absurd own
    mover_by x (Take c) t own h = absurd own
    mover_by x (Deliver z y) t own h = absurd own
    mover_by x (Hear z y) t own h = absurd own
    mover_by x (Ask y b) t own h = absurd own
    mover_by x (Condemn y b) t own h = absurd own
    mover_by x (Wipe y b) t own h = absurd own
    mover_by x (Forget y b) t own h = absurd own
    mover_by x (Fault y n e) t own h = absurd own

    service_by : (x : ℕ) (e : Event) (t : State) → IsOf (Service x) e → step s e ≡ Ok t → has_set s x ≡ true
    service_by x (Deliver z y) t own h = subst (λ (v : ℕ). has_set s v ≡ true) own (can_deliver s t z y h).to
    service_by x (Hear z y) t own h = subst (λ (v : ℕ). has_set s v ≡ true) own (can_hear s t z y h).to
    service_by x (Ask y b) t own h = subst (λ (v : ℕ). has_set s v ≡ true) own (can_ask s t y b h).set
    service_by x (Condemn y b) t own h = subst (λ (v : ℕ). has_set s v ≡ true) own (can_condemn s t y b h).set
    service_by x (Wipe y b) t own h = subst (λ (v : ℕ). has_set s v ≡ true) own (can_wipe s t y b h).set
    service_by x (Forget y b) t own h = subst (λ (v : ℕ). has_set s v ≡ true) own (can_forget s t y b h).set
    service_by x (Restart y kept by.Service) t own h = subst (λ (v : ℕ). has_set s v ≡ true) own (can_restart s t y kept h).set
    service_by x (Restart y kept (by.Line k)) t own h = absurd own
    service_by x (Cut k) t own h = absurd own
    service_by x (Start k) t own h = absurd own
    service_by x (Close k) t own h = absurd own
    service_by x (Pin k) t own h = absurd own
    service_by x (Plan k) t own h = absurd own
    service_by x (Stop k) t own h = absurd own
    service_by x (Post c y) t own h = absurd own
    service_by x (Begin c) t own h = absurd own
    service_by x (Act c) t own h = absurd own
    service_by x (End c) t own h = absurd own
    service_by x (Take c) t own h = absurd own
    service_by x (Haul k y d) t own h = absurd own
    service_by x (NotYet y b) t own h = absurd own
    service_by x (Freeze y b) t own h = absurd own
    service_by x (Chunk y b) t own h = absurd own
    service_by x (Seal y b) t own h = absurd own
    service_by x (Last y b) t own h = absurd own
    service_by x (Abort y b) t own h = absurd own
    service_by x (EndMove y b) t own h = absurd own
    service_by x (Fault y n e) t own h = absurd own

    operator_there : (o : ℕ) → HasEvent s (Operator o) → has_operator s o ≡ true
    operator_there o h = let g = possible h.0 h.1.possible in operator_by o h.0 g.0 h.1.its_own g.1

    mover_there : (x : ℕ) → HasEvent s (Mover x) → has_set s x ≡ true
    mover_there x h = let g = possible h.0 h.1.possible in mover_by x h.0 g.0 h.1.its_own g.1

    service_there : (x : ℕ) → HasEvent s (Service x) → has_set s x ≡ true
    service_there x h = let g = possible h.0 h.1.possible in service_by x h.0 g.0 h.1.its_own g.1
