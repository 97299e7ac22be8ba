-- Where a call is answered Spent, at least 63 of its further posts were in vain for a cause that the client can't mend.
use Rattle.std.proofs.Common.{◌≡◌, ℕ, suc, inl, inr, ◌+◌, ◌-◌, ◌*◌, ◌≤◌, ◌<◌, arith, Bool, true, false, refl, sym, ap, subst, ◌∙◌, List, length, Option, Some, None, Ok}
use Rattle.std.specs.Prelude.{◌≢◌, ◌⊎◌, ◌&&◌, ◌||◌, not, nat_le, if◌then◌else◌, slice_get}
use Rattle.std.proofs.lemmas.Bool.{cases_eq, eq-eqb}
use Rattle.std.proofs.lemmas.Bool.Decides.{nat_tests}
use Rattle.std.proofs.lemmas.Option.{slice_get_within}
use Rattle.vs_rows.specs.Said.{Said}
use Rattle.vs_space.specs.declared.status.Cause.{Cause}
use Rattle.vs_space.specs.declared.status.Verdict.{Verdict}
use Rattle.vs_space.specs.declared.status.Verdict.TheVariants.{Granted, Refused}
use Rattle.vs_calls.specs.declared.stage.Stage.{Stage}
use Rattle.vs_calls.specs.declared.stage.Stage.TheVariants as stage
use Rattle.vs_calls.specs.Outcomes.{Spent}
use Rattle.vs_calls.specs.Progress.{Progress, posted, begun, lost, cut_at, outcome_by, may_post, is_refused, is_at_set}
use Rattle.vs_event.specs.declared.event.Event.{Event}
use Rattle.vs_event.specs.declared.event.Event.TheVariants.{Post, Begin, Take}
use Rattle.vs_script.specs.Calls.{Call}
use Rattle.vs_machine.specs.Tables.{count_to}
use Rattle.vs_machine.specs.State.{State, Client, next_call, is_set, with_progress}
use Rattle.vs_machine.specs.Step.{step}
use Rattle.vs_machine.specs.Whole.{Whole}
use Rattle.vs_machine.specs.Kinds.Calls.{verdict_at}
use Rattle.vs_machine.specs.Actors.{WouldGrant, IsStranded, IsHinted, IsSteered, IsByHintAlone, IsFurtherPost, ArePostsSteered, IsOf}
use Rattle.vs_machine.specs.Actors as actors
use Rattle.vs_machine.specs.Completeness.{IsAfter, IsRun, IsWholeCall, IsSpent, TakesAway, IsTakenAway, is_post_of, SpentCalls, MovedCalls}
use Rattle.vs_machine.proofs.Along.{split, state_at, reached_at, along}
use Rattle.vs_machine.proofs.Can.Calls.{can_post, can_take}
use Rattle.vs_machine.proofs.Frame.{put_here}
use Rattle.vs_machine.proofs.Granting.{granted_on, granted_up}
use Rattle.vs_machine.proofs.Hinted.{HintedBefore, hinted_on}
use Rattle.vs_machine.proofs.Possible.{ok_is}
use Rattle.vs_machine.proofs.Reached.{reached_whole}
use Rattle.vs_machine.proofs.Replied.{one_set}
use Rattle.vs_machine.proofs.Turns.{Turn, StaysUp, stays, posts, begins, acts, ends, takes, cuts, falls, turn}
use Rattle.vs_machine.proofs.Unposted.{posted_is}

-- where an answer is Spent the call was refused
spent_is : (st : Stage) (said : Option (ℕ × List Said)) (why : Option Cause) (cause : Cause) → outcome_by st said why ≡ Spent cause → st ≡ stage.Refused
spent_is stage.Refused said why cause h = refl
spent_is stage.Ended (Some v) why cause h = absurd (cc h)
spent_is stage.Ended None why cause h = absurd (cc h)
spent_is stage.Idle said why cause h = absurd (cc h)
spent_is stage.Posted said why cause h = absurd (cc h)
spent_is stage.Running said why cause h = absurd (cc h)
spent_is stage.Acted said why cause h = absurd (cc h)
spent_is stage.Lost said why cause h = absurd (cc h)

module _ (start : State) (events : List Event) (c : ℕ) (k : Call) (first last : ℕ) (within : last < length events)
    (known : (m : ℕ) (s : State) → IsAfter start events m s → (own : ℕ → ℕ) × Whole own s) (steered : ArePostsSteered start events)
    (w : IsWholeCall start events c k first last) (test : ℕ → Bool)
    (stuck : (m x : ℕ) (s : State) → first < m → m < last → slice_get events m ≡ Some (Post c x) → IsAfter start events m s → IsStranded s k → test m ≡ true)
    (away : (m x : ℕ) → first < m → m < last → slice_get events m ≡ Some (Post c x) → (t : IsTakenAway start events c k m x) → t.index < last → (test m ≡ true) ⊎ (test t.index ≡ true)) where
  -- how many of the events after the first post, up to the index first + d, pass the test
  abbrev passed : ℕ → ℕ
  passed d = count_to (λ q. test (first + q)) d

  -- its last post so far went for the hint alone
  abbrev Hinted : ℕ → Type 0
  Hinted d = HintedBefore start events c (w.before.client c).present.number (first + suc d)

  -- its last post so far doesn't pass the test, and it would still be granted where it is posted
  record IsGranted (d : ℕ) (s : State) (x : ℕ) : Type 0 where
    index : ℕ
    after : first < index
    earlier : index < first + suc d
    there : slice_get events index ≡ Some (Post c x)
    failed : test index ≡ false
    grants : verdict_at s x k ≡ Granted
    unbegun : (n : ℕ) → index < n → n < first + suc d → slice_get events n ≢ Some (Begin c)

  -- of the posts that don't pass, no two are in a row
  abbrev Posts : ℕ → Progress → Type 0
  Posts d p = (p.tries ≤ 2 * passed d + 1) ⊎ ((p.tries ≤ 2 * passed d + 2) × Hinted d)

  abbrev Status_of : ℕ → State → Progress → Stage → Type 0
  Status_of d s p stage.Posted = (x : ℕ) × (p.set ≡ Some x) × (Posts d p ⊎ ((p.tries ≤ 2 * passed d + 3) × IsGranted d s x))
  Status_of d s p stage.Refused = Posts d p
  Status_of d s p stage.Idle = ⊥
  Status_of d s p st = Unit {0}

  record Story (d : ℕ) (s : State) (v : Client) : Type 0 where
    called : next_call v ≡ Some k
    tried : 1 ≤ v.present.tries
    number : v.present.number ≡ (w.before.client c).present.number
    status : Status_of d s v.present v.present.stage

  -- ---- the first post

  base : (t : State) → IsAfter start events (first + 1) t → Story 0 t (t.client c)
  base t after =
      let was = split start t events first (Post c w.set) w.posts after in
      let same : was.before ≡ w.before = ok_is was.before w.before (sym was.ran ∙ w.ran) in
      let p = can_post w.before t c w.set (subst (λ (v : State). step v (Post c w.set) ≡ Ok t) same was.stepped) in
      subst (λ (v : State). Story 0 v (v.client c)) p.gives
      (subst (Story 0 _) (sym (put_here w.before.client c _))
      (let one : (w.before.client c).present.tries + 1 ≤ 1 = let none = w.unposted in omega (arith, none) in
      record { called = w.called; tried = omega arith; number = refl; status = (w.set, refl, inl (inl one)) }))

  -- ---- an event

  module _ (d : ℕ) (s t : State) (e : Event) (lt : first + suc d < last) (there : slice_get events (first + suc d) ≡ Some e) (ran : IsAfter start events (first + suc d) s)
      (stepped : step s e ≡ Ok t) (story : Story d s (s.client c)) where
    abbrev p : Progress
    p = (s.client c).present

    passed_by : (b : Bool) → test (first + suc d) ≡ b → passed (suc d) ≡ passed d + (if b then 1 else 0)
    passed_by b tested = ap (λ (v : Bool). passed d + (if v then 1 else 0)) tested

    more_passed : passed d ≤ passed (suc d)
    more_passed = by (test (first + suc d)) refl
      where
        by : (b : Bool) → test (first + suc d) ≡ b → passed d ≤ passed (suc d)
        by true tested = let n = passed_by true tested in omega (arith, n)
        by false tested = let n = passed_by false tested in omega (arith, n)

    -- of the same posts, with the same number of tries
    posts_on : (v : Progress) → v.tries ≡ p.tries → ((y : ℕ) → e ≢ Post c y) → Posts d p → Posts (suc d) v
    posts_on v tries none (inl few) = let n = more_passed in inl (omega (arith, few, n, tries))
    posts_on v tries none (inr few) = let n = more_passed in let m = few.0 in inr (omega (arith, m, n, tries), hinted_on start events c _ (first + suc d) (first + suc (suc d)) e (omega arith) there none few.1)

    unbegun_on : (index : ℕ) → e ≢ Begin c → ((n : ℕ) → index < n → n < first + suc d → slice_get events n ≢ Some (Begin c)) → (n : ℕ) → index < n → n < first + suc (suc d) → slice_get events n ≢ Some (Begin c)
    unbegun_on index none before n from to at = by (cases_eq n (first + suc d))
      where
        by : (n ≡ first + suc d) ⊎ (n ≢ first + suc d) → ⊥
        by (inl is) = let one : Some e ≡ Some (Begin c) = sym there ∙ ap (slice_get events) (sym is) ∙ at in none (cc one)
        by (inr ne) = before n from (omega (arith, ne, to)) at

    -- it would still be granted, or the bucket was taken away and the test passed
    granted_still : (x : ℕ) → e ≢ Begin c → (s.up x ≡ true → t.up x ≡ true) → (p.tries ≤ 2 * passed d + 3) × IsGranted d s x → Posts (suc d) p ⊎ ((p.tries ≤ 2 * passed (suc d) + 3) × IsGranted (suc d) t x)
    granted_still x none up g =
        let here = known (first + suc d) s ran in
        by (granted_on here.0 s t e x k here.1 stepped (up (granted_up s x k g.1.grants)) g.1.grants)
      where
        settled : (test g.1.index ≡ true) ⊎ (test (first + suc d) ≡ true) → Posts (suc d) p
        settled (inl passes) = absurd (cc (sym passes ∙ g.1.failed))
        settled (inr passes) = let n = passed_by true passes in let m = g.0 in inl (omega (arith, m, n))

        by : (verdict_at t x k ≡ Granted) ⊎ TakesAway s e x k.bucket k.mode → Posts (suc d) p ⊎ ((p.tries ≤ 2 * passed (suc d) + 3) × IsGranted (suc d) t x)
        by (inl grants) = inr (
          let n = more_passed in let m = g.0 in omega (arith, m, n),
          record {
            index = g.1.index;
            after = g.1.after;
            earlier = let before = g.1.earlier in omega (arith, before);
            there = g.1.there;
            failed = g.1.failed;
            grants = grants;
            unbegun = unbegun_on g.1.index none g.1.unbegun;
          },
        )
        by (inr off) = inl (settled (away g.1.index x g.1.after (let before = g.1.earlier in omega (arith, before, lt)) g.1.there
            (record { index = first + suc d; later = g.1.earlier; before = s; ran = ran; event = e; there = there; takes = off; unbegun = g.1.unbegun }) lt))

    status_at : (st : Stage) → p.stage ≡ st → Status_of d s p st
    status_at st is = subst (Status_of d s p) is story.status

    status_on : e ≢ Begin c → ((y : ℕ) → e ≢ Post c y) → StaysUp s t c → (st : Stage) → p.stage ≡ st → Status_of d s p st → Status_of (suc d) t p st
    status_on nb np up stage.Posted at h = (h.0, h.1, by h.2)
      where
        by : Posts d p ⊎ ((p.tries ≤ 2 * passed d + 3) × IsGranted d s h.0) → Posts (suc d) p ⊎ ((p.tries ≤ 2 * passed (suc d) + 3) × IsGranted (suc d) t h.0)
        by (inl few) = inl (posts_on p refl np few)
        by (inr g) = granted_still h.0 nb (up h.0 (ap (λ (v : Stage). is_at_set v && is_set p.set h.0) at ∙ ap (λ (v : Option ℕ). is_set v h.0) h.1 ∙ eq-eqb h.0 h.0 refl)) g
    status_on nb np up stage.Refused at h = posts_on p refl np h
    status_on nb np up stage.Idle at h = h
    status_on nb np up stage.Running at h = tt
    status_on nb np up stage.Acted at h = tt
    status_on nb np up stage.Ended at h = tt
    status_on nb np up stage.Lost at h = tt

    not_own_begin : ¬ (IsOf (actors.Client c) e) → e ≢ Begin c
    not_own_begin other is = other (subst (IsOf (actors.Client c)) (sym is) refl)

    not_own_post : ¬ (IsOf (actors.Client c) e) → (y : ℕ) → e ≢ Post c y
    not_own_post other y is = other (subst (IsOf (actors.Client c)) (sym is) refl)

    -- the call is posted again
    module _ (x wr : ℕ) (is : e ≡ Post c x) (same : t.client c ≡ with_progress (s.client c) (posted p x wr)) (same_verdict : verdict_at t x k ≡ verdict_at s x k) where
      at_post : slice_get events (first + suc d) ≡ Some (Post c x)
      at_post = there ∙ ap (λ (v : Event). Some v) is

      few_tries : Posts d p → p.tries ≤ 2 * passed d + 2
      few_tries (inl few) = omega (arith, few)
      few_tries (inr few) = few.0

      module _ (tested : test (first + suc d) ≡ false) (more : 1 ≤ p.tries) where
        count : passed (suc d) ≡ passed d + 0
        count = passed_by false tested

        post_now : IsFurtherPost start events (first + suc d) c x
        post_now = record { before = s; ran = ran; there = at_post; call = k; called = story.called; further = more }

        granted_now : Posts d p → WouldGrant s x k → ((p.tries + 1 ≤ 2 * passed (suc d) + 3) × IsGranted (suc d) t x)
        granted_now few grants = (
          let n = few_tries few in omega (arith, n, count),
          record {
            index = first + suc d;
            after = omega arith;
            earlier = omega arith;
            there = at_post;
            failed = tested;
            grants = same_verdict ∙ grants;
            unbegun = λ n from to at. absurd (omega (arith, from, to));
          },
        )

        moving : ¬ (IsStranded s k)
        moving stranded = absurd (cc (sym (stuck (first + suc d) x s (omega arith) lt at_post ran stranded) ∙ tested))

        hinted_now : IsHinted s c x → ¬ (WouldGrant s x k) → Posts d p → Posts (suc d) (posted p x wr)
        hinted_now h refused (inl few) = inr (
          omega (arith, few, count),
          record {
            index = first + suc d;
            set = x;
            post = record { before = s; ran = ran; there = at_post; call = k; called = story.called; further = more };
            alone = record { hinted = h; refused = refused; moving = moving };
            of_call = story.number;
            earlier = omega arith;
            since = λ m y from to at. absurd (omega (arith, from, to));
          },
        )
        hinted_now h refused (inr few) = absurd (steered.not_both few.1.index (first + suc d) c few.1.set x few.1.post
            (record { before = s; ran = ran; there = at_post; call = k; called = story.called; further = more })
            (few.1.earlier, λ m y from to. few.1.since m y from to) (few.1.of_call ∙ sym story.number) few.1.alone
            (record { hinted = h; refused = refused; moving = moving }))

        hinted_or : IsHinted s c x → Posts d p → (v : Verdict) → verdict_at s x k ≡ v → Posts (suc d) (posted p x wr) ⊎ ((p.tries + 1 ≤ 2 * passed (suc d) + 3) × IsGranted (suc d) t x)
        hinted_or h few Granted now = inr (granted_now few now)
        hinted_or h few (Refused why) now = inl (hinted_now h (λ grants. absurd (cc (sym now ∙ grants))) few)

        steered_to : Posts d p → IsSteered s c x k → Posts (suc d) (posted p x wr) ⊎ ((p.tries + 1 ≤ 2 * passed (suc d) + 3) × IsGranted (suc d) t x)
        steered_to few (inl grants) = inr (granted_now few grants)
        steered_to few (inr (inl h)) = hinted_or h few (verdict_at s x k) refl
        steered_to few (inr (inr stranded)) = absurd (moving stranded)

      further : Posts d p → 1 ≤ p.tries → (b : Bool) → test (first + suc d) ≡ b → Posts (suc d) (posted p x wr) ⊎ ((p.tries + 1 ≤ 2 * passed (suc d) + 3) × IsGranted (suc d) t x)
      further few more true tested = let n = few_tries few in let m = passed_by true tested in inl (inl (omega (arith, n, m)))
      further few more false tested = steered_to tested more few (steered.each (first + suc d) c x (record { before = s; ran = ran; there = at_post; call = k; called = story.called; further = more }))

      -- the call was posted before
      post_status : 1 ≤ p.tries → (st : Stage) → p.stage ≡ st → may_post st ≡ true → Status_of (suc d) t (posted p x wr) stage.Posted
      post_status more stage.Idle at ready = absurd (status_at stage.Idle at)
      post_status more stage.Posted at ready = absurd (cc ready)
      post_status more stage.Running at ready = absurd (cc ready)
      post_status more stage.Acted at ready = absurd (cc ready)
      post_status more stage.Ended at ready = absurd (cc ready)
      post_status more stage.Lost at ready = absurd (cc ready)
      post_status more stage.Refused at ready = (x, refl, further (status_at stage.Refused at) more (test (first + suc d)) refl)

    -- it begins
    begin_status : (x : ℕ) → e ≡ Begin c → p.set ≡ Some x → (v : Verdict) → verdict_at s x k ≡ v → Status_of d s p stage.Posted → Status_of (suc d) t (begun p v) (begun p v).stage
    begin_status x is at Granted now had = tt
    begin_status x is at (Refused why) now had = by had.2
      where
        by : Posts d p ⊎ ((p.tries ≤ 2 * passed d + 3) × IsGranted d s had.0) → Posts (suc d) (begun p (Refused why))
        by (inl few) = posts_on (begun p (Refused why)) refl (λ y b. absurd (cc (sym is ∙ b))) few
        by (inr g) = absurd (cc (sym now ∙ ap (λ (z : ℕ). verdict_at s z k) (one_set p.set x had.0 at had.1) ∙ g.1.grants))

    end_status : (b : Bool) → Status_of (suc d) t (if b then lost p else (record p { stage = stage.Ended })) (if b then lost p else (record p { stage = stage.Ended })).stage
    end_status true = tt
    end_status false = tt

    cut_status : (st : Stage) → p.stage ≡ st → Status_of d s p st → Status_of (suc d) t (cut_at st p) (cut_at st p).stage
    cut_status stage.Idle at h = absurd h
    cut_status stage.Posted at h = tt
    cut_status stage.Running at h = subst (Status_of (suc d) t p) (sym at) tt
    cut_status stage.Acted at h = subst (Status_of (suc d) t p) (sym at) tt
    cut_status stage.Ended at h = tt
    cut_status stage.Refused at h = tt
    cut_status stage.Lost at h = tt

    one_call : (j : Call) → next_call (s.client c) ≡ Some j → j ≡ k
    one_call j called = let h = story.called in cc

    -- a post changes no verdict
    posted_verdict : (x : ℕ) → e ≡ Post c x → verdict_at t x k ≡ verdict_at s x k
    posted_verdict x is = let q = can_post s t c x (subst (λ (v : Event). step s v ≡ Ok t) is stepped) in subst (λ (v : State). verdict_at v x k ≡ verdict_at s x k) q.gives refl

    on : Turn s t c e → Story (suc d) t (t.client c)
    on (stays other up same) = subst (Story (suc d) t) (sym same) (record {
      called = story.called;
      tried = story.tried;
      number = story.number;
      status = status_on (not_own_begin other) (not_own_post other) up p.stage refl story.status;
    })
    on (posts x wr j is called ready gives) = subst (Story (suc d) t) (sym gives) (record {
      called = story.called;
      tried = omega arith;
      number = story.number;
      status = post_status x wr is gives (posted_verdict x is) story.tried p.stage refl ready;
    })
    on (begins x j is called at ready gives) =
        let gives_now : t.client c ≡ with_progress (s.client c) (begun p (verdict_at s x k)) = gives ∙ ap (λ (v : Call). with_progress (s.client c) (begun p (verdict_at s x v))) (one_call j called) in
        subst (Story (suc d) t) (sym gives_now) (by (verdict_at s x k) refl)
      where
        by : (v : Verdict) → verdict_at s x k ≡ v → Story (suc d) t (with_progress (s.client c) (begun p v))
        by Granted now = record { called = story.called; tried = story.tried; number = story.number; status = begin_status x is at Granted now (status_at stage.Posted (posted_is p.stage ready)) }
        by (Refused why) now = record { called = story.called; tried = story.tried; number = story.number; status = begin_status x is at (Refused why) now (status_at stage.Posted (posted_is p.stage ready)) }
    on (acts place answers is ready gives) = subst (Story (suc d) t) (sym gives) (record { called = story.called; tried = story.tried; number = story.number; status = tt })
    on (ends is ready gives) = subst (Story (suc d) t) (sym gives) (by p.cut)
      where
        by : (b : Bool) → Story (suc d) t (with_progress (s.client c) (if b then lost p else (record p { stage = stage.Ended })))
        by true = record { called = story.called; tried = story.tried; number = story.number; status = tt }
        by false = record { called = story.called; tried = story.tried; number = story.number; status = tt }
    on (takes is gives) = absurd (w.whole (first + suc d) (omega arith) lt (there ∙ ap (λ (v : Event). Some v) is))
    on (cuts o n other is named reached present gives) = subst (Story (suc d) t) (sym gives) (by p.stage refl story.status)
      where
        by : (st : Stage) → p.stage ≡ st → Status_of d s p st → Story (suc d) t (with_progress (s.client c) (cut_at st p))
        by stage.Idle at h = absurd h
        by stage.Posted at h = record { called = story.called; tried = story.tried; number = story.number; status = tt }
        by stage.Running at h = record { called = story.called; tried = story.tried; number = story.number; status = cut_status stage.Running at h }
        by stage.Acted at h = record { called = story.called; tried = story.tried; number = story.number; status = cut_status stage.Acted at h }
        by stage.Ended at h = record { called = story.called; tried = story.tried; number = story.number; status = tt }
        by stage.Refused at h = record { called = story.called; tried = story.tried; number = story.number; status = tt }
        by stage.Lost at h = record { called = story.called; tried = story.tried; number = story.number; status = tt }
    on (falls x other was down at set gives) = subst (Story (suc d) t) (sym gives) (record { called = story.called; tried = story.tried; number = story.number; status = tt })

  -- ---- the take

  story_at : (d : ℕ) (s : State) → first + suc d ≤ last → IsAfter start events (first + suc d) s → Story d s (s.client c)
  story_at = along start events first last (λ d s. Story d s (s.client c)) within base (λ d s t e lt there ran stepped after story. on d s t e lt there ran stepped story (turn s c t e stepped))

  module _ (d : ℕ) (ends_at : first + suc d ≡ last) (s t : State) (ran : IsAfter start events last s) (stepped : step s (Take c) ≡ Ok t) where
    story : Story d s (s.client c)
    story = story_at d s (omega (arith, ends_at)) (subst (λ (n : ℕ). IsAfter start events n s) (sym ends_at) ran)

    -- up to the take
    passed_all : passed d ≤ count_to (λ q. test (first + q)) (last - first)
    passed_all =
        let number : last - first ≡ suc d = omega (arith, ends_at) in
        subst (λ (n : ℕ). passed d ≤ passed n) (sym number) (by (test (first + suc d)))
      where
        by : (b : Bool) → passed d ≤ passed d + (if b then 1 else 0)
        by true = omega arith
        by false = omega arith

    all_tried : (n : ℕ) → nat_le 128 n ≡ true → 128 ≤ n
    all_tried n h = grind (arith, nat_tests, h)

    tries_of : Posts d (s.client c).present → (s.client c).present.tries ≤ 2 * passed d + 2
    tries_of (inl few) = omega (arith, few)
    tries_of (inr few) = few.0

    spent : (cause : Cause) → outcome_by (s.client c).present.stage (s.client c).present.said (s.client c).present.cause ≡ Spent cause → 63 ≤ count_to (λ q. test (first + q)) (last - first)
    spent cause given =
        let is = spent_is (s.client c).present.stage (s.client c).present.said (s.client c).present.cause cause given in
        let had : Posts d (s.client c).present = subst (Status_of d s (s.client c).present) is story.status in
        let few = tries_of had in
        let tried = subst (λ (v : Stage). (not (is_refused v) || nat_le 128 (s.client c).present.tries) ≡ true) is (can_take s t c stepped).tried in
        let many = all_tried (s.client c).present.tries tried in
        let all = passed_all in
        omega (arith, few, many, all)

-- ---- the laws

module _ (start s : State) (events : List Event) (c first last : ℕ) (k : Call) (r : IsRun start events s) (steered : ArePostsSteered start events) (w : IsWholeCall start events c k first last) (spends : IsSpent start events c last) where
  enough : (test : ℕ → Bool)
      → ((m x : ℕ) (u : State) → first < m → m < last → slice_get events m ≡ Some (Post c x) → IsAfter start events m u → IsStranded u k → test m ≡ true)
      → ((m x : ℕ) → first < m → m < last → slice_get events m ≡ Some (Post c x) → (t : IsTakenAway start events c k m x) → t.index < last → (test m ≡ true) ⊎ (test t.index ≡ true))
      → 63 ≤ count_to (λ q. test (first + q)) (last - first)
  enough test stuck away =
      let within = slice_get_within events last (Take c) w.takes in
      let later = w.later in
      let at = state_at start s events (last + 1) r.runs in
      let was = split start at.0 events last (Take c) w.takes at.1 in
      let same : spends.1.before ≡ was.before = ok_is spends.1.before was.before (sym spends.1.ran ∙ was.ran) in
      spent start events c k first last within (λ m v h. reached_whole v (reached_at start s events r m v h)) steered w test stuck away
      (last - first - 1) (omega (arith, later)) was.before at.0 was.ran was.stepped spends.0
      (subst (λ (v : State). outcome_by (v.client c).present.stage (v.client c).present.said (v.client c).present.cause ≡ Spent spends.0) same spends.1.given)

pub spent_calls : SpentCalls
spent_calls start s events c first last k r steered w spends test covers =
    enough start s events c first last k r steered w spends (λ m. is_post_of c (slice_get events m) && test m)
    (λ m x u from to at after stranded. both m x at (covers m x from to at (inl (record { before = u; ran = after; stranded = stranded }))))
    (λ m x from to at taken inside. inl (both m x at (covers m x from to at (inr taken))))
  where
    both : (m x : ℕ) → slice_get events m ≡ Some (Post c x) → test m ≡ true → (is_post_of c (slice_get events m) && test m) ≡ true
    both m x at passes = ap (λ (b : Bool). b && test m) (ap (is_post_of c) at ∙ eq-eqb c c refl) ∙ passes

pub moved_calls : MovedCalls
moved_calls start s events c first last k r steered w spends moving test covers =
    enough start s events c first last k r steered w spends test
    (λ m x u from to at after stranded. absurd (moving m x from to at (record { before = u; ran = after; stranded = stranded })))
    (λ m x from to at taken inside. inr (covers taken.index x taken.before taken.event (let later = taken.later in omega (arith, from, later)) inside taken.ran taken.there taken.takes))
