-- A call whose bucket stays where it is, and that isn't cut or lost, is refused twice at most and then replied to.
use Rattle.std.proofs.Common.{◌≡◌, ℕ, suc, inl, inr, ◌+◌, ◌-◌, ◌≤◌, ◌<◌, arith, Bool, true, false, refl, sym, ap, subst, ◌∙◌, List, length, take, Option, Some, None, Ok}
use Rattle.std.specs.Prelude.{◌≢◌, ◌⊎◌, ◌&&◌, ◌||◌, not, nat_le, if◌then◌else◌, slice_get}
use Rattle.std.proofs.lemmas.Bool.{cases_eq, eq-eqb, ne_eqb, eqb-true}
use Rattle.std.proofs.lemmas.Bool.Decides.{nat_tests}
use Rattle.std.proofs.lemmas.Option.{slice_get_within}
use Rattle.vs_base.specs.declared.numbers.Mode.{Mode}
use Rattle.vs_base.specs.declared.numbers.Mode.TheVariants.{Ro, Rw}
use Rattle.vs_rows.specs.Said.{Said}
use Rattle.vs_space.specs.declared.status.Cause.TheVariants as cause
use Rattle.vs_space.specs.declared.status.Status.{Status}
use Rattle.vs_space.specs.declared.status.Status.TheVariants.{Active, Pinned, Sending, Receiving, Sent, Garbage}
use Rattle.vs_space.specs.declared.status.Verdict.{Verdict}
use Rattle.vs_space.specs.declared.status.Verdict.TheVariants.{Granted, Refused}
use Rattle.vs_space.specs.Verdict.{verdict_of}
use Rattle.vs_calls.specs.declared.stage.Stage.{Stage}
use Rattle.vs_calls.specs.declared.stage.Stage.TheVariants as stage
use Rattle.vs_calls.specs.Progress.{Progress, posted, begun, lost, outcome_by, may_post, is_posted, is_refused, is_over, is_at_set}
use Rattle.vs_event.specs.declared.event.Event.{Event}
use Rattle.vs_event.specs.declared.event.Event.TheVariants.{Post, Begin, End, Take, Cut}
use Rattle.vs_script.specs.Calls.{Call}
use Rattle.vs_send.specs.declared.transfer.Transfer.{Transfer}
use Rattle.vs_machine.specs.Tables.{count_to}
use Rattle.vs_machine.specs.State.{State, Client, next_call, is_draining, is_set, with_progress}
use Rattle.vs_machine.specs.Step.{step, run}
use Rattle.vs_machine.specs.Whole.{Whole}
use Rattle.vs_machine.specs.Coherence.{IsServing}
use Rattle.vs_machine.specs.Inner.Owner.{Beside}
use Rattle.vs_machine.specs.Kinds.Calls.{verdict_at}
use Rattle.vs_machine.specs.Actors.{WouldGrant, IsStranded, IsHinted, IsSteered, IsByHintAlone, IsFurtherPost, ArePostsSteered, IsOf}
use Rattle.vs_machine.specs.Actors as actors
use Rattle.vs_machine.specs.Completeness.{IsAfter, IsWholeCall, IsReplied, IsAtHome, IsUndisturbed, is_begin_of, is_refused_in, is_refusal, refusals, RepliedCalls}
use Rattle.vs_machine.proofs.Along.{split, state_at, reached_at, along}
use Rattle.vs_machine.proofs.Can.Calls.{can_post, can_take}
use Rattle.vs_machine.proofs.Frame.{put_here}
use Rattle.vs_machine.proofs.Hinted.{HintedBefore, hinted_on}
use Rattle.vs_machine.proofs.Owners.{serving_owns}
use Rattle.vs_machine.proofs.Possible.{ok_is}
use Rattle.vs_machine.proofs.Reached.{reached_whole}
use Rattle.vs_machine.proofs.Turns.{Turn, stays, posts, begins, acts, ends, takes, cuts, falls, turn}
use Rattle.vs_machine.proofs.Unposted.{Unposted, unposted, posted_is, running_is, acted_is, cut_busy}

-- ---- a bucket at home

home_grants : (s : State) (o : ℕ) (k : Call) → IsAtHome s o k.bucket → verdict_at s o k ≡ Granted
home_grants s o k h =
    ap (λ (u : Bool). if u then verdict_of ((s.bucket k.bucket).entry o) (is_draining ((s.bucket k.bucket).transfer o)) k.mode else Refused cause.Down) h.up
    ∙ ap (λ (v : Option Transfer). verdict_of ((s.bucket k.bucket).entry o) (is_draining v) k.mode) h.unmoved ∙ by ((s.bucket k.bucket).entry o) k.mode h.serving
  where
    by : (e : Option Status) (mode : Mode) → IsServing e → verdict_of e false mode ≡ Granted
    by (Some Active) Ro at = refl
    by (Some Active) Rw at = refl
    by (Some Pinned) Ro at = refl
    by (Some Pinned) Rw at = refl
    by (Some (Sending d)) mode at = absurd at
    by (Some (Receiving d)) mode at = absurd at
    by (Some (Sent d)) mode at = absurd at
    by (Some Garbage) mode at = absurd at
    by None mode at = absurd at

-- beside a set that serves, no other grants
beside_refuses : (o x : ℕ) (has e : Option Status) (locked : Bool) (mode : Mode) → IsServing has → Beside o has x e → verdict_of e locked mode ≡ Granted → ⊥
beside_refuses o x has None locked mode at b g = absurd (cc g)
beside_refuses o x has (Some Garbage) locked mode at b g = absurd (cc g)
beside_refuses o x has (Some (Sent d)) locked mode at b g = absurd (cc g)
beside_refuses o x has (Some (Receiving d)) locked mode at b g = absurd (cc g)
beside_refuses o x has (Some Active) locked mode at b g = b
beside_refuses o x has (Some Pinned) locked mode at b g = b
beside_refuses o x has (Some (Sending d)) locked mode at b g = b

only_home : (own : ℕ → ℕ) (s : State) (o x : ℕ) (k : Call) → Whole own s → IsAtHome s o k.bucket → WouldGrant s x k → x ≡ o
only_home own s o x k w h grants = by (cases_eq x o)
  where
    owner : o ≡ own k.bucket
    owner = serving_owns (own k.bucket) (s.bucket k.bucket).entry o (w.inner.buckets k.bucket).placed h.serving

    up : (u : Bool) → (if u then verdict_of ((s.bucket k.bucket).entry x) (is_draining ((s.bucket k.bucket).transfer x)) k.mode else Refused cause.Down) ≡ Granted
        → verdict_of ((s.bucket k.bucket).entry x) (is_draining ((s.bucket k.bucket).transfer x)) k.mode ≡ Granted
    up true g = g
    up false g = absurd (cc g)

    by : (x ≡ o) ⊎ (x ≢ o) → x ≡ o
    by (inl is) = is
    by (inr ne) = absurd (beside_refuses (own k.bucket) x ((s.bucket k.bucket).entry (own k.bucket)) ((s.bucket k.bucket).entry x) (is_draining ((s.bucket k.bucket).transfer x)) k.mode
        (subst (λ (y : ℕ). IsServing ((s.bucket k.bucket).entry y)) owner h.serving)
        ((w.inner.buckets k.bucket).placed.beside x (λ same. ne (same ∙ sym owner))) (up (s.up x) grants))

not_stranded : (own : ℕ → ℕ) (s : State) (o : ℕ) (k : Call) → Whole own s → IsAtHome s o k.bucket → IsStranded s k → ⊥
not_stranded own s o k w h stranded =
    let here : (s.bucket k.bucket).entry o ≢ None = λ none. subst IsServing none h.serving in
    let in_it = w.bounds k.bucket o here in
    stranded.refused o in_it.0 in_it.1 (home_grants s o k h)

pub set_is : (v : Option ℕ) (x : ℕ) → is_set v x ≡ true → v ≡ Some x
set_is None x h = absurd cc
set_is (Some y) x h = ap (λ (z : ℕ). Some z) (eqb-true y x h)

pub one_set : (v : Option ℕ) (x y : ℕ) → v ≡ Some x → v ≡ Some y → x ≡ y
one_set v x y a b = cc

not_begin : (c : ℕ) (e : Event) → e ≢ Begin c → is_begin_of c (Some e) ≡ false
not_begin c (Begin d) ne = ne_eqb d c (λ same. ne (ap (λ (v : ℕ). Begin v) same))
not_begin c e ne = refl

-- ---- the story of the call

module _ (start : State) (events : List Event) (c : ℕ) (k : Call) (first last o : ℕ) (within : last < length events)
    (known : (m : ℕ) (s : State) → IsAfter start events m s → (own : ℕ → ℕ) × Whole own s) (steered : ArePostsSteered start events)
    (w : IsWholeCall start events c k first last) (fresh : Unposted (w.before.client c).present) (u : IsUndisturbed start events c k first last o) where
  abbrev refused : ℕ → ℕ
  refused d = count_to (λ q. is_refusal start events c (first + q)) d

  -- its last post so far went for the hint alone
  abbrev Hinted : ℕ → Type 0
  Hinted d = HintedBefore start events c (w.before.client c).present.number (first + suc d)

  abbrev Refusals : ℕ → Progress → Type 0
  Refusals d p = (p.tries ≡ 1) ⊎ ((p.tries ≡ 2) × Hinted d)

  abbrev Status_of : ℕ → Progress → Stage → Type 0
  Status_of d p stage.Posted = (x : ℕ) × (p.set ≡ Some x) × (refused d + 1 ≡ p.tries) × (((x ≡ o) × (p.tries ≤ 3)) ⊎ Refusals d p)
  Status_of d p stage.Running = (p.set ≡ Some o) × (refused d ≤ 2)
  Status_of d p stage.Acted = (said : ℕ × List Said) × (p.set ≡ Some o) × (refused d ≤ 2) × (p.said ≡ Some said)
  Status_of d p stage.Ended = (said : ℕ × List Said) × (p.set ≡ Some o) × (refused d ≤ 2) × (p.said ≡ Some said)
  Status_of d p stage.Refused = (refused d ≡ p.tries) × Refusals d p
  Status_of d p stage.Idle = ⊥
  Status_of d p stage.Lost = ⊥

  record Story (d : ℕ) (v : Client) : Type 0 where
    called : next_call v ≡ Some k
    uncut : v.present.cut ≡ false
    number : v.present.number ≡ (w.before.client c).present.number
    status : Status_of d v.present v.present.stage

  -- ---- the first post

  base : (t : State) → IsAfter start events (first + 1) t → Story 0 (t.client c)
  base t after =
      let was = split start t events first (Post c w.set) w.posts after in
      let same : was.before ≡ w.before = ok_is was.before w.before (sym was.ran ∙ w.ran) in
      let p = can_post w.before t c w.set (subst (λ (v : State). step v (Post c w.set) ≡ Ok t) same was.stepped) in
      subst (λ (v : State). Story 0 (v.client c)) p.gives
      (subst (Story 0) (sym (put_here w.before.client c _))
      (let one : (w.before.client c).present.tries + 1 ≡ 1 = ap (λ (n : ℕ). n + 1) w.unposted in
      record {
        called = w.called;
        uncut = fresh.uncut (fresh.idle w.unposted);
        number = refl;
        status = (w.set, refl, sym one, inr (inl one));
      }))

  -- ---- an event

  module _ (d : ℕ) (s t : State) (e : Event) (lt : first + suc d < last) (there : slice_get events (first + suc d) ≡ Some e) (ran : IsAfter start events (first + suc d) s)
      (stepped : step s e ≡ Ok t) (after : IsAfter start events (first + suc d + 1) t) (story : Story d (s.client c)) where
    abbrev p : Progress
    p = (s.client c).present

    home : IsAtHome s o k.bucket
    home = u.home (first + suc d) s (omega arith) (omega (arith, lt)) ran

    home_after : IsAtHome t o k.bucket
    home_after = u.home (first + suc d + 1) t (omega arith) (omega (arith, lt)) after

    -- what isn't a Begin of the client refuses nothing
    same_refused : e ≢ Begin c → refused (suc d) ≡ refused d
    same_refused ne =
        let none : is_refusal start events c (first + suc d) ≡ false = ap (λ (b : Bool). b && is_refused_in c (run start (take (first + suc d + 1) events))) (ap (is_begin_of c) there ∙ not_begin c e ne) in
        ap (λ (b : Bool). refused d + (if b then 1 else 0)) none ∙ omega arith

    begin_refused : e ≡ Begin c → (b : Bool) → is_refused (t.client c).present.stage ≡ b → refused (suc d) ≡ refused d + (if b then 1 else 0)
    begin_refused is b refusing =
        let begins_now : is_begin_of c (slice_get events (first + suc d)) ≡ true = ap (is_begin_of c) (there ∙ ap (λ (v : Event). Some v) is) ∙ eq-eqb c c refl in
        let now : is_refusal start events c (first + suc d) ≡ b = ap (λ (v : Bool). v && is_refused_in c (run start (take (first + suc d + 1) events))) begins_now ∙ ap (is_refused_in c) after ∙ refusing in
        ap (λ (v : Bool). refused d + (if v then 1 else 0)) now

    refusals_on : ((y : ℕ) → e ≢ Post c y) → Refusals d p → Refusals (suc d) p
    refusals_on none (inl one) = inl one
    refusals_on none (inr two) = inr (two.0, hinted_on start events c _ (first + suc d) (first + suc (suc d)) e (omega arith) there none two.1)

    status_on : e ≢ Begin c → ((y : ℕ) → e ≢ Post c y) → (st : Stage) → Status_of d p st → Status_of (suc d) p st
    status_on nb np stage.Posted h = let n = same_refused nb in (h.0, h.1, ap (λ (v : ℕ). v + 1) n ∙ h.2, by h.3)
      where
        by : ((h.0 ≡ o) × (p.tries ≤ 3)) ⊎ Refusals d p → ((h.0 ≡ o) × (p.tries ≤ 3)) ⊎ Refusals (suc d) p
        by (inl a) = inl a
        by (inr a) = inr (refusals_on np a)
    status_on nb np stage.Running h = (h.0, subst (λ (v : ℕ). v ≤ 2) (sym (same_refused nb)) h.1)
    status_on nb np stage.Acted h = (h.0, h.1, subst (λ (v : ℕ). v ≤ 2) (sym (same_refused nb)) h.2, h.3)
    status_on nb np stage.Ended h = (h.0, h.1, subst (λ (v : ℕ). v ≤ 2) (sym (same_refused nb)) h.2, h.3)
    status_on nb np stage.Refused h = (same_refused nb ∙ h.0, refusals_on np h.1)
    status_on nb np stage.Idle h = h
    status_on nb np stage.Lost h = h

    not_own_begin : ¬ (IsOf (actors.Client c) e) → e ≢ Begin c
    not_own_begin other is = other (subst (IsOf (actors.Client c)) (sym is) refl)

    not_own_post : ¬ (IsOf (actors.Client c) e) → (y : ℕ) → e ≢ Post c y
    not_own_post other y is = other (subst (IsOf (actors.Client c)) (sym is) refl)

    status_at : (st : Stage) → p.stage ≡ st → Status_of d p st
    status_at st is = subst (Status_of d p) is story.status

    -- the call is posted again
    module _ (x wr : ℕ) (is : e ≡ Post c x) where
      not_begin_now : e ≢ Begin c
      not_begin_now b = absurd (cc (sym is ∙ b))

      post_story : (st : Stage) → p.stage ≡ st → may_post st ≡ true → Story (suc d) (with_progress (s.client c) (posted p x wr))
      post_story stage.Idle at ready = absurd (status_at stage.Idle at)
      post_story stage.Posted at ready = absurd (cc ready)
      post_story stage.Running at ready = absurd (cc ready)
      post_story stage.Acted at ready = absurd (cc ready)
      post_story stage.Ended at ready = absurd (cc ready)
      post_story stage.Lost at ready = absurd (cc ready)
      post_story stage.Refused at ready = record {
        called = story.called;
        uncut = story.uncut;
        number = story.number;
        status = (x, refl, ap (λ (v : ℕ). v + 1) (same_refused not_begin_now ∙ had.0), by (cases_eq x o));
      }
        where
          had : Status_of d p stage.Refused
          had = status_at stage.Refused at

          few : Refusals d p → (1 ≤ p.tries) × (p.tries ≤ 2)
          few (inl one) = (omega (arith, one), omega (arith, one))
          few (inr two) = let n = two.0 in (omega (arith, n), omega (arith, n))

          post_now : IsFurtherPost start events (first + suc d) c x
          post_now = record { before = s; ran = ran; there = there ∙ ap (λ (v : Event). Some v) is; call = k; called = story.called; further = (few had.1).0 }

          refused_there : x ≢ o → ¬ (WouldGrant s x k)
          refused_there ne grants = ne (only_home (known (first + suc d) s ran).0 s o x k (known (first + suc d) s ran).1 home grants)

          moving : ¬ (IsStranded s k)
          moving = not_stranded (known (first + suc d) s ran).0 s o k (known (first + suc d) s ran).1 home

          hinted : x ≢ o → IsHinted s c x → Refusals d p → Refusals (suc d) (posted p x wr)
          hinted ne h (inl one) = inr (
            ap (λ (v : ℕ). v + 1) one,
            record {
              index = first + suc d;
              set = x;
              post = record { before = s; ran = ran; there = there ∙ ap (λ (v : Event). Some v) is; call = k; called = story.called; further = omega (arith, one) };
              alone = record { hinted = h; refused = refused_there ne; moving = moving };
              of_call = story.number;
              earlier = omega arith;
              since = λ m y from to at. absurd (omega (arith, from, to));
            },
          )
          hinted ne h (inr two) = absurd (steered.not_both two.1.index (first + suc d) c two.1.set x two.1.post
              post_now
              (two.1.earlier, λ m y from to. two.1.since m y from to) (two.1.of_call ∙ sym story.number) two.1.alone
              (record { hinted = h; refused = refused_there ne; moving = moving }))

          steered_to : x ≢ o → IsSteered s c x k → Refusals (suc d) (posted p x wr)
          steered_to ne (inl grants) = absurd (refused_there ne grants)
          steered_to ne (inr (inl h)) = hinted ne h had.1
          steered_to ne (inr (inr stranded)) = absurd (moving stranded)

          by : (x ≡ o) ⊎ (x ≢ o) → ((x ≡ o) × (p.tries + 1 ≤ 3)) ⊎ Refusals (suc d) (posted p x wr)
          by (inl same) = let n = (few had.1).1 in inl (same, omega (arith, n))
          by (inr ne) = inr (steered_to ne (steered.each (first + suc d) c x post_now))

    -- it begins
    module _ (x : ℕ) (j : Call) (is : e ≡ Begin c) (called : next_call (s.client c) ≡ Some j) (at : p.set ≡ Some x) (ready : is_posted p.stage ≡ true) where
      had_posted : Status_of d p stage.Posted
      had_posted = status_at stage.Posted (posted_is p.stage ready)

      not_post_now : (y : ℕ) → e ≢ Post c y
      not_post_now y b = absurd (cc (sym is ∙ b))

      begin_story : (v : Verdict) → verdict_at s x k ≡ v → t.client c ≡ with_progress (s.client c) (begun p v) → Story (suc d) (with_progress (s.client c) (begun p v))
      begin_story Granted now gives = record {
        called = story.called;
        uncut = story.uncut;
        number = story.number;
        status = (at ∙ ap (λ (z : ℕ). Some z) (only_home (known (first + suc d) s ran).0 s o x k (known (first + suc d) s ran).1 home now), few had_posted.3);
      }
        where
          count : refused (suc d) ≡ refused d + 0
          count = begin_refused is false (ap (λ (v : Client). is_refused v.present.stage) gives)

          few : ((had_posted.0 ≡ o) × (p.tries ≤ 3)) ⊎ Refusals d p → refused (suc d) ≤ 2
          few (inl a) = let n = had_posted.2 in let m = a.1 in omega (arith, count, n, m)
          few (inr (inl one)) = let n = had_posted.2 in omega (arith, count, n, one)
          few (inr (inr two)) = let n = had_posted.2 in let m = two.0 in omega (arith, count, n, m)
      begin_story (Refused why) now gives = record {
        called = story.called;
        uncut = story.uncut;
        number = story.number;
        status = (count ∙ had_posted.2, by had_posted.3);
      }
        where
          count : refused (suc d) ≡ refused d + 1
          count = begin_refused is true (ap (λ (v : Client). is_refused v.present.stage) gives)

          away : had_posted.0 ≡ o → ⊥
          away same = absurd (cc (sym now ∙ ap (λ (z : ℕ). verdict_at s z k) (one_set p.set x had_posted.0 at had_posted.1 ∙ same) ∙ home_grants s o k home))

          by : ((had_posted.0 ≡ o) × (p.tries ≤ 3)) ⊎ Refusals d p → Refusals (suc d) p
          by (inl a) = absurd (away a.0)
          by (inr a) = refusals_on not_post_now a

    -- ---- each turn

    one_call : (j : Call) → next_call (s.client c) ≡ Some j → j ≡ k
    one_call j called = let h = story.called in cc

    end_story : (b : Bool) → p.cut ≡ b → e ≡ End c → p.stage ≡ stage.Acted → Story (suc d) (with_progress (s.client c) (if b then lost p else (record p { stage = stage.Ended })))
    end_story true cut is at = absurd (cc (sym cut ∙ story.uncut))
    end_story false cut is at =
        let had = status_at stage.Acted at in
        record {
          called = story.called;
          uncut = story.uncut;
          number = story.number;
          status = (had.0, had.1, subst (λ (v : ℕ). v ≤ 2) (sym (same_refused (λ b. absurd (cc (sym is ∙ b))))) had.2, had.3);
        }

    fallen : (x : ℕ) → s.up x ≡ true → t.up x ≡ false → (st : Stage) → p.stage ≡ st → is_at_set st ≡ true → p.set ≡ Some x → ⊥
    fallen x was down stage.Idle at here set = absurd (cc here)
    fallen x was down stage.Refused at here set = absurd (cc here)
    fallen x was down stage.Lost at here set = absurd (cc here)
    fallen x was down stage.Posted at here set = u.unlost (first + suc d) s t (omega arith) lt ran after (x, ap is_posted at, set, was, down)
    fallen x was down stage.Running at here set = absurd (cc (sym down ∙ ap t.up (one_set p.set x o set (status_at stage.Running at).0) ∙ home_after.up))
    fallen x was down stage.Acted at here set = absurd (cc (sym down ∙ ap t.up (one_set p.set x o set (status_at stage.Acted at).1) ∙ home_after.up))
    fallen x was down stage.Ended at here set = absurd (cc (sym down ∙ ap t.up (one_set p.set x o set (status_at stage.Ended at).1) ∙ home_after.up))

    on : Turn s t c e → Story (suc d) (t.client c)
    on (stays other up same) = subst (Story (suc d)) (sym same) (record {
      called = story.called;
      uncut = story.uncut;
      number = story.number;
      status = status_on (not_own_begin other) (not_own_post other) p.stage story.status;
    })
    on (posts x wr j is called ready gives) = subst (Story (suc d)) (sym gives) (post_story x wr is p.stage refl ready)
    on (begins x j is called at ready gives) =
        let gives_now : t.client c ≡ with_progress (s.client c) (begun p (verdict_at s x k)) = gives ∙ ap (λ (v : Call). with_progress (s.client c) (begun p (verdict_at s x v))) (one_call j called) in
        subst (Story (suc d)) (sym gives_now) (begin_story x j is called at ready (verdict_at s x k) refl gives_now)
    on (acts place answers is ready gives) =
        let had = status_at stage.Running (running_is p.stage ready) in
        subst (Story (suc d)) (sym gives) (record {
          called = story.called;
          uncut = story.uncut;
          number = story.number;
          status = ((place, answers), had.0, subst (λ (v : ℕ). v ≤ 2) (sym (same_refused (λ b. absurd (cc (sym is ∙ b))))) had.1, refl);
        })
    on (ends is ready gives) = subst (Story (suc d)) (sym gives) (end_story p.cut refl is (acted_is p.stage ready))
    on (takes is gives) = absurd (w.whole (first + suc d) (omega arith) lt (there ∙ ap (λ (v : Event). Some v) is))
    on (cuts o n other is named reached present gives) =
        let at = eqb-true n (length (s.client c).answered + 1) (cut_busy (s.client c) n reached present).0 in
        let number : n ≡ p.number = at ∙ sym ((known (first + suc d) s ran).1.answers.numbered c) in
        absurd (u.uncut (first + suc d) s (Cut o) (omega arith) lt ran (there ∙ ap (λ (v : Event). Some v) is) (named ∙ ap (λ (v : ℕ). Some (c, v)) number))
    on (falls x other was down at set gives) = absurd (fallen x was down p.stage refl at (set_is p.set x set))

  -- ---- the take

  story_at : (d : ℕ) (s : State) → first + suc d ≤ last → IsAfter start events (first + suc d) s → Story d (s.client c)
  story_at = along start events first last (λ d s. Story d (s.client c)) within base (λ d s t e lt there ran stepped after story. on d s t e lt there ran stepped after story (turn s c t e stepped))

  module _ (d : ℕ) (ends_at : first + suc d ≡ last) (s t : State) (ran : IsAfter start events last s) (stepped : step s (Take c) ≡ Ok t) where
    story : Story d (s.client c)
    story = story_at d s (omega (arith, ends_at)) (subst (λ (n : ℕ). IsAfter start events n s) (sym ends_at) ran)

    -- the take refuses nothing
    refused_all : refusals start events c first last ≡ refused d
    refused_all =
        let none : is_refusal start events c (first + suc d) ≡ false = ap (λ (b : Bool). b && is_refused_in c (run start (take (first + suc d + 1) events))) (ap (is_begin_of c) (ap (slice_get events) ends_at ∙ w.takes)) in
        let number : last - first ≡ suc d = omega (arith, ends_at) in
        ap refused number ∙ ap (λ (b : Bool). refused d + (if b then 1 else 0)) none ∙ omega arith

    not_refused : (n : ℕ) → n ≤ 2 → nat_le 128 n ≡ true → ⊥
    not_refused n few many = grind (arith, nat_tests, many, few)

    outcome_is : (st : Stage) → (s.client c).present.stage ≡ st → (is_refused st || is_over st) ≡ true → (not (is_refused st) || nat_le 128 (s.client c).present.tries) ≡ true → Status_of d (s.client c).present st
        → IsReplied start events c last × (refusals start events c first last ≤ 2)
    outcome_is stage.Idle at ready tried had = absurd had
    outcome_is stage.Lost at ready tried had = absurd had
    outcome_is stage.Posted at ready tried had = absurd (cc ready)
    outcome_is stage.Running at ready tried had = absurd (cc ready)
    outcome_is stage.Acted at ready tried had = absurd (cc ready)
    outcome_is stage.Refused at ready tried had = absurd (not_refused (s.client c).present.tries (few had.1) tried)
      where
        few : Refusals d (s.client c).present → (s.client c).present.tries ≤ 2
        few (inl one) = omega (arith, one)
        few (inr two) = let n = two.0 in omega (arith, n)
    outcome_is stage.Ended at ready tried had = (
      (
        had.0.0,
        had.0.1,
        record {
          before = s;
          ran = ran;
          given = ap (λ (v : Stage). outcome_by v (s.client c).present.said (s.client c).present.cause) at ∙ ap (λ (v : Option (ℕ × List Said)). outcome_by stage.Ended v (s.client c).present.cause) had.3;
        },
      ),
      let all = refused_all in let few = had.2 in omega (arith, all, few),
    )

    replied : IsReplied start events c last × (refusals start events c first last ≤ 2)
    replied = let p = can_take s t c stepped in outcome_is (s.client c).present.stage refl p.ready p.tried story.status

pub replied_calls : RepliedCalls
replied_calls start s events c first last o k r steered w u =
    let within = slice_get_within events last (Take c) w.takes in
    let later = w.later in
    let at = state_at start s events (last + 1) r.runs in
    let was = split start at.0 events last (Take c) w.takes at.1 in
    replied start events c k first last o within (λ m v h. reached_whole v (reached_at start s events r m v h)) steered w
    (unposted w.before c (reached_at start s events r first w.before w.ran)) u (last - first - 1) (omega (arith, later)) was.before at.0 was.ran was.stepped
