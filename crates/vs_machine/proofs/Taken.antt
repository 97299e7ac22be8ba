-- Each call that was answered was posted first, and taken later.
use Rattle.std.proofs.Common.{◌≡◌, ℕ, zero, suc, inl, inr, ◌+◌, ◌≤◌, ◌<◌, arith, Bool, true, false, refl, sym, ap, subst, ◌∙◌, List, [], ◌∷◌, ◌++◌, length, Some, Ok}
use Rattle.std.specs.Prelude.{◌≢◌, ◌⊎◌, ◌||◌, if◌then◌else◌, slice_get}
use Rattle.std.proofs.lemmas.Bool.{cases_eq}
use Rattle.std.proofs.Math.Seq.{take-length}
use Rattle.vs_space.specs.declared.status.Verdict.{Verdict}
use Rattle.vs_space.specs.declared.status.Verdict.TheVariants.{Granted, Refused}
use Rattle.vs_calls.specs.declared.stage.Stage.{Stage}
use Rattle.vs_calls.specs.declared.stage.Stage.TheVariants as stage
use Rattle.vs_calls.specs.Outcomes.{Outcome}
use Rattle.vs_calls.specs.Progress.{Progress, begun, lost, taken, cut_at, outcome_of, is_idle, is_refused, is_over}
use Rattle.vs_event.specs.declared.event.Event.{Event}
use Rattle.vs_event.specs.declared.event.Event.TheVariants.{Post, Take}
use Rattle.vs_script.specs.Calls.{Call}
use Rattle.vs_machine.specs.State.{State, Client, next_call}
use Rattle.vs_machine.specs.Step.{step, run}
use Rattle.vs_machine.specs.Actors.{IsOf}
use Rattle.vs_machine.specs.Actors as actors
use Rattle.vs_machine.specs.Completeness.{IsAfter, IsAnsweredCall, WholeCalls, OneOutcome}
use Rattle.vs_machine.proofs.Along.{split, event_at, reached_at}
use Rattle.vs_machine.proofs.Can.Calls.{can_take}
use Rattle.vs_machine.proofs.Driven.{pushed}
use Rattle.vs_machine.proofs.Possible.{ok_is}
use Rattle.vs_machine.proofs.Turns.{Turn, stays, posts, begins, acts, ends, takes, cuts, falls, turn}
use Rattle.vs_machine.proofs.Unposted.{Unposted, unposted}

begun_tries : (p : Progress) (v : Verdict) → (begun p v).tries ≡ p.tries
begun_tries p Granted = refl
begun_tries p (Refused cause) = refl

ended_tries : (p : Progress) (b : Bool) → (if b then lost p else record p { stage = stage.Ended }).tries ≡ p.tries
ended_tries p true = refl
ended_tries p false = refl

cut_tries : (p : Progress) (st : Stage) → (cut_at st p).tries ≡ p.tries
cut_tries p stage.Idle = refl
cut_tries p stage.Posted = refl
cut_tries p stage.Running = refl
cut_tries p stage.Acted = refl
cut_tries p stage.Ended = refl
cut_tries p stage.Refused = refl
cut_tries p stage.Lost = refl

over_busy : (st : Stage) → (is_refused st || is_over st) ≡ true → is_idle st ≡ true → ⊥
over_busy stage.Idle h i = absurd (cc h)
over_busy stage.Posted h i = absurd (cc h)
over_busy stage.Running h i = absurd (cc h)
over_busy stage.Acted h i = absurd (cc h)
over_busy stage.Ended h i = absurd (cc i)
over_busy stage.Refused h i = absurd (cc i)
over_busy stage.Lost h i = absurd (cc i)

module _ (start : State) (events : List Event) (c : ℕ) where
  -- after the first m events the client's present call was posted first at an index, and wasn't taken since
  record IsOpened (m : ℕ) (v : Client) : Type 0 where
    first : ℕ
    set : ℕ
    before : State
    ran : IsAfter start events first before
    call : Call
    called : next_call (before.client c) ≡ Some call
    unposted : (before.client c).present.tries ≡ 0
    place : length (before.client c).answered ≡ length v.answered
    posts : slice_get events first ≡ Some (Post c set)
    earlier : first < m
    untaken : (i : ℕ) → first < i → i < m → slice_get events i ≢ Some (Take c)

  record Told (m : ℕ) (v : Client) : Type 0 where
    answered : (n : ℕ) (o : Outcome) → slice_get v.answered n ≡ Some o → IsAnsweredCall start events c n o
    present : 1 ≤ v.present.tries → IsOpened m v

  -- one event
  module _ (m : ℕ) (s t : State) (e : Event) (there : slice_get events m ≡ Some e) (ran : IsAfter start events m s) (stepped : step s e ≡ Ok t) (fresh : Unposted (s.client c).present) (told : Told m (s.client c)) where
    untaken_on : (first : ℕ) → e ≢ Take c → ((i : ℕ) → first < i → i < m → slice_get events i ≢ Some (Take c)) → (i : ℕ) → first < i → i < m + 1 → slice_get events i ≢ Some (Take c)
    untaken_on first none before i from to at = by (cases_eq i m)
      where
        by : (i ≡ m) ⊎ (i ≢ m) → ⊥
        by (inl is) = let one : Some e ≡ Some (Take c) = sym there ∙ ap (slice_get events) (sym is) ∙ at in none (cc one)
        by (inr ne) = before i from (omega (arith, ne, to)) at

    opened_on : (v : Client) → v.answered ≡ (s.client c).answered → e ≢ Take c → IsOpened m (s.client c) → IsOpened (m + 1) v
    opened_on v same none h = record {
      first = h.first;
      set = h.set;
      before = h.before;
      ran = h.ran;
      call = h.call;
      called = h.called;
      unposted = h.unposted;
      place = h.place ∙ ap length (sym same);
      posts = h.posts;
      earlier = let before = h.earlier in omega (arith, before);
      untaken = untaken_on h.first none h.untaken;
    }

    -- its call stays, with as many tries
    same_call : (v : Client) → v.answered ≡ (s.client c).answered → v.present.tries ≡ (s.client c).present.tries → e ≢ Take c → Told (m + 1) v
    same_call v same tries none = record {
      answered = λ n o at. told.answered n o (subst (λ (l : List Outcome). slice_get l n ≡ Some o) same at);
      present = λ more. opened_on v same none (told.present (omega (arith, more, tries)));
    }

    not_own : ¬ (IsOf (actors.Client c) e) → e ≢ Take c
    not_own other is = other (subst (IsOf (actors.Client c)) (sym is) refl)

    posted_call : (x w : ℕ) (k : Call) → e ≡ Post c x → next_call (s.client c) ≡ Some k → (v : Client) → v.answered ≡ (s.client c).answered → Told (m + 1) v
    posted_call x w k is called v same = record {
      answered = λ n o at. told.answered n o (subst (λ (l : List Outcome). slice_get l n ≡ Some o) same at);
      present = λ more. by (cases_eq (s.client c).present.tries 0);
    }
      where
        none : e ≢ Take c
        none b = absurd (cc (sym is ∙ b))

        by : ((s.client c).present.tries ≡ 0) ⊎ ((s.client c).present.tries ≢ 0) → IsOpened (m + 1) v
        by (inl zero_tries) = record {
          first = m;
          set = x;
          before = s;
          ran = ran;
          call = k;
          called = called;
          unposted = zero_tries;
          place = ap length (sym same);
          posts = there ∙ ap (λ (u : Event). Some u) is;
          earlier = omega arith;
          untaken = λ i from to at. absurd (omega (arith, from, to));
        }
        by (inr some) = opened_on v same none (told.present (omega (arith, some)))

    taken_call : e ≡ Take c → Told (m + 1) (record (s.client c) { answered = (s.client c).answered ++ outcome_of (s.client c).present ∷ []; present = taken (s.client c).present })
    taken_call is = record {
      answered = λ n o at. by n o (pushed (s.client c).answered (outcome_of (s.client c).present) n o at);
      present = λ more. absurd (omega (arith, more));
    }
      where
        busy : 1 ≤ (s.client c).present.tries
        busy =
            let ready = (can_take s t c (subst (λ (v : Event). step s v ≡ Ok t) is stepped)).ready in
            let ne : (s.client c).present.tries ≢ 0 = λ none. over_busy (s.client c).present.stage ready (fresh.idle none) in
            omega (arith, ne)

        opened : IsOpened m (s.client c)
        opened = told.present busy

        by : (n : ℕ) (o : Outcome) → ((n < length (s.client c).answered) × (slice_get (s.client c).answered n ≡ Some o)) ⊎ ((n ≡ length (s.client c).answered) × (outcome_of (s.client c).present ≡ o)) → IsAnsweredCall start events c n o
        by n o (inl old) = told.answered n o old.1
        by n o (inr new) = record {
          call = opened.call;
          first = opened.first;
          last = m;
          whole = record {
            before = opened.before;
            ran = opened.ran;
            called = opened.called;
            unposted = opened.unposted;
            set = opened.set;
            posts = opened.posts;
            takes = there ∙ ap (λ (u : Event). Some u) is;
            later = opened.earlier;
            whole = opened.untaken;
          };
          place = opened.place ∙ sym new.0;
          outcome = record { before = s; ran = ran; given = new.1 };
        }

    told_on : Turn s t c e → Told (m + 1) (t.client c)
    told_on (stays other up same) = subst (Told (m + 1)) (sym same) (same_call (s.client c) refl refl (not_own other))
    told_on (posts x w k is called ready gives) = subst (Told (m + 1)) (sym gives) (posted_call x w k is called _ refl)
    told_on (begins x k is called at ready gives) = subst (Told (m + 1)) (sym gives) (same_call _ refl (begun_tries (s.client c).present _) (λ b. absurd (cc (sym is ∙ b))))
    told_on (acts place answers is ready gives) = subst (Told (m + 1)) (sym gives) (same_call _ refl refl (λ b. absurd (cc (sym is ∙ b))))
    told_on (ends is ready gives) = subst (Told (m + 1)) (sym gives) (same_call _ refl (ended_tries (s.client c).present (s.client c).present.cut) (λ b. absurd (cc (sym is ∙ b))))
    told_on (takes is gives) = subst (Told (m + 1)) (sym gives) (taken_call is)
    told_on (cuts o n other is named reached present gives) = subst (Told (m + 1)) (sym gives) (same_call _ refl (cut_tries (s.client c).present (s.client c).present.stage) (not_own other))
    told_on (falls x other was down at set gives) = subst (Told (m + 1)) (sym gives) (same_call _ refl refl (not_own other))

  told_at : ((m : ℕ) (s : State) → IsAfter start events m s → Unposted (s.client c).present) → Told 0 (start.client c) → (m : ℕ) (t : State) → m ≤ length events → IsAfter start events m t → Told m (t.client c)
  told_at fresh first zero t le h = subst (λ (v : State). Told 0 (v.client c)) (ok_is start t h) first
  told_at fresh first (suc m) t le h =
      let e = event_at events m (omega (arith, le)) in
      let next : suc m ≡ m + 1 = omega arith in
      let was = split start t events m e.0 e.1 (subst (λ (n : ℕ). IsAfter start events n t) next h) in
      let before = told_at fresh first m was.before (omega (arith, le)) was.ran in
      subst (λ (n : ℕ). Told n (t.client c)) (sym next) (told_on m was.before t e.0 e.1 was.ran was.stepped (fresh m was.before was.ran) before (turn was.before c t e.0 was.stepped))

pub whole_calls : WholeCalls
whole_calls start s events r c n o at =
    let first : Told start events c 0 (start.client c) = subst (λ (v : State). Told start events c 0 (v.client c)) (sym r.opened) (record { answered = λ m v none. absurd cc; present = λ more. absurd (omega (arith, more)) }) in
    let whole : IsAfter start events (length events) s = subst (λ (l : List Event). run start l ≡ Ok s) (sym (take-length events)) r.runs in
    (told_at start events c (λ m v h. unposted v c (reached_at start s events r m v h)) first (length events) s (omega arith) whole).answered n o at

pub one_outcome : OneOutcome
one_outcome start events c last o p a b =
    let same : a.before ≡ b.before = ok_is a.before b.before (sym a.ran ∙ b.ran) in
    sym a.given ∙ ap (λ (s : State). outcome_of (s.client c).present) same ∙ b.given
