-- Which events gave a call its answer.
use Rattle.std.proofs.Common.{◌≡◌, ℕ, zero, suc, inl, inr, ◌+◌, ◌≤◌, ◌<◌, arith, Bool, true, false, refl, sym, ap, subst, ◌∙◌, List, [], ◌∷◌, ◌++◌, length, Option, Some, None, Ok}
use Rattle.std.specs.Prelude.{◌&&◌, ◌||◌, ◌==◌, not, nat_lt, nat_le, if◌then◌else◌, slice_get}
use Rattle.std.proofs.lemmas.Bool.Decides.{nat_tests}
use Rattle.std.proofs.lemmas.List.{length-append, take_all}
use Rattle.vs_rows.specs.Said.{Said}
use Rattle.vs_space.specs.declared.status.Cause.{Cause}
use Rattle.vs_space.specs.declared.status.Verdict.{Verdict}
use Rattle.vs_space.specs.declared.status.Verdict.TheVariants as verdict
use Rattle.vs_calls.specs.declared.stage.Stage.{Stage}
use Rattle.vs_calls.specs.declared.stage.Stage.TheVariants as stage
use Rattle.vs_calls.specs.Outcomes.{Outcome}
use Rattle.vs_calls.specs.Progress.{Progress, posted, begun, acted, ended, cut, cut_at, lost, taken, outcome_by, outcome_of, may_post, is_posted, is_running, is_acted, is_refused, is_over, is_idle, is_at_set}
use Rattle.vs_event.specs.declared.event.Event.{Event}
use Rattle.vs_event.specs.declared.event.Event.TheVariants.{Post, Begin}
use Rattle.vs_script.specs.Calls.{Call}
use Rattle.vs_machine.specs.State.{State, Client, next_call, is_set, with_progress}
use Rattle.vs_machine.specs.Step.{run}
use Rattle.vs_machine.specs.Opening.{opening}
use Rattle.vs_machine.specs.Kinds.Calls.{is_answered, is_reached, verdict_at}
use Rattle.vs_machine.specs.Kinds.Stops.{lost_at}
use Rattle.vs_machine.specs.Laws.{CausedCalls}
use Rattle.vs_machine.specs.Causes.Events.{IsEvent}
use Rattle.vs_machine.specs.Causes.Calls.{Cuts, TakesDown, is_open, WasGivenUp, IsRunAt, IsRefusedAt, WasRefused, IsPostedAt, IsAnsweredAt, IsCaused, WasAnswered}
use Rattle.vs_machine.specs.Inner.Answers.{HasAnswers}
use Rattle.vs_machine.proofs.Causes.Along.{Rises, none_yet, one_more, last_index, along}
use Rattle.vs_machine.proofs.Causes.Turns.{Turn, Stays, Posts, Begins, Acts, Ends, Takes, IsCut, GoesDown, step_turns}
use Rattle.vs_machine.proofs.Histories.{slice_get-push}
use Rattle.vs_machine.proofs.Order.Calm.{reached_busy}
use Rattle.vs_machine.proofs.Order.Passing.{posted_busy, acted_busy, at_set_busy}

-- ---- stages

-- how many posts there are beside the refusals
abbrev Counted : Stage → ℕ → ℕ → Type 0
Counted stage.Idle n tries = tries ≡ n
Counted stage.Refused n tries = tries ≡ n
Counted stage.Lost n tries = Unit {0}
Counted stage.Posted n tries = tries ≡ n + 1
Counted stage.Running n tries = tries ≡ n + 1
Counted stage.Acted n tries = tries ≡ n + 1
Counted stage.Ended n tries = tries ≡ n + 1

free_counted : (g : Stage) (n tries : ℕ) → may_post g ≡ true → Counted g n tries → tries ≡ n
free_counted stage.Idle n tries e h = h
free_counted stage.Refused n tries e h = h
free_counted stage.Lost n tries e h = absurd (cc e)
free_counted stage.Posted n tries e h = absurd (cc e)
free_counted stage.Running n tries e h = absurd (cc e)
free_counted stage.Acted n tries e h = absurd (cc e)
free_counted stage.Ended n tries e h = absurd (cc e)

posted_counted : (g : Stage) (n tries : ℕ) → is_posted g ≡ true → Counted g n tries → tries ≡ n + 1
posted_counted stage.Posted n tries e h = h
posted_counted stage.Idle n tries e h = absurd (cc e)
posted_counted stage.Refused n tries e h = absurd (cc e)
posted_counted stage.Lost n tries e h = absurd (cc e)
posted_counted stage.Running n tries e h = absurd (cc e)
posted_counted stage.Acted n tries e h = absurd (cc e)
posted_counted stage.Ended n tries e h = absurd (cc e)

running_counted : (g : Stage) (n tries : ℕ) → is_running g ≡ true → Counted g n tries → tries ≡ n + 1
running_counted stage.Running n tries e h = h
running_counted stage.Idle n tries e h = absurd (cc e)
running_counted stage.Refused n tries e h = absurd (cc e)
running_counted stage.Lost n tries e h = absurd (cc e)
running_counted stage.Posted n tries e h = absurd (cc e)
running_counted stage.Acted n tries e h = absurd (cc e)
running_counted stage.Ended n tries e h = absurd (cc e)

acted_counted : (g : Stage) (n tries : ℕ) → is_acted g ≡ true → Counted g n tries → HasAnswers g × (tries ≡ n + 1)
acted_counted stage.Acted n tries e h = (tt, h)
acted_counted stage.Idle n tries e h = absurd (cc e)
acted_counted stage.Refused n tries e h = absurd (cc e)
acted_counted stage.Lost n tries e h = absurd (cc e)
acted_counted stage.Posted n tries e h = absurd (cc e)
acted_counted stage.Running n tries e h = absurd (cc e)
acted_counted stage.Ended n tries e h = absurd (cc e)

set_is : (o : Option ℕ) (x : ℕ) → is_set o x ≡ true → o ≡ Some x
set_is None x h = absurd (cc h)
set_is (Some y) x h = let same : y ≡ x = grind (arith, nat_tests, h) in ap (λ z. Some z) same

both_true : (p q : Bool) → (p && q) ≡ true → (p ≡ true) × (q ≡ true)
both_true true q e = (refl, e)
both_true false q e = absurd (cc e)

ready_busy : (g : Stage) → (is_refused g || is_over g) ≡ true → is_idle g ≡ false
ready_busy g h = grind arith

running_busy : (g : Stage) → is_running g ≡ true → is_idle g ≡ false
running_busy g h = grind arith

-- ---- what is known of a call by the events before index i

module _ (start : State) (events : List Event) where
  abbrev Refusal : ℕ → ℕ → ℕ → ℕ → Type 0
  Refusal c n f i = (f < i) × ((cause : Cause) × IsRefusedAt start events c n cause i)

  -- it ran since that event, and said this
  abbrev HasSaid : (c n f i : ℕ) → Option (ℕ × List Said) → Type 0
  HasSaid c n f i said = (v : ℕ × List Said) × (said ≡ Some v) × ((j : ℕ) × (f < j) × (j < i) × IsRunAt start events c n v.0 v.1 j)

  -- each refusal since the event of index f, and the last of them gave the cause
  record Refusals (c f i number : ℕ) (g : Stage) (tries : ℕ) (last : Option Cause) : Type 0 where
    times : ℕ
    at : Rises i times (Refusal c number f)
    counted : Counted g times tries
    latest : (k : ℕ) → times ≡ suc k → (cause : Cause) × (last ≡ Some cause) × IsRefusedAt start events c number cause (at.all.index k)

  -- the first post of a call, unless it is idle, and what came since
  record CallPast (c i : ℕ) (p : Progress) : Type 0 where
    f : ℕ
    posted_at : is_idle p.stage ≡ false → (f < i) × IsPostedAt start events c p.number f
    fresh_yet : is_idle p.stage ≡ true → (p.tries ≡ 0) × (p.cut ≡ false)
    lost_by : p.stage ≡ stage.Lost → WasGivenUp start events c p.number f i
    marked_by : p.cut ≡ true → WasGivenUp start events c p.number f i
    has_said : HasAnswers p.stage → HasSaid c p.number f i p.said
    few : p.tries ≤ 128
    refused : Refusals c f i p.number p.stage p.tries p.cause

  record ClientPast (c i : ℕ) (u : Client) : Type 0 where
    numbered : u.present.number ≡ length u.answered + 1
    answered : (n : ℕ) (o : Outcome) → slice_get u.answered n ≡ Some o → WasAnswered start events c (n + 1) o
    present : CallPast c i u.present

  later : (c n f i : ℕ) → WasGivenUp start events c n f i → WasGivenUp start events c n f (suc i)
  later c n f i h = (h.0, h.1, omega (arith, h.2), h.3)

  said_later : (c n f i : ℕ) (said : Option (ℕ × List Said)) → HasSaid c n f i said → HasSaid c n f (suc i) said
  said_later c n f i said h = (h.0, h.1, (h.2.0, h.2.1, omega (arith, h.2.2), h.2.3))

  -- another stage, after as many refusals
  at_stage : (c f i number : ℕ) (g new : Stage) (tries now : ℕ) (last : Option Cause) (r : Refusals c f i number g tries last) → Counted new r.times now → Refusals c f (suc i) number new now last
  at_stage c f i number g new tries now last r counted = record {
    times = r.times;
    at = record { all = r.at.all; below = λ k lt. let b = r.at.below k lt in omega (arith, b) };
    counted = counted;
    latest = r.latest;
  }

  -- the same call goes on
  goes_on : (c i : ℕ) (u : Client) (p : Progress) → ClientPast c i u → p.number ≡ u.present.number → CallPast c (suc i) p → ClientPast c (suc i) (with_progress u p)
  goes_on c i u p h same new = record { numbered = same ∙ h.numbered; answered = h.answered; present = new }

  -- the event of its first post is earlier
  since : (c i : ℕ) (p : Progress) (h : CallPast c i p) → is_idle p.stage ≡ false → (h.f < suc i) × IsPostedAt start events c p.number h.f
  since c i p h busy = let k = h.posted_at busy in (omega (arith, k.0), k.1)

  stays : (c i : ℕ) (u : Client) → ClientPast c i u → ClientPast c (suc i) u
  stays c i u h =
      let p = h.present in
      record {
        numbered = h.numbered;
        answered = h.answered;
        present = record {
          f = p.f;
          posted_at = since c i u.present p;
          fresh_yet = p.fresh_yet;
          lost_by = λ is. later c u.present.number p.f i (p.lost_by is);
          marked_by = λ is. later c u.present.number p.f i (p.marked_by is);
          has_said = λ a. said_later c u.present.number p.f i u.present.said (p.has_said a);
          few = p.few;
          refused = at_stage c p.f i u.present.number u.present.stage u.present.stage u.present.tries u.present.tries u.present.cause p.refused p.refused.counted;
        };
      }

  -- the first post, and a further one
  posts_first : (c i x writes : ℕ) (u : Client) → is_idle u.present.stage ≡ true → IsPostedAt start events c u.present.number i → ClientPast c i u → ClientPast c (suc i) (with_progress u (posted u.present x writes))
  posts_first c i x writes u idle it h =
      let new = h.present.fresh_yet idle in
      goes_on c i u (posted u.present x writes) h refl (record {
        f = i;
        posted_at = λ busy. (omega arith, it);
        fresh_yet = λ is. absurd (cc is);
        lost_by = λ is. absurd (cc is);
        marked_by = λ is. absurd (cc (is, new.1));
        has_said = λ a. absurd a;
        few = omega (arith, new.0);
        refused = record { times = 0; at = none_yet (suc i) (Refusal c u.present.number i); counted = omega (arith, new.0); latest = λ k is. absurd (omega (arith, is)) };
      })

  posts_again : (c i x writes : ℕ) (u : Client) → is_idle u.present.stage ≡ false → may_post u.present.stage ≡ true → nat_lt u.present.tries 128 ≡ true → ClientPast c i u → ClientPast c (suc i) (with_progress u (posted u.present x writes))
  posts_again c i x writes u busy may below h =
      let p = h.present in
      let e = free_counted u.present.stage p.refused.times u.present.tries may p.refused.counted in
      goes_on c i u (posted u.present x writes) h refl (record {
        f = p.f;
        posted_at = λ is. since c i u.present p busy;
        fresh_yet = λ is. absurd (cc is);
        lost_by = λ is. absurd (cc is);
        marked_by = λ is. later c u.present.number p.f i (p.marked_by is);
        has_said = λ a. absurd a;
        few = grind (arith, nat_tests, below);
        refused = at_stage c p.f i u.present.number u.present.stage stage.Posted u.present.tries (u.present.tries + 1) u.present.cause p.refused (ap (λ n. n + 1) e);
      })

  -- a call that was posted is at another stage, and isn't lost
  moves_on : (c i : ℕ) (u : Client) (new : Progress) → new.number ≡ u.present.number → new.cut ≡ u.present.cut → is_idle u.present.stage ≡ false → is_idle new.stage ≡ false → (new.stage ≡ stage.Lost → ⊥)
      → (h : ClientPast c i u) → (HasAnswers new.stage → HasSaid c new.number h.present.f (suc i) new.said) → new.tries ≤ 128 → Refusals c h.present.f (suc i) new.number new.stage new.tries new.cause → ClientPast c (suc i) (with_progress u new)
  moves_on c i u new number cut busy on unlost h said few refused =
      let p = h.present in
      goes_on c i u new h number (record {
        f = p.f;
        posted_at = λ is. subst (λ n. (p.f < suc i) × IsPostedAt start events c n p.f) (sym number) (since c i u.present p busy);
        fresh_yet = λ is. absurd (cc (is, on));
        lost_by = λ is. absurd (unlost is);
        marked_by = λ is. subst (λ n. WasGivenUp start events c n p.f (suc i)) (sym number) (later c u.present.number p.f i (p.marked_by (sym cut ∙ is)));
        has_said = said;
        few = few;
        refused = refused;
      })

  grants : (c i : ℕ) (u : Client) → is_posted u.present.stage ≡ true → ClientPast c i u → ClientPast c (suc i) (with_progress u (begun u.present verdict.Granted))
  grants c i u at h =
      let p = h.present in
      moves_on c i u (begun u.present verdict.Granted) refl refl (posted_busy u.present.stage at) refl (λ is. absurd (cc is)) h (λ a. absurd a) p.few
      (at_stage c p.f i u.present.number u.present.stage stage.Running u.present.tries u.present.tries u.present.cause p.refused (posted_counted u.present.stage p.refused.times u.present.tries at p.refused.counted))

  -- one refusal more
  refuses : (c f i number : ℕ) (g : Stage) (tries : ℕ) (last : Option Cause) (cause : Cause) → is_posted g ≡ true → f < i → IsRefusedAt start events c number cause i → Refusals c f i number g tries last → Refusals c f (suc i) number stage.Refused tries (Some cause)
  refuses c f i number g tries last cause at lt it r =
      let P : ℕ → Type 0 = Refusal c number f in
      let e = posted_counted g r.times tries at r.counted in
      record {
        times = suc r.times;
        at = one_more i r.times P r.at (lt, (cause, it));
        counted = omega (arith, e);
        latest = λ k is.
            let here : (one_more i r.times P r.at (lt, (cause, it))).all.index k ≡ i = ap (one_more i r.times P r.at (lt, (cause, it))).all.index (omega (arith, is)) ∙ last_index i r.times P r.at (lt, (cause, it)) in
            (cause, refl, subst (IsRefusedAt start events c number cause) (sym here) it);
      }

  refused_now : (c i : ℕ) (u : Client) (cause : Cause) → is_posted u.present.stage ≡ true → IsRefusedAt start events c u.present.number cause i → ClientPast c i u → ClientPast c (suc i) (with_progress u (begun u.present (verdict.Refused cause)))
  refused_now c i u cause at it h =
      let p = h.present in
      let busy = posted_busy u.present.stage at in
      moves_on c i u (begun u.present (verdict.Refused cause)) refl refl busy refl (λ is. absurd (cc is)) h (λ a. absurd a) p.few
      (refuses c p.f i u.present.number u.present.stage u.present.tries u.present.cause cause at (p.posted_at busy).0 it p.refused)

  acts : (c i place : ℕ) (answers : List Said) (u : Client) → is_running u.present.stage ≡ true → IsRunAt start events c u.present.number place answers i → ClientPast c i u → ClientPast c (suc i) (with_progress u (acted u.present place answers))
  acts c i place answers u at it h =
      let p = h.present in
      let busy = running_busy u.present.stage at in
      moves_on c i u (acted u.present place answers) refl refl busy refl (λ is. absurd (cc is)) h (λ a. ((place, answers), refl, (i, (p.posted_at busy).0, omega arith, it))) p.few
      (at_stage c p.f i u.present.number u.present.stage stage.Acted u.present.tries u.present.tries u.present.cause p.refused (running_counted u.present.stage p.refused.times u.present.tries at p.refused.counted))

  -- the call is lost, and this is why
  is_lost : (c i : ℕ) (u : Client) → is_idle u.present.stage ≡ false → (h : ClientPast c i u) → WasGivenUp start events c u.present.number h.present.f (suc i) → ClientPast c (suc i) (with_progress u (lost u.present))
  is_lost c i u busy h why =
      let p = h.present in
      goes_on c i u (lost u.present) h refl (record {
        f = p.f;
        posted_at = λ is. since c i u.present p busy;
        fresh_yet = λ is. absurd (cc is);
        lost_by = λ is. why;
        marked_by = λ is. why;
        has_said = λ a. absurd a;
        few = p.few;
        refused = at_stage c p.f i u.present.number u.present.stage stage.Lost u.present.tries u.present.tries u.present.cause p.refused tt;
      })

  is_marked : (c i : ℕ) (u : Client) → is_idle u.present.stage ≡ false → (h : ClientPast c i u) → WasGivenUp start events c u.present.number h.present.f (suc i) → ClientPast c (suc i) (with_progress u (record u.present { cut = true }))
  is_marked c i u busy h why =
      let p = h.present in
      goes_on c i u (record u.present { cut = true }) h refl (record {
        f = p.f;
        posted_at = λ is. since c i u.present p busy;
        fresh_yet = λ is. absurd (cc (is, busy));
        lost_by = λ is. why;
        marked_by = λ is. why;
        has_said = λ a. said_later c u.present.number p.f i u.present.said (p.has_said a);
        few = p.few;
        refused = at_stage c p.f i u.present.number u.present.stage u.present.stage u.present.tries u.present.tries u.present.cause p.refused p.refused.counted;
      })

  ends : (c i : ℕ) (u : Client) → is_acted u.present.stage ≡ true → ClientPast c i u → ClientPast c (suc i) (with_progress u (ended u.present))
  ends c i u at h = by u.present.cut refl
    where
      by : (t : Bool) → u.present.cut ≡ t → ClientPast c (suc i) (with_progress u (if t then lost u.present else record u.present { stage = stage.Ended }))
      by true is = is_lost c i u (acted_busy u.present.stage at) h (later c u.present.number h.present.f i (h.present.marked_by is))
      by false is =
          let p = h.present in
          let k = acted_counted u.present.stage p.refused.times u.present.tries at p.refused.counted in
          moves_on c i u (record u.present { stage = stage.Ended }) refl refl (acted_busy u.present.stage at) refl (λ is. absurd (cc is)) h (λ a. said_later c u.present.number p.f i u.present.said (p.has_said k.0)) p.few
          (at_stage c p.f i u.present.number u.present.stage stage.Ended u.present.tries u.present.tries u.present.cause p.refused k.1)

  -- ---- what a call is answered

  -- as many refusals as posts
  all_refused : (c i : ℕ) (p : Progress) (h : CallPast c i p) → p.stage ≡ stage.Refused → 128 ≤ p.tries → h.refused.times ≡ suc 127
  all_refused c i p h is many =
      let e : p.tries ≡ h.refused.times = subst (λ g. Counted g h.refused.times p.tries) is h.refused.counted in
      let few = h.few in
      omega (arith, e, few, many)

  spent : (c i : ℕ) (p : Progress) (cause : Cause) (h : CallPast c i p) → p.stage ≡ stage.Refused → 128 ≤ p.tries → p.cause ≡ Some cause → WasRefused start events c p.number h.f i cause
  spent c i p cause h is many caused =
      let r = h.refused in
      let times = all_refused c i p h is many in
      let last = r.latest 127 times in
      let same : last.0 ≡ cause = cc (last.1, caused) in
      record {
        times = record {
          index = r.at.all.index;
          rising = λ j k lt le. r.at.all.rising j k lt (omega (arith, le, times));
          each = λ k lt. let one = r.at.all.each k (omega (arith, lt, times)) in (one.0, r.at.below k (omega (arith, lt, times)), one.1);
        };
        last_time = subst (λ d. IsRefusedAt start events c p.number d (r.at.all.index 127)) same last.2;
      }

  caused : (c i : ℕ) (p : Progress) (h : CallPast c i p) → (not (is_refused p.stage) || nat_le 128 p.tries) ≡ true → (is_refused p.stage || is_over p.stage) ≡ true → IsCaused start events c p.number h.f i (outcome_of p)
  caused c i p h tried ready = by p.stage p.said p.cause refl refl refl
    where
      by : (g : Stage) (said : Option (ℕ × List Said)) (cause : Option Cause) → p.stage ≡ g → p.said ≡ said → p.cause ≡ cause → IsCaused start events c p.number h.f i (outcome_by g said cause)
      by stage.Ended (Some said) cause is has why =
          let v = h.has_said (subst HasAnswers (sym is) tt) in
          let same : v.0 ≡ said = cc (v.1, has) in
          subst (λ (r : ℕ × List Said). (j : ℕ) × (h.f < j) × (j < i) × IsRunAt start events c p.number r.0 r.1 j) same v.2
      by stage.Ended None cause is has why = let v = h.has_said (subst HasAnswers (sym is) tt) in absurd (cc (v.1, has))
      by stage.Refused said (Some cause) is has why = spent c i p cause h is (grind (arith, nat_tests, tried, is)) why
      by stage.Refused said None is has why =
          let last = h.refused.latest 127 (all_refused c i p h is (grind (arith, nat_tests, tried, is))) in
          absurd (cc (last.1, why))
      by stage.Lost said cause is has why = h.lost_by is
      by stage.Idle said cause is has why = absurd (cc (subst (λ g. (is_refused g || is_over g) ≡ true) is ready))
      by stage.Posted said cause is has why = absurd (cc (subst (λ g. (is_refused g || is_over g) ≡ true) is ready))
      by stage.Running said cause is has why = absurd (cc (subst (λ g. (is_refused g || is_over g) ≡ true) is ready))
      by stage.Acted said cause is has why = absurd (cc (subst (λ g. (is_refused g || is_over g) ≡ true) is ready))

  abbrev next_of : Client → Client
  next_of u = record u { answered = u.answered ++ outcome_of u.present ∷ []; present = taken u.present }

  takes : (c i : ℕ) (u : Client) → (not (is_refused u.present.stage) || nat_le 128 u.present.tries) ≡ true → (is_refused u.present.stage || is_over u.present.stage) ≡ true → IsAnsweredAt start events c u.present.number i (outcome_of u.present) → ClientPast c i u → ClientPast c (suc i) (next_of u)
  takes c i u tried ready it h = record {
    numbered = omega (arith, h.numbered, length-append u.answered (outcome_of u.present ∷ []));
    answered = λ n o at. elim (slice_get-push u.answered (outcome_of u.present) n o at) [
      | inl old ↦ h.answered n o old
      | inr new ↦
          let number : u.present.number ≡ n + 1 = h.numbered ∙ ap (λ m. m + 1) (sym new.0) in
          subst (λ v. WasAnswered start events c (n + 1) v) (sym new.1) (subst (λ m. WasAnswered start events c m (outcome_of u.present)) number mine)
    ];
    present = record {
      f = 0;
      posted_at = λ is. absurd (cc is);
      fresh_yet = λ is. (refl, refl);
      lost_by = λ is. absurd (cc is);
      marked_by = λ is. absurd (cc is);
      has_said = λ a. absurd a;
      few = omega arith;
      refused = record { times = 0; at = none_yet (suc i) (Refusal c (u.present.number + 1) 0); counted = refl; latest = λ k is. absurd (omega (arith, is)) };
    };
  }
    where
      mine : WasAnswered start events c u.present.number (outcome_of u.present)
      mine =
          let first = h.present.posted_at (ready_busy u.present.stage ready) in
          record { f = h.present.f; g = i; posted = first.1; answered = it; earlier = first.0; why = caused c i u.present h.present tried ready }

  -- ---- one event

  module _ (i : ℕ) (s t : State) (e : Event) (it : IsEvent start events i s e t) (c : ℕ) where
    abbrev old : Client
    old = s.client c

    posts : (x writes : ℕ) → e ≡ Post c x → may_post old.present.stage ≡ true → nat_lt old.present.tries 128 ≡ true → ClientPast c i old → ClientPast c (suc i) (with_progress old (posted old.present x writes))
    posts x writes is may below h = by (is_idle old.present.stage) refl
      where
        by : (idle : Bool) → is_idle old.present.stage ≡ idle → ClientPast c (suc i) (with_progress old (posted old.present x writes))
        by true idle = posts_first c i x writes old idle (record {
          before = s;
          after = t;
          set = x;
          it = subst (λ v. IsEvent start events i s v t) is it;
          number = refl;
          unposted = idle;
        }) h
        by false busy = posts_again c i x writes old busy may below h

    begins : (x : ℕ) (k : Call) → e ≡ Begin c → is_posted old.present.stage ≡ true → next_call old ≡ Some k → old.present.set ≡ Some x → (v : Verdict) → verdict_at s x k ≡ v → ClientPast c i old → ClientPast c (suc i) (with_progress old (begun old.present v))
    begins x k is at called set verdict.Granted said h = grants c i old at h
    begins x k is at called set (verdict.Refused cause) said h = refused_now c i old cause at (record {
      before = s;
      after = t;
      it = subst (λ v. IsEvent start events i s v t) is it;
      number = refl;
      call = k;
      called = called;
      set = x;
      at = set;
      refused = said;
    }) h

    -- the present call is the one that the cut names
    is_present : (n : ℕ) → old.present.number ≡ length old.answered + 1 → is_answered old n ≡ false → is_reached old n ≡ true → n ≡ old.present.number
    is_present n number late reached = grind (arith, nat_tests, number, late, reached)

    cut_by : (n f : ℕ) → f < i → Cuts s e c n → n ≡ old.present.number → is_open old.present.stage ≡ true → WasGivenUp start events c old.present.number f (suc i)
    cut_by n f lt cuts same at = (
      i,
      lt,
      omega arith,
      inl (record {
        before = s;
        event = e;
        after = t;
        it = it;
        cuts = subst (Cuts s e c) same cuts;
        number = refl;
        found = at;
      }),
    )

    is_cut : (n : ℕ) → Cuts s e c n → is_answered old n ≡ false → is_reached old n ≡ true → ClientPast c i old → ClientPast c (suc i) (with_progress old (cut old.present))
    is_cut n cuts late reached h = by old.present.stage refl
      where
        busy : is_idle old.present.stage ≡ false
        busy = reached_busy (is_answered old n) (n == length old.answered + 1) (is_idle old.present.stage) late reached

        why : (g : Stage) → old.present.stage ≡ g → is_open g ≡ true → WasGivenUp start events c old.present.number h.present.f (suc i)
        why g is at = cut_by n h.present.f (h.present.posted_at busy).0 cuts (is_present n h.numbered late reached) (ap is_open is ∙ at)

        by : (g : Stage) → old.present.stage ≡ g → ClientPast c (suc i) (with_progress old (cut_at g old.present))
        by stage.Running is = is_marked c i old busy h (why stage.Running is refl)
        by stage.Acted is = is_marked c i old busy h (why stage.Acted is refl)
        by stage.Posted is = is_lost c i old busy h (why stage.Posted is refl)
        by stage.Ended is = is_lost c i old busy h (why stage.Ended is refl)
        by stage.Refused is = is_lost c i old busy h (why stage.Refused is refl)
        by stage.Lost is = is_lost c i old busy h (later c old.present.number h.present.f i (h.present.lost_by is))
        by stage.Idle is = absurd (cc (ap is_idle is, busy))

    goes_down : (x : ℕ) → TakesDown s e x → s.up x ≡ true → ClientPast c i old → ClientPast c (suc i) (lost_at x old)
    goes_down x down up h = by (is_at_set old.present.stage && is_set old.present.set x) refl
      where
        by : (test : Bool) → (is_at_set old.present.stage && is_set old.present.set x) ≡ test → ClientPast c (suc i) (if test then with_progress old (lost old.present) else old)
        by false is = stays c i old h
        by true is =
            let both = both_true (is_at_set old.present.stage) (is_set old.present.set x) is in
            let busy = at_set_busy old.present.stage both.0 in
            is_lost c i old busy h (
              i,
              (h.present.posted_at busy).0,
              omega arith,
              inr (record {
                before = s;
                event = e;
                after = t;
                it = it;
                set = x;
                down = down;
                was_up = up;
                number = refl;
                at = set_is old.present.set x both.1;
                found = both.0;
              }),
            )

    turned : (new : Client) → Turn s e c new → ClientPast c i old → ClientPast c (suc i) new
    turned new (Stays is) h = subst (ClientPast c (suc i)) (sym is) (stays c i old h)
    turned new (Posts x writes by may few is) h = subst (ClientPast c (suc i)) (sym is) (posts x writes by may few h)
    turned new (Begins x k by at called set is) h = subst (ClientPast c (suc i)) (sym is) (begins x k by at called set (verdict_at s x k) refl h)
    turned new (Acts x k by at called set is) h = subst (ClientPast c (suc i)) (sym is) (acts c i _ _ old at (record {
      before = s;
      after = t;
      it = subst (λ v. IsEvent start events i s v t) by it;
      number = refl;
      call = k;
      called = called;
      set = x;
      at = set;
      placed = refl;
      answered = refl;
    }) h)
    turned new (Ends at is) h = subst (ClientPast c (suc i)) (sym is) (ends c i old at h)
    turned new (Takes by tried ready is) h = subst (ClientPast c (suc i)) (sym is) (takes c i old tried ready (record {
      before = s;
      after = t;
      it = subst (λ v. IsEvent start events i s v t) by it;
      number = refl;
      answer = refl;
    }) h)
    turned new (IsCut n cuts late reached is) h = subst (ClientPast c (suc i)) (sym is) (is_cut n cuts late reached h)
    turned new (GoesDown x down up is) h = subst (ClientPast c (suc i)) (sym is) (goes_down x down up h)

  -- ---- a run

  client_past : (c : ℕ) → ClientPast c zero (start.client c) → (s : State) → run start events ≡ Ok s → ClientPast c (length events) (s.client c)
  client_past c first s ran =
      along start events (λ i (u : State). ClientPast c i (u.client c)) first
      (λ i u t e it ran h. turned i u t e it c (t.client c) (step_turns u t e it.gives c) h) (length events) s (omega arith)
      (subst (λ es. run start es ≡ Ok s) (sym (take_all (length events) events (omega arith))) ran)

pub caused_calls : CausedCalls
caused_calls config scripts held events s ran c n o at = (client_past (opening config scripts held) events c first s ran).answered n o at
  where
    first : ClientPast (opening config scripts held) events c zero ((opening config scripts held).client c)
    first = record {
      numbered = refl;
      answered = λ n o at. absurd (cc at);
      present = record {
        f = 0;
        posted_at = λ is. absurd (cc is);
        fresh_yet = λ is. (refl, refl);
        lost_by = λ e. absurd (cc e);
        marked_by = λ e. absurd (cc e);
        has_said = λ a. absurd a;
        few = omega arith;
        refused = record { times = 0; at = none_yet zero (Refusal (opening config scripts held) events c 1 0); counted = refl; latest = λ k is. absurd (omega (arith, is)) };
      };
    }
