-- What holds inside holds of each reached state, by one induction; and so do the laws.
use Rattle.std.proofs.Common.{◌≡◌, ℕ, inl, inr, ◌≤◌, arith, Bool, true, false, refl, sym, ap, subst, ◌∙◌, List, [], ◌∷◌, ◌++◌, Option, Some, None, Ok}
use Rattle.std.specs.Prelude.{◌≢◌, ◌⊎◌, ◌↔◌, ◌&&◌, ◌==◌}
use Rattle.std.proofs.lemmas.Bool.{eqb-true}
use Rattle.std.proofs.lemmas.Bool.Decides.{nat_tests}
use Rattle.vs_base.specs.declared.numbers.Mode.{Mode}
use Rattle.vs_base.specs.declared.numbers.Mode.TheVariants.{Ro, Rw}
use Rattle.vs_space.specs.declared.status.Status.{Status}
use Rattle.vs_space.specs.declared.status.Status.TheVariants.{Active, Pinned, Sending, Receiving, Sent, Garbage}
use Rattle.vs_space.specs.declared.status.Verdict.{Verdict}
use Rattle.vs_space.specs.declared.status.Verdict.TheVariants as verdict
use Rattle.vs_calls.specs.declared.stage.Stage.{Stage}
use Rattle.vs_calls.specs.declared.stage.Stage.TheVariants as stage
use Rattle.vs_calls.specs.Progress.{Progress, begun, is_running, is_held}
use Rattle.vs_event.specs.declared.event.Event.{Event}
use Rattle.vs_history.specs.History.{write_count}
use Rattle.vs_script.specs.Calls.{Call}
use Rattle.vs_machine.specs.Check.{◌>>=◌}
use Rattle.vs_machine.specs.Tables.{is_to}
use Rattle.vs_machine.specs.State.{State, Bucket, Client, next_call, holds, is_call_of, is_mode, is_set, references, with_progress}
use Rattle.vs_machine.specs.Step.{step, run}
use Rattle.vs_machine.specs.Coherence.{IsServing, IsAway, IsServed, IsSending, HasSent, IsReceiving, owners}
use Rattle.vs_machine.specs.Kinds.Calls.{verdict_at, place_by, place_of}
use Rattle.vs_machine.specs.Laws.{ReachesOn, CoherentRuns, OneAccepts, LegalRuns, AnsweredRuns, OrderedRuns, FreshRuns, FrozenRuns, RefusedRuns}
use Rattle.vs_machine.specs.History.{IsFreshPlace}
use Rattle.vs_machine.specs.Runs.{IsReached}
use Rattle.vs_machine.specs.Whole.{Inner, Whole}
use Rattle.vs_machine.specs.Inner.Calls.{HoldFits, ReadFits, IsCopy}
use Rattle.vs_machine.specs.Inner.Owner.{IsPlaced, Owns, Beside}
use Rattle.vs_machine.proofs.Can.Calls.{can_begin}
use Rattle.vs_machine.proofs.Counts.{counts_none}
use Rattle.vs_machine.proofs.Frame.{put_here}
use Rattle.vs_machine.proofs.Opens.{owner, opening_whole}
use Rattle.vs_machine.proofs.Owners.{serving_owns}
use Rattle.vs_machine.proofs.Possible.{both_are, bind_ok, ok_is}
use Rattle.vs_machine.proofs.Steps.{step_whole}
use Rattle.vs_machine.proofs.Kept.Acting.{held_at, runs_busy}

-- ---- along a run

run_whole : (own : ℕ → ℕ) (s t : State) (es : List Event) → Whole own s → run s es ≡ Ok t → (last : ℕ → ℕ) × Whole last t
run_whole own s t [] w e = (own, subst (Whole own) (ok_is s t e) w)
run_whole own s t (v ∷ es) w e =
    let next = bind_ok (step s v) (λ u. run u es) t e in
    run_whole (owners own s v) next.0 t es (step_whole own s next.0 v w next.1) next.2

pub reached_whole : (s : State) → IsReached s → (own : ℕ → ℕ) × Whole own s
reached_whole s r = run_whole (owner r.config r.scripts r.held r.opens) _ s r.events (opening_whole r.config r.scripts r.held r.opens) r.runs

run-append : (s m t : State) (es : List Event) (e : Event) → run s es ≡ Ok m → step m e ≡ Ok t → run s (es ++ e ∷ []) ≡ Ok t
run-append s m t [] e h g = let same : s ≡ m = ok_is s m h in subst (λ (u : State). (step u e >>= (λ n. run n [])) ≡ Ok t) (sym same) (ap (λ r. r >>= (λ n. run n [])) g)
run-append s m t (v ∷ es) e h g =
    let next = bind_ok (step s v) (λ u. run u es) m h in
    ap (λ r. r >>= (λ u. run u (es ++ e ∷ []))) next.1 ∙ run-append next.0 m t es e next.2 g

pub reaches_on : ReachesOn
reaches_on s t e r g = record { config = r.config; scripts = r.scripts; held = r.held; events = r.events ++ e ∷ []; opens = r.opens; runs = run-append _ s t r.events e r.runs g }

-- ---- who has a bucket

-- beside an owner that isn't sending the others are away
others_away : (o : ℕ) (has : Option Status) (y : ℕ) (e : Option Status) → has ≢ Some (Sending y) → Beside o has y e → IsAway e
others_away o has y None ne h = tt
others_away o has y (Some Garbage) ne h = tt
others_away o has y (Some (Sent d)) ne h = tt
others_away o has y (Some (Receiving x)) ne h = absurd (ne h.1)
others_away o has y (Some Active) ne h = h
others_away o has y (Some Pinned) ne h = h
others_away o has y (Some (Sending d)) ne h = h

sent_to : (o z : ℕ) (e : Option Status) → Beside o (Some (Receiving z)) z e → HasSent o e
sent_to o z None h = tt
sent_to o z (Some Garbage) h = tt
sent_to o z (Some (Sent d)) h = h refl
sent_to o z (Some (Receiving x)) h = absurd (cc (h.1))
sent_to o z (Some Active) h = absurd h
sent_to o z (Some Pinned) h = absurd h
sent_to o z (Some (Sending d)) h = absurd h

pub placed_by : (o : ℕ) (entry : ℕ → Option Status) → 1 ≤ o → IsPlaced o entry → (has : Option Status) → entry o ≡ has → IsServed entry ⊎ IsSending entry ⊎ IsReceiving entry
placed_by o entry real p (Some Active) at = inl (record {
  at = o;
  serving = subst IsServing (sym at) tt;
  others = λ y ne. others_away o (entry o) y (entry y) (λ e. absurd (cc (e, at))) (p.beside y ne);
})
placed_by o entry real p (Some Pinned) at = inl (record {
  at = o;
  serving = subst IsServing (sym at) tt;
  others = λ y ne. others_away o (entry o) y (entry y) (λ e. absurd (cc (e, at))) (p.beside y ne);
})
placed_by o entry real p (Some (Sending d)) at = inr (inl (record { from = o; to = d; sending = at; others = λ y ne. by y (entry y) refl (p.beside y ne) }))
  where
    by : (y : ℕ) (e : Option Status) → entry y ≡ e → Beside o (entry o) y e → IsAway e ⊎ ((y ≡ d) × (e ≡ Some (Receiving o)))
    by y None is h = inl tt
    by y (Some Garbage) is h = inl tt
    by y (Some (Sent c)) is h = inl tt
    by y (Some (Receiving x)) is h = let to : y ≡ d = cc (h.1, at) in inr (to, ap (λ k. Some (Receiving k)) h.0)
    by y (Some Active) is h = absurd h
    by y (Some Pinned) is h = absurd h
    by y (Some (Sending c)) is h = absurd h
placed_by o entry real p (Some (Receiving z)) at =
    let other : z ≢ o = subst (Owns o) at p.owner in
    inr (inr (record {
      at = o;
      from = z;
      receiving = at;
      sender = sent_to o z (entry z) (subst (λ h. Beside o h z (entry z)) at (p.beside z other));
      others = λ y ne. others_away o (entry o) y (entry y) (λ e. absurd (cc (e, at))) (p.beside y ne);
    }))
placed_by o entry real p (Some (Sent d)) at = absurd (subst (Owns o) at p.owner)
placed_by o entry real p (Some Garbage) at = absurd (subst (Owns o) at p.owner)
placed_by o entry real p None at = let zero : o ≡ 0 = subst (Owns o) at p.owner in absurd (omega (arith, zero, real))

pub coherent_runs : CoherentRuns
coherent_runs s r b first last =
    let w = reached_whole s r in
    let f = w.1.inner.buckets b in
    let known : is_to s.config.bucket_count b ≡ true = grind (arith, nat_tests, first, last) in
    record { placed = placed_by (w.0 b) (s.bucket b).entry (w.1.inner.real b known) f.placed ((s.bucket b).entry (w.0 b)) refl; named = f.named; empty = f.stored.empty; within = w.1.bounds b }

pub one_accepts : OneAccepts
one_accepts s r b x y hx hy =
    let w = reached_whole s r in
    let p = (w.1.inner.buckets b).placed in
    serving_owns (w.0 b) (s.bucket b).entry x p hx.serving ∙ sym (serving_owns (w.0 b) (s.bucket b).entry y p hy.serving)

-- ---- histories and answers

pub legal_runs : LegalRuns
legal_runs s r b =
    let w = (reached_whole s r).1 in
    let f = (w.inner.buckets b).replayed in
    let ids = w.once.entries b in
    record {
      writes_placed = f.writes_placed;
      writes_answered = f.writes_answered;
      reads_placed = f.reads_placed;
      reads_answered = f.reads_answered;
      once = ids.once;
      writes_called = ids.writes_called;
      reads_called = ids.reads_called;
    }

pub answered_runs : AnsweredRuns
answered_runs s r = (reached_whole s r).1.answers.answered

pub ordered_runs : OrderedRuns
ordered_runs s r = (reached_whole s r).1.order.kept

runs_held : (g : Stage) → is_running g ≡ true → is_held g ≡ true
runs_held g h = grind arith

place_fits : (b : Bucket) (x posted : ℕ) (e : Option Status) → posted ≤ write_count b.history → ReadFits e (b.rows x) b.history (b.kept x) posted → (posted ≤ place_by b x e) × (place_by b x e ≤ write_count b.history)
place_fits b x posted (Some (Sent d)) le h = (h.fresh, h.within)
place_fits b x posted (Some Active) le h = (le, omega arith)
place_fits b x posted (Some Pinned) le h = (le, omega arith)
place_fits b x posted (Some (Sending d)) le h = (le, omega arith)
place_fits b x posted (Some (Receiving d)) le h = absurd h
place_fits b x posted (Some Garbage) le h = absurd h
place_fits b x posted None le h = absurd h

pub fresh_runs : FreshRuns
fresh_runs s r c x k running called at =
    let w = (reached_whole s r).1 in
    let held = held_at (s.client c).present x (runs_held _ running) at in
    by k.mode (w.order.posted c k called (runs_busy _ running)) (w.inner.clients c k x called held)
  where
    by : (m : Mode) → (s.client c).present.writes ≤ write_count (s.bucket k.bucket).history → HoldFits (s.bucket k.bucket) x m (s.client c).present.writes
        → IsFreshPlace m (s.client c).present.writes (write_count (s.bucket k.bucket).history) (place_of (s.bucket k.bucket) x m)
    by Ro le h = place_fits (s.bucket k.bucket) x (s.client c).present.writes ((s.bucket k.bucket).entry x) le h
    by Rw le h = refl

pub frozen_runs : FrozenRuns
frozen_runs s r c x d k held called at mode sent =
    let w = (reached_whole s r).1 in
    let b = s.bucket k.bucket in
    let h : HoldFits b x Ro (s.client c).present.writes = subst (λ m. HoldFits b x m (s.client c).present.writes) mode (w.inner.clients c k x called (held_at (s.client c).present x held at)) in
    let copy : IsCopy (b.rows x) b.history (b.kept x) (s.client c).present.writes = subst (λ e. ReadFits e (b.rows x) b.history (b.kept x) (s.client c).present.writes) sent h in
    record { rows = copy.rows_are; fresh = copy.fresh; within = copy.within }

-- ---- nobody holds what takes no calls of a mode

mode_is : (m k : Mode) → is_mode k m ≡ true → k ≡ m
mode_is Ro Ro e = refl
mode_is Rw Rw e = refl
mode_is Ro Rw e = absurd cc
mode_is Rw Ro e = absurd cc

-- the call that is held
pub record Held (s : State) (m : Mode) (x b c : ℕ) : Type 0 where
  pub call : Call
  pub called : next_call (s.client c) ≡ Some call
  pub bucket : call.bucket ≡ b
  pub mode : call.mode ≡ m

held_call : (s : State) (m : Mode) (x b c : ℕ) → is_call_of m b (next_call (s.client c)) ≡ true → Held s m x b c
held_call s m x b c h = by (next_call (s.client c)) refl h
  where
    by : (o : Option Call) → next_call (s.client c) ≡ o → is_call_of m b o ≡ true → Held s m x b c
    by None e h = absurd cc
    by (Some k) e h = record { call = k; called = e; bucket = eqb-true k.bucket b (parts.1 h); mode = mode_is m k.mode (parts.0 h) }
      where
        parts : (is_call_of m b (Some k) ≡ true → is_mode k.mode m ≡ true) × (is_call_of m b (Some k) ≡ true → (k.bucket == b) ≡ true)
        parts = (λ h. grind (arith, h), λ h. grind (arith, h))

pub unreferenced_where : (own : ℕ → ℕ) (s : State) (m : Mode) (x b : ℕ) → Inner own s → ((posted : ℕ) → HoldFits (s.bucket b) x m posted → ⊥) → references s m x b ≡ 0
unreferenced_where own s m x b i none = counts_none (λ c. holds m x b (s.client c)) s.clients nobody
  where
    nobody : (c : ℕ) → holds m x b (s.client c) ≡ false
    nobody c = by (holds m x b (s.client c)) refl
      where
        by : (t : Bool) → holds m x b (s.client c) ≡ t → t ≡ false
        by false e = refl
        by true e =
            let parts = both_are (is_held (s.client c).present.stage && is_set (s.client c).present.set x) (is_call_of m b (next_call (s.client c))) e in
            let h = held_call s m x b c parts.1 in
            let fits = i.clients c h.call x h.called parts.0 in
            absurd (none (s.client c).present.writes (subst (λ k. HoldFits (s.bucket b) x k (s.client c).present.writes) h.mode (subst (λ q. HoldFits (s.bucket q) x h.call.mode (s.client c).present.writes) h.bucket fits)))

-- ---- refusals

pub refused_runs : RefusedRuns
refused_runs s t c x k cause h called at =
    let p = can_begin s t c h in
    let one : p.k ≡ k = cc (p.called, called) in
    let here : p.x ≡ x = cc (p.set, at) in
    let verdict_is : verdict_at s p.x p.k ≡ verdict_at s x k = ap (λ z. verdict_at s z p.k) here ∙ ap (verdict_at s x) one in
    let present : (t.client c).present ≡ begun (s.client c).present (verdict_at s x k) =
    ap (λ (u : State). (u.client c).present) (sym p.gives) ∙ ap (λ (u : Client). u.present) (put_here s.client c (with_progress (s.client c) (begun (s.client c).present (verdict_at s p.x p.k)))) ∙ ap (begun (s.client c).present) verdict_is in
    subst (λ (q : Progress). ((q.stage ≡ stage.Refused) × (q.cause ≡ Some cause)) ↔ (verdict_at s x k ≡ verdict.Refused cause)) (sym present) (by (verdict_at s x k))
  where
    by : (v : Verdict) → (((begun (s.client c).present v).stage ≡ stage.Refused) × ((begun (s.client c).present v).cause ≡ Some cause)) ↔ (v ≡ verdict.Refused cause)
    by verdict.Granted = (λ h. absurd (cc (h.0)), λ h. absurd (cc h))
    by (verdict.Refused d) = (λ h. let same : d ≡ cause = cc (h.1) in ap (λ q. verdict.Refused q) same, λ h. let same : d ≡ cause = cc h in (refl, ap (λ q. Some q) same))
