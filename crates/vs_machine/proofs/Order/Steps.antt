-- Each kind of event keeps the order of each caller's calls.
use Rattle.std.proofs.Common.{◌≡◌, ℕ, inl, inr, ◌≤◌, Bool, true, false, refl, sym, ap, subst, ◌∙◌, arith, List, [], ◌∷◌, ◌++◌, length, Option, Some, None, Ok}
use Rattle.std.specs.Prelude.{slice_get}
use Rattle.std.proofs.lemmas.Option.{slice_get_within}
use Rattle.vs_base.specs.declared.numbers.Mode.{Mode}
use Rattle.vs_base.specs.declared.numbers.Mode.TheVariants.{Ro, Rw}
use Rattle.vs_rows.specs.Operations.{answers_to}
use Rattle.vs_rows.specs.Said.{Said}
use Rattle.vs_space.specs.declared.status.Cause.{Cause}
use Rattle.vs_calls.specs.declared.stage.Stage.{Stage}
use Rattle.vs_calls.specs.declared.stage.Stage.TheVariants as stage
use Rattle.vs_calls.specs.Outcomes.{Outcome, Reply}
use Rattle.vs_calls.specs.Progress.{Progress, acted, taken, outcome_by, outcome_of, is_idle, is_running}
use Rattle.vs_event.specs.declared.event.Event.{Event}
use Rattle.vs_event.specs.declared.event.Event.TheVariants.{Post, Begin, Act, End, Take, Cut, Start, Haul, NotYet, Freeze, Chunk, Seal, Last, Abort, EndMove, Deliver, Hear, Close, Ask, Condemn, Wipe, Forget, Pin, Plan, Stop, Fault, Restart}
use Rattle.vs_event.specs.declared.event.Recorded.{Recorded}
use Rattle.vs_event.specs.declared.event.RestartBy.{RestartBy}
use Rattle.vs_history.specs.History.{write_count}
use Rattle.vs_record.specs.Change as changes
use Rattle.vs_record.specs.Change.{Change, Write}
use Rattle.vs_script.specs.Calls.{Call}
use Rattle.vs_machine.specs.State.{State, Bucket, Client, next_call, call_id, with_progress}
use Rattle.vs_machine.specs.History.{IsPlacedAfter, KeepsCallerOrder}
use Rattle.vs_machine.specs.Kinds.Calls.{act, after_act, take, after_take, bucket_after, place_of}
use Rattle.vs_machine.specs.Kinds.Stops.{fault, after_fault, restart, kept_at}
use Rattle.vs_machine.specs.Step.{step}
use Rattle.vs_machine.specs.Whole.{Inner}
use Rattle.vs_machine.specs.Inner.Answers.{HasAnswers, PlaceFits, HasStood, AnswersFit, OrderFits}
use Rattle.vs_machine.specs.Inner.Down.{UpFits}
use Rattle.vs_machine.proofs.Frame.{put_each}
use Rattle.vs_machine.proofs.Histories.{slice_get-push}
use Rattle.vs_machine.proofs.Can.Calls.{can_act, can_take}
use Rattle.vs_machine.proofs.Order.Calm.{Calm, down_calm, bare_calm, kept_calm, post_calm, begin_calm, end_calm, cut_calm, start_calm, haul_calm, wait_calm, freeze_calm, chunk_calm, seal_calm, last_calm, abort_calm, end_move_calm, deliver_calm, hear_calm, close_calm, ask_calm, condemn_calm, wipe_calm, forget_calm, pin_calm, plan_calm, stop_calm}
use Rattle.vs_machine.proofs.Order.Growing.{same_grows, run_grows}
use Rattle.vs_machine.proofs.Order.Passing.{Follows, same_passes, script_back, answer_back, called_back}
use Rattle.vs_machine.proofs.Order.Stops.{fault_any, restart_any}

-- where no answer is taken and no history gets shorter
pub follow_order : (s t : State) → ((b : ℕ) → write_count (s.bucket b).history ≤ write_count (t.bucket b).history) → ((c : ℕ) → Follows s (s.client c) (t.client c)) → OrderFits s → OrderFits t
follow_order s t longer moves i = record {
  known = λ c n p k said e f. let now = longer k.bucket in omega (arith, now, i.known c n p k said (script c n e) (answer c n f));
  posted = λ c k e busy. elim ((moves c).writes k (called c e) busy) [
    | inl w ↦ let now = longer k.bucket in let before = i.posted c k (called c e) w.0 in omega (arith, now, before, w.1)
    | inr w ↦ let now = longer k.bucket in omega (arith, now, w)
  ];
  after = λ c n p j k said e f g same busy. elim ((moves c).writes k (called c g) busy) [
    | inl w ↦ let before = i.after c n p j k said (script c n e) (answer c n f) (called c g) same w.0 in omega (arith, before, w.1)
    | inr w ↦
        let there : p ≤ write_count (s.bucket k.bucket).history = subst (λ b. p ≤ write_count (s.bucket b).history) same (i.known c n p j said (script c n e) (answer c n f)) in
        omega (arith, there, w)
  ];
  kept = λ c m n p q j k a b lt e1 e2 same f1 f2. i.kept c m n p q j k a b lt (script c m e1) (script c n e2) same (answer c m f1) (answer c n f2);
}
  where
    script : (c n : ℕ) {o : Option Call} → slice_get (t.client c).script n ≡ o → slice_get (s.client c).script n ≡ o
    script c n h = script_back s (s.client c) (t.client c) (moves c) n h

    answer : (c n : ℕ) {o : Option Outcome} → slice_get (t.client c).answered n ≡ o → slice_get (s.client c).answered n ≡ o
    answer c n h = answer_back s (s.client c) (t.client c) (moves c) n h

    called : (c : ℕ) {o : Option Call} → next_call (t.client c) ≡ o → next_call (s.client c) ≡ o
    called c h = called_back s (s.client c) (t.client c) (moves c) h

pub calm_order : (s t : State) → Calm s t → OrderFits s → OrderFits t
calm_order s t q i = follow_order s t (λ b. (same_grows (s.bucket b).history (t.bucket b).history (q.histories b)).count) (λ c. (q.clients c).follows) i

-- ---- act

run_busy : (st : Stage) → is_running st ≡ true → is_idle st ≡ false
run_busy st h = grind arith

pub act_follows : (s : State) (c : Client) (place : ℕ) (said : List Said) → is_running c.present.stage ≡ true → Follows s c (with_progress c (acted c.present place said))
act_follows s c place said runs = record {
  script = refl;
  answered = refl;
  number = refl;
  acted = λ h. tt;
  writes = λ k e busy. inl (run_busy c.present.stage runs, refl);
}

pub act_order : (s t : State) (c : ℕ) → OrderFits s → act s c ≡ Ok t → OrderFits t
act_order s t c i e =
    let p = can_act s t c e in
    let old = s.client c in
    let b = s.bucket p.k.bucket in
    let next : Bucket = bucket_after b p.x (call_id c old) p.k.mode p.k.ops in
    let new : Client = with_progress old (acted old.present (place_of b p.x p.k.mode) (answers_to (b.rows p.x) p.k.ops)) in
    subst OrderFits p.gives (follow_order s (after_act s c p.k p.x)
    (put_each (λ q (u : Bucket). write_count (s.bucket q).history ≤ write_count u.history) s.bucket p.k.bucket next (run_grows b p.x (call_id c old) p.k.mode p.k.ops).count (λ q. omega arith))
    (put_each (λ q (u : Client). Follows s (s.client q) u) s.client c new (act_follows s old _ _ p.running) (λ q. (same_passes s (s.client q)).follows))
    i)

-- ---- take

reply_by : (st : Stage) (said : Option (ℕ × List Said)) (cause : Option Cause) (p : ℕ) (a : List Said) → Reply p a ≡ outcome_by st said cause → (st ≡ stage.Ended) × (said ≡ Some (p, a))
reply_by stage.Ended (Some (q, b)) cause p a e = (refl, let same : Reply q b ≡ Reply p a = sym e in let one : q ≡ p = cc (same) in let two : b ≡ a = cc (same) in ap (λ z. Some (z, b)) one ∙ ap (λ z. Some (p, z)) two)
reply_by stage.Ended None (Some r) p a e = absurd cc
reply_by stage.Ended None None p a e = absurd cc
reply_by stage.Refused said (Some r) p a e = absurd cc
reply_by stage.Refused said None p a e = absurd cc
reply_by stage.Idle said cause p a e = absurd cc
reply_by stage.Posted said cause p a e = absurd cc
reply_by stage.Running said cause p a e = absurd cc
reply_by stage.Acted said cause p a e = absurd cc
reply_by stage.Lost said cause p a e = absurd cc

-- a call that is answered Reply has ended, with that place and those answers
pub reply_is : (q : Progress) (p : ℕ) (a : List Said) → Reply p a ≡ outcome_of q → (q.stage ≡ stage.Ended) × (q.said ≡ Some (p, a))
reply_is q p a e = reply_by q.stage q.said q.cause p a e

-- and stands with them
pub record Replied (s : State) (c : ℕ) (k : Call) (p : ℕ) (a : List Said) : Type 0 where
  pub ended : (s.client c).present.stage ≡ stage.Ended
  pub stood : HasStood s c k
  pub place_is : stood.place ≡ p
  pub answers_are : stood.answers ≡ a

pub replied : (s : State) (c : ℕ) (k : Call) (p : ℕ) (a : List Said) → AnswersFit s → next_call (s.client c) ≡ Some k → Reply p a ≡ outcome_of (s.client c).present → Replied s c k p a
replied s c k p a g called e =
    let r = reply_is (s.client c).present p a e in
    let h : HasStood s c k = g.present c k called (subst HasAnswers (sym r.0) tt) in
    let same : Some (h.place, h.answers) ≡ Some (p, a) = sym h.said ∙ r.1 in
    let pair : (h.place, h.answers) ≡ (p, a) = cc (same) in
    record { ended = r.0; stood = h; place_is = ap (λ (z : ℕ × List Said). z.0) pair; answers_are = ap (λ (z : ℕ × List Said). z.1) pair }

within_now : (m : Mode) (posted now place : ℕ) → PlaceFits m posted now place → place ≤ now
within_now Ro posted now place h = h.1
within_now Rw posted now place h = h.1

placed_after : (m : Mode) (p posted now place : ℕ) → p ≤ posted → PlaceFits m posted now place → IsPlacedAfter p m place
placed_after Ro p posted now place le h = omega (arith, le, h.0)
placed_after Rw p posted now place le h = omega (arith, le, h.0)

module _ (s : State) (c : ℕ) (g : AnswersFit s) (i : OrderFits s) where
  abbrev out : Outcome
  out = outcome_of (s.client c).present

  abbrev new : Client
  new = let was = s.client c in record was { answered = was.answered ++ outcome_of was.present ∷ []; present = taken was.present }

  -- the call that is taken is the next one
  is_next : (n : ℕ) (k : Call) → slice_get (s.client c).script n ≡ Some k → n ≡ length (s.client c).answered → next_call (s.client c) ≡ Some k
  is_next n k e is = subst (λ m. slice_get (s.client c).script m ≡ Some k) is e

  known_now : (n p : ℕ) (k : Call) (said : List Said) → slice_get (s.client c).script n ≡ Some k → slice_get ((s.client c).answered ++ out ∷ []) n ≡ Some (Reply p said) → p ≤ write_count (s.bucket k.bucket).history
  known_now n p k said e f = elim (slice_get-push (s.client c).answered out n (Reply p said) f) [
    | inl h ↦ i.known c n p k said e h
    | inr h ↦
        let r = replied s c k p said g (is_next n k e h.0) h.1 in
        subst (λ z. z ≤ write_count (s.bucket k.bucket).history) r.place_is (within_now k.mode _ _ r.stood.place r.stood.placed)
  ]

  order_now : KeepsCallerOrder new
  order_now m n p q j k a b lt e1 e2 same f1 f2 = elim (slice_get-push (s.client c).answered out n (Reply q b) f2) [
    | inl h2 ↦ elim (slice_get-push (s.client c).answered out m (Reply p a) f1) [
      | inl h1 ↦ i.kept c m n p q j k a b lt e1 e2 same h1 h2
      | inr h1 ↦ let within = slice_get_within (s.client c).answered n (Reply q b) h2 in absurd (omega (arith, within, h1.0, lt))
    ]
    | inr h2 ↦ elim (slice_get-push (s.client c).answered out m (Reply p a) f1) [
      | inl h1 ↦
          let called = is_next n k e2 h2.0 in
          let r = replied s c k q b g called h2.1 in
          let busy : is_idle (s.client c).present.stage ≡ false = ap is_idle r.ended in
          subst (λ z. IsPlacedAfter p k.mode z) r.place_is (placed_after k.mode p _ _ r.stood.place (i.after c m p j k a e1 h1 called same busy) r.stood.placed)
      | inr h1 ↦ absurd (omega (arith, h1.0, h2.0, lt))
    ]
  ]

  pub taken_order : OrderFits (after_take s c)
  taken_order = record {
    known = put_each (λ r (u : Client). (n p : ℕ) (k : Call) (said : List Said) → slice_get u.script n ≡ Some k → slice_get u.answered n ≡ Some (Reply p said) → p ≤ write_count (s.bucket k.bucket).history) s.client c new known_now i.known;
    posted = put_each (λ r (u : Client). (k : Call) → next_call u ≡ Some k → is_idle u.present.stage ≡ false → u.present.writes ≤ write_count (s.bucket k.bucket).history) s.client c new (λ k e busy. absurd (cc (busy))) i.posted;
    after = put_each (λ r (u : Client). (n p : ℕ) (j k : Call) (said : List Said) → slice_get u.script n ≡ Some j → slice_get u.answered n ≡ Some (Reply p said) → next_call u ≡ Some k → j.bucket ≡ k.bucket → is_idle u.present.stage ≡ false → p ≤ u.present.writes)
        s.client c new (λ n p j k said e f h same busy. absurd (cc (busy))) i.after;
    kept = put_each (λ r. KeepsCallerOrder) s.client c new order_now i.kept;
  }

pub take_order : (s t : State) (c : ℕ) → AnswersFit s → OrderFits s → take s c ≡ Ok t → OrderFits t
take_order s t c g i e = subst OrderFits (can_take s t c e).gives (taken_order s c g i)

-- ---- fault, restart

pub fault_order : (s t : State) (x n : ℕ) (e : Recorded) → OrderFits s → fault s x n e ≡ Ok t → OrderFits t
fault_order s t x n e i h = fault_any OrderFits s t x n e (λ change _. by change) (λ id b ops _. by (Write id b ops)) h
  where
    by : (change : Change) → OrderFits (after_fault s x n change)
    by change = follow_order s (after_fault s x n change) (λ b. omega arith) (λ c. ((down_calm s x).clients c).follows) i

pub kept_order : (s : State) (x : ℕ) (change : Change) → OrderFits s → OrderFits (kept_at s x change)
kept_order s x (Write id b ops) i = follow_order s (kept_at s x (Write id b ops))
    (put_each (λ q (u : Bucket). write_count (s.bucket q).history ≤ write_count u.history) s.bucket b (bucket_after (s.bucket b) x id Rw ops) (run_grows (s.bucket b) x id Rw ops).count (λ q. omega arith))
    (λ c. (same_passes s (s.client c)).follows) i
kept_order s x (changes.SetStatus b st) i = calm_order s _ (kept_calm s x (changes.SetStatus b st) tt) i
kept_order s x (changes.AddRows b z page) i = calm_order s _ (kept_calm s x (changes.AddRows b z page) tt) i
kept_order s x (changes.Wipe b n) i = calm_order s _ (kept_calm s x (changes.Wipe b n) tt) i
kept_order s x (changes.Forget b) i = calm_order s _ (kept_calm s x (changes.Forget b) tt) i

pub restart_order : (s t : State) (x : ℕ) (kept : Bool) (by : RestartBy) → OrderFits s → restart s x kept by ≡ Ok t → OrderFits t
restart_order s t x kept by i e =
    restart_any OrderFits s t x kept by (λ u os h. record { known = h.known; posted = h.posted; after = h.after; kept = h.kept }) i (calm_order s _ (bare_calm s x) i) (λ change _. kept_order s x change i) e

-- ---- every event

pub step_order : (own : ℕ → ℕ) (s t : State) (e : Event) → Inner own s → UpFits s → AnswersFit s → OrderFits s → step s e ≡ Ok t → OrderFits t
step_order own s t (Post c x) n u g i h = calm_order s t (post_calm s t c x h) i
step_order own s t (Begin c) n u g i h = calm_order s t (begin_calm s t c h) i
step_order own s t (Act c) n u g i h = act_order s t c i h
step_order own s t (End c) n u g i h = calm_order s t (end_calm s t c h) i
step_order own s t (Take c) n u g i h = take_order s t c g i h
step_order own s t (Cut o) n u g i h = calm_order s t (cut_calm s t o h) i
step_order own s t (Start o) n u g i h = calm_order s t (start_calm s t o h) i
step_order own s t (Haul o x d) n u g i h = calm_order s t (haul_calm s t o x d h) i
step_order own s t (NotYet x b) n u g i h = calm_order s t (wait_calm s t x b h) i
step_order own s t (Freeze x b) n u g i h = calm_order s t (freeze_calm s t x b h) i
step_order own s t (Chunk x b) n u g i h = calm_order s t (chunk_calm s t x b h) i
step_order own s t (Seal x b) n u g i h = calm_order s t (seal_calm s t x b h) i
step_order own s t (Last x b) n u g i h = calm_order s t (last_calm s t x b h) i
step_order own s t (Abort x b) n u g i h = calm_order s t (abort_calm s t x b h) i
step_order own s t (EndMove x b) n u g i h = calm_order s t (end_move_calm s t x b h) i
step_order own s t (Deliver x y) n u g i h = calm_order s t (deliver_calm s t x y h) i
step_order own s t (Hear x y) n u g i h = calm_order s t (hear_calm s t x y h) i
step_order own s t (Close o) n u g i h = calm_order s t (close_calm s t o h) i
step_order own s t (Ask x b) n u g i h = calm_order s t (ask_calm s t x b h) i
step_order own s t (Condemn x b) n u g i h = calm_order s t (condemn_calm s t x b h) i
step_order own s t (Wipe x b) n u g i h = calm_order s t (wipe_calm s t x b h) i
step_order own s t (Forget x b) n u g i h = calm_order s t (forget_calm s t x b h) i
step_order own s t (Pin o) n u g i h = calm_order s t (pin_calm s t o h) i
step_order own s t (Plan o) n u g i h = calm_order s t (plan_calm s t o h) i
step_order own s t (Stop o) n u g i h = calm_order s t (stop_calm s t o h) i
step_order own s t (Fault x k v) n u g i h = fault_order s t x k v i h
step_order own s t (Restart x kept by) n u g i h = restart_order s t x kept by i h
