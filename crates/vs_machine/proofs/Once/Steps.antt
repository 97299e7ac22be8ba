-- Each call acts once at most, and is a call of its script: kept by every kind of event.
use Rattle.std.proofs.Common.{◌≡◌, ℕ, inl, inr, ◌-◌, ◌<◌, Bool, true, false, refl, sym, subst, ◌∙◌, arith, List, [], ◌∷◌, ◌++◌, append_assoc, length, Some, Ok}
use Rattle.std.specs.Prelude.{◌⊎◌, ◌&&◌, if◌then◌else◌, slice_get, All}
use Rattle.std.proofs.lemmas.Bool.{eq-eqb}
use Rattle.std.proofs.lemmas.List.{append-nil}
use Rattle.std.proofs.lemmas.List.Elements.{All-cons, All-head, All-tail, All-push, All-append, All-weaker}
use Rattle.vs_base.specs.declared.numbers.CallId.{CallId}
use Rattle.vs_base.specs.declared.numbers.Mode.{Mode}
use Rattle.vs_base.specs.declared.numbers.Mode.TheVariants.{Ro, Rw}
use Rattle.vs_rows.specs.Operations.{answers_to}
use Rattle.vs_rows.specs.declared.op.Op.{Op}
use Rattle.vs_calls.specs.declared.stage.Stage.{Stage}
use Rattle.vs_calls.specs.Progress.{acted, taken, lost, outcome_of, is_running, is_at_set}
use Rattle.vs_event.specs.declared.event.Event.{Event}
use Rattle.vs_event.specs.declared.event.Event.TheVariants.{Post, Begin, Act, End, Take, Cut, Start, Haul, NotYet, Freeze, Chunk, Seal, Last, Abort, EndMove, Deliver, Hear, Close, Ask, Condemn, Wipe, Forget, Pin, Plan, Stop, Fault, Restart}
use Rattle.vs_event.specs.declared.event.Recorded.{Recorded}
use Rattle.vs_event.specs.declared.event.RestartBy.{RestartBy}
use Rattle.vs_history.specs.History.{Entry, History}
use Rattle.vs_record.specs.Change as changes
use Rattle.vs_record.specs.Change.{Change, Write}
use Rattle.vs_script.specs.Calls.{Call}
use Rattle.vs_machine.specs.Tables.{put}
use Rattle.vs_machine.specs.State.{State, Bucket, Client, next_call, call_id, is_set, with_progress}
use Rattle.vs_machine.specs.History.{IsOther, IsOnce, IsCallOf, scripts_of}
use Rattle.vs_machine.specs.Kinds.Calls.{act, after_act, take, after_take, bucket_after, place_of}
use Rattle.vs_machine.specs.Kinds.Stops.{lost_at, gone_down, fault, after_fault, restart, kept_at}
use Rattle.vs_machine.specs.Step.{step}
use Rattle.vs_machine.specs.Whole.{Inner}
use Rattle.vs_machine.specs.Inner.Answers.{AnswersFit}
use Rattle.vs_machine.specs.Inner.Down.{UpFits, PendingFits}
use Rattle.vs_machine.specs.Inner.Once.{IsPast, IsAbsent, IdsFit, OnceFits, all_entries}
use Rattle.vs_machine.proofs.Frame.{put_each, put_here, put_split}
use Rattle.vs_machine.proofs.Numbers.{All-before, All-behind}
use Rattle.vs_machine.proofs.Can.Calls.{can_act, can_take}
use Rattle.vs_machine.proofs.Order.Calm.{Calm, down_calm, bare_calm, kept_calm, pending_elsewhere, post_calm, begin_calm, end_calm, cut_calm, start_calm, haul_calm, wait_calm, freeze_calm, chunk_calm, seal_calm, last_calm, abort_calm, end_move_calm, deliver_calm, hear_calm, close_calm, ask_calm, condemn_calm, wipe_calm, forget_calm, pin_calm, plan_calm, stop_calm}
use Rattle.vs_machine.proofs.Order.Growing.{run_all}
use Rattle.vs_machine.proofs.Order.Passing.{Follows, same_passes, running_unacted}
use Rattle.vs_machine.proofs.Order.Steps.{act_follows}
use Rattle.vs_machine.proofs.Order.Stops.{Wrote, fault_any, fault_calm, restart_any}

-- ---- clients that move on

abbrev entry_of : CallId → List Op → Entry
entry_of id ops = record { id = id; ops = ops; answers = []; place = 0 }

-- the script stays, and each call that has acted has acted
record Onward (old new : Client) : Type 0 where
  script : new.script ≡ old.script
  past : (n : ℕ) → IsPast old.present n → IsPast new.present n

follows_onward : (s : State) (old new : Client) → Follows s old new → Onward old new
follows_onward s old new f = record { script = f.script; past = past }
  where
    past : (n : ℕ) → IsPast old.present n → IsPast new.present n
    past n (inl lt) = inl (subst (λ m. n < m) (sym f.number) lt)
    past n (inr h) = inr (h.0 ∙ sym f.number, f.acted h.1)

same_onward : (s : State) (c : Client) → Onward c c
same_onward s c = follows_onward s c c (same_passes s c).follows

call_onward : (cs ds : ℕ → Client) → ((c : ℕ) → Onward (cs c) (ds c)) → (b : ℕ) (m : Mode) (e : Entry) → IsCallOf (λ c. (cs c).script) b m e → IsCallOf (λ c. (ds c).script) b m e
call_onward cs ds on b m e h = (h.0, subst (λ ks. slice_get ks (e.id.call - 1) ≡ Some (record { mode = m; bucket = b; ops = e.ops })) (sym (on e.id.client).script) h.1)

ids_onward : (cs ds : ℕ → Client) → ((c : ℕ) → Onward (cs c) (ds c)) → (b : ℕ) (h : History) → IdsFit cs b h → IdsFit ds b h
ids_onward cs ds on b h f = record {
  past = All-weaker (λ (e : Entry). IsPast (cs e.id.client).present e.id.call) (λ (e : Entry). IsPast (ds e.id.client).present e.id.call) (λ e. (on e.id.client).past e.id.call) (all_entries h) f.past;
  once = f.once;
  writes_called = All-weaker (IsCallOf (λ c. (cs c).script) b Rw) (IsCallOf (λ c. (ds c).script) b Rw) (call_onward cs ds on b Rw) h.writes f.writes_called;
  reads_called = All-weaker (IsCallOf (λ c. (cs c).script) b Ro) (IsCallOf (λ c. (ds c).script) b Ro) (call_onward cs ds on b Ro) h.reads f.reads_called;
}

-- where no history changes, and no write is pending that wasn't
onward_once : (s t : State) → ((b : ℕ) → (t.bucket b).history ≡ (s.bucket b).history) → ((c : ℕ) → Onward (s.client c) (t.client c))
    → ((z b : ℕ) (id : CallId) (ops : List Op) → t.pending z ≡ Some (Write id b ops) → s.pending z ≡ Some (Write id b ops)) → OnceFits s → OnceFits t
onward_once s t same on back i = record {
  entries = λ b. subst (IdsFit t.client b) (sym (same b)) (ids_onward s.client t.client on b (s.bucket b).history (i.entries b));
  past = λ x b id ops h. (on id.client).past id.call (i.past x b id ops (back x b id ops h));
  called = λ x b id ops h. call_onward s.client t.client on b Rw (entry_of id ops) (i.called x b id ops (back x b id ops h));
  absent = λ x b d id ops h. subst (λ (g : History). IsAbsent id (all_entries g)) (sym (same d)) (i.absent x b d id ops (back x b id ops h));
  apart = λ x y b d id ops more h g. i.apart x y b d id ops more (back x b id ops h) (back y d id more g);
}

pub calm_once : (s t : State) → Calm s t → OnceFits s → OnceFits t
calm_once s t q i = onward_once s t q.histories (λ c. follows_onward s (s.client c) (t.client c) (q.clients c).follows) q.pendings i

pub take_once : (s t : State) (c : ℕ) → OnceFits s → take s c ≡ Ok t → OnceFits t
take_once s t c i e =
    let was = s.client c in
    let new : Client = record was { answered = was.answered ++ outcome_of was.present ∷ []; present = taken was.present } in
    subst OnceFits (can_take s t c e).gives (onward_once s (after_take s c) (λ b. refl)
    (put_each (λ q (u : Client). Onward (s.client q) u) s.client c new (record { script = refl; past = λ n h. elim h [ inl lt ↦ inl (omega (arith, lt)) | inr p ↦ inl (omega (arith, p.0)) ] }) (λ q. same_onward s (s.client q)))
    (λ z b id ops h. h) i)

-- ---- a history with one entry more

once_between : (xs ys : List Entry) (e : Entry) → IsOnce (xs ++ ys) → All (λ f. IsOther f e) (xs ++ ys) → IsOnce (xs ++ e ∷ ys)
once_between [] ys e o h = (All-weaker (λ f. IsOther f e) (IsOther e) (λ f g a. g (sym a)) ys h, o)
once_between (x ∷ xs) ys e o h =
    let P : Entry → Type 0 = IsOther x in
    (All-append P xs (e ∷ ys) (All-before P xs ys o.0) (All-cons P e ys (All-head (λ f. IsOther f e) x (xs ++ ys) h) (All-behind P xs ys o.0)), once_between xs ys e o.1 (All-tail (λ f. IsOther f e) x (xs ++ ys) h))

-- a call of its script that is past and stood nowhere, runs
run_ids : (cs : ℕ → Client) (q : ℕ) (b : Bucket) (x : ℕ) (id : CallId) (mode : Mode) (ops : List Op) → IdsFit cs q b.history → IsPast (cs id.client).present id.call → IsAbsent id (all_entries b.history)
    → IsCallOf (λ c. (cs c).script) q mode (entry_of id ops) → IdsFit cs q (bucket_after b x id mode ops).history
run_ids cs q b x id mode ops f past none called = by mode called
  where
    pasts : (m : Mode) → All (λ (e : Entry). IsPast (cs e.id.client).present e.id.call) (all_entries (bucket_after b x id m ops).history)
    pasts m = run_all (λ (e : Entry). IsPast (cs e.id.client).present e.id.call) b x id m ops f.past (λ e is. subst (λ (v : CallId). IsPast (cs v.client).present v.call) (sym is) past)

    onces : (m : Mode) → IsOnce (all_entries (bucket_after b x id m ops).history)
    onces Rw = let h = b.history in subst IsOnce (sym (append_assoc h.writes (_ ∷ []) h.reads)) (once_between h.writes h.reads _ f.once none)
    onces Ro =
        let h = b.history in
        let all = append-nil (h.writes ++ h.reads) in
        let e : Entry = record { id = id; ops = ops; answers = answers_to (b.rows x) ops; place = place_of b x Ro } in
        subst IsOnce (append_assoc h.writes h.reads (e ∷ [])) (once_between (h.writes ++ h.reads) [] e (subst IsOnce (sym all) f.once) (subst (All (λ g. IsOther g e)) (sym all) none))

    by : (m : Mode) → IsCallOf (λ c. (cs c).script) q m (entry_of id ops) → IdsFit cs q (bucket_after b x id m ops).history
    by Rw h = record { past = pasts Rw; once = onces Rw; writes_called = All-push (IsCallOf (λ c. (cs c).script) q Rw) b.history.writes _ f.writes_called h; reads_called = f.reads_called }
    by Ro h = record { past = pasts Ro; once = onces Ro; writes_called = f.writes_called; reads_called = All-push (IsCallOf (λ c. (cs c).script) q Ro) b.history.reads _ f.reads_called h }

-- ---- a call that runs

module _ (s : State) (c : ℕ) (k : Call) (runs : is_running (s.client c).present.stage ≡ true) (called : next_call (s.client c) ≡ Some k) (g : AnswersFit s) (i : OnceFits s) where
  -- it isn't past
  pub not_mine : (id : CallId) → IsPast (s.client id.client).present id.call → id ≡ call_id c (s.client c) → ⊥
  not_mine id p is = by (subst (λ (v : CallId). IsPast (s.client v.client).present v.call) is p)
    where
      by : IsPast (s.client c).present (s.client c).present.number → ⊥
      by (inl lt) = absurd (omega (arith, lt))
      by (inr h) = running_unacted (s.client c).present.stage runs h.1

  -- it stands nowhere
  pub nowhere : (d : ℕ) → IsAbsent (call_id c (s.client c)) (all_entries (s.bucket d).history)
  nowhere d = All-weaker (λ (e : Entry). IsPast (s.client e.id.client).present e.id.call) (λ (e : Entry). e.id ≡ call_id c (s.client c) → ⊥) (λ e p is. not_mine e.id p is) (all_entries (s.bucket d).history) (i.entries d).past

  -- it is a call of its script
  pub of_script : IsCallOf (scripts_of s) k.bucket k.mode (entry_of (call_id c (s.client c)) k.ops)
  of_script =
      let n = g.numbered c in
      let before : length (s.client c).answered ≡ (s.client c).present.number - 1 = omega (arith, n) in
      (omega (arith, n), subst (λ m. slice_get (s.client c).script m ≡ Some k) before called)

pub act_once : (s t : State) (c : ℕ) → AnswersFit s → OnceFits s → act s c ≡ Ok t → OnceFits t
act_once s t c g i e =
    let p = can_act s t c e in
    let k = p.k in
    let old = s.client c in
    let b = s.bucket k.bucket in
    let id = call_id c old in
    let next : Bucket = bucket_after b p.x id k.mode k.ops in
    let new : Client = with_progress old (acted old.present (place_of b p.x k.mode) (answers_to (b.rows p.x) k.ops)) in
    let cs : ℕ → Client = put s.client c new in
    let on : (q : ℕ) → Onward (s.client q) (cs q) =
    put_each (λ q (u : Client). Onward (s.client q) u) s.client c new (follows_onward s old new (act_follows s old _ _ p.running)) (λ q. same_onward s (s.client q)) in
    let mine : IsPast new.present old.present.number = inr (refl, tt) in
    let past : IsPast (cs c).present old.present.number = subst (λ (u : Client). IsPast u.present old.present.number) (sym (put_here s.client c new)) mine in
    let here : IdsFit cs k.bucket next.history = run_ids cs k.bucket b p.x id k.mode k.ops (ids_onward s.client cs on k.bucket b.history (i.entries k.bucket)) past
    (nowhere s c k p.running p.called g i k.bucket) (call_onward s.client cs on k.bucket k.mode (entry_of id k.ops) (of_script s c k p.running p.called g i)) in
    let made : OnceFits (after_act s c k p.x) = record {
      entries = put_each (λ q (u : Bucket). IdsFit cs q u.history) s.bucket k.bucket next here (λ q. ids_onward s.client cs on q (s.bucket q).history (i.entries q));
      past = λ z q v ops h. (on v.client).past v.call (i.past z q v ops h);
      called = λ z q v ops h. call_onward s.client cs on q Rw (entry_of v ops) (i.called z q v ops h);
      absent = λ z q d v ops h. put_each (λ r (u : Bucket). IsAbsent v (all_entries (s.bucket r).history) → IsAbsent v (all_entries u.history)) s.bucket k.bucket next
          (λ f. run_all (λ (y : Entry). y.id ≡ v → ⊥) b p.x id k.mode k.ops f (λ y is same. not_mine s c k p.running p.called g i v (i.past z q v ops h) (sym same ∙ is))) (λ r f. f) d (i.absent z q d v ops h);
      apart = i.apart;
    } in
    subst OnceFits p.gives made

-- ---- fault

-- a call that ran at a set which goes down is past
lost_mine : (x : ℕ) (u : Client) → is_running u.present.stage ≡ true → u.present.set ≡ Some x → IsPast (lost_at x u).present u.present.number
lost_mine x u runs at = by (is_at_set u.present.stage && is_set u.present.set x) there
  where
    stands : (st : Stage) → is_running st ≡ true → is_at_set st ≡ true
    stands st h = grind arith

    there : (is_at_set u.present.stage && is_set u.present.set x) ≡ true
    there = rw (stands u.present.stage runs, at, eq-eqb x x refl) refl

    by : (t : Bool) → t ≡ true → IsPast (if t then with_progress u (lost u.present) else u).present u.present.number
    by true e = inr (refl, tt)
    by false e = absurd cc

module _ (s : State) (x m : ℕ) (id : CallId) (b : ℕ) (ops : List Op) (w : Wrote s x id b ops) (g : AnswersFit s) (i : OnceFits s) where
  down : OnceFits (gone_down s x)
  down = calm_once s (gone_down s x) (down_calm s x) i

  on : (c : ℕ) → Onward (s.client c) (lost_at x (s.client c))
  on c = follows_onward s (s.client c) (lost_at x (s.client c)) ((down_calm s x).clients c).follows

  other : (v : CallId) → IsPast (s.client v.client).present v.call → v ≡ id → ⊥
  other v p is = not_mine s w.c w.k w.running w.called g i v p (is ∙ sym w.id_is)

  past_now : IsPast (lost_at x (s.client id.client)).present id.call
  past_now = subst (λ (v : CallId). IsPast (lost_at x (s.client v.client)).present v.call) w.id_is (lost_mine x (s.client w.c) w.running w.set)

  called_now : IsCallOf (λ c. (lost_at x (s.client c)).script) b Rw (entry_of id ops)
  called_now =
      call_onward s.client (λ c. lost_at x (s.client c)) on b Rw (entry_of id ops)
      (subst (λ v. IsCallOf (scripts_of s) b Rw (entry_of v ops)) w.id_is (subst (λ (k : Call). IsCallOf (scripts_of s) k.bucket k.mode (entry_of (call_id w.c (s.client w.c)) k.ops)) w.call_is (of_script s w.c w.k w.running w.called g i)))

  absent_now : (d : ℕ) → IsAbsent id (all_entries (s.bucket d).history)
  absent_now d = subst (λ v. IsAbsent v (all_entries (s.bucket d).history)) w.id_is (nowhere s w.c w.k w.running w.called g i d)

  -- this write is pending from now on, or one that was
  split : (z : ℕ) {o : Change} → put s.pending x (Some (Write id b ops)) z ≡ Some o → ((z ≡ x) × (Write id b ops ≡ o)) ⊎ (s.pending z ≡ Some o)
  split z {o} h = elim (put_split s.pending x (Some (Write id b ops)) z (Some o) h) [ inl e ↦ inl (e.0, cc (e.1)) | inr e ↦ inr e.1 ]

  same_id : (v : CallId) (q : ℕ) (more : List Op) → Write id b ops ≡ Write v q more → id ≡ v
  same_id v q more e = cc

  same_bucket : (v : CallId) (q : ℕ) (more : List Op) → Write id b ops ≡ Write v q more → b ≡ q
  same_bucket v q more e = cc

  same_ops : (v : CallId) (q : ℕ) (more : List Op) → Write id b ops ≡ Write v q more → ops ≡ more
  same_ops v q more e = cc

  pub wrote_once : OnceFits (after_fault s x m (Write id b ops))
  wrote_once = record {
    entries = down.entries;
    past = λ z q v more h. elim (split z h) [
      | inl e ↦ subst (λ (u : CallId). IsPast (lost_at x (s.client u.client)).present u.call) (same_id v q more e.1) past_now
      | inr e ↦ down.past z q v more e
    ];
    called = λ z q v more h. elim (split z h) [
      | inl e ↦
          let scripts : ℕ → List Call = λ c. (lost_at x (s.client c)).script in
          subst (λ u. IsCallOf scripts q Rw (entry_of u more)) (same_id v q more e.1) (subst (λ os. IsCallOf scripts q Rw (entry_of id os)) (same_ops v q more e.1) (subst (λ r. IsCallOf scripts r Rw (entry_of id ops)) (same_bucket v q more e.1) called_now))
      | inr e ↦ down.called z q v more e
    ];
    absent = λ z q d v more h. elim (split z h) [
      | inl e ↦ subst (λ u. IsAbsent u (all_entries (s.bucket d).history)) (same_id v q more e.1) (absent_now d)
      | inr e ↦ i.absent z q d v more e
    ];
    apart = λ z y q d v more most h f. elim (split z h) [
      | inl e ↦ elim (split y f) [ inl a ↦ e.0 ∙ sym a.0 | inr a ↦ absurd (other v (i.past y d v most a) (sym (same_id v q more e.1))) ]
      | inr e ↦ elim (split y f) [ inl a ↦ absurd (other v (i.past z q v more e) (sym (same_id v d most a.1))) | inr a ↦ i.apart z y q d v more most e a ]
    ];
  }

pub fault_once : (s t : State) (x n : ℕ) (e : Recorded) → AnswersFit s → OnceFits s → fault s x n e ≡ Ok t → OnceFits t
fault_once s t x n e g i h = fault_any OnceFits s t x n e (λ change none. calm_once s _ (fault_calm s x n change none) i) (λ id b ops w. wrote_once s x n id b ops w g i) h

-- ---- restart

pub kept_once : (s : State) (x : ℕ) (change : Change) → s.pending x ≡ Some change → OnceFits s → OnceFits (kept_at s x change)
kept_once s x (Write id b ops) is i =
    let old = s.bucket b in
    let next : Bucket = bucket_after old x id Rw ops in
    record {
      entries = put_each (λ q (u : Bucket). IdsFit s.client q u.history) s.bucket b next (run_ids s.client b old x id Rw ops (i.entries b) (i.past x b id ops is) (i.absent x b b id ops is) (i.called x b id ops is)) i.entries;
      past = λ z q v more h. i.past z q v more (pending_elsewhere s x z h).1;
      called = λ z q v more h. i.called z q v more (pending_elsewhere s x z h).1;
      absent = λ z q d v more h.
          let at = pending_elsewhere s x z h in
          put_each (λ r (u : Bucket). IsAbsent v (all_entries (s.bucket r).history) → IsAbsent v (all_entries u.history)) s.bucket b next
          (λ f. run_all (λ (y : Entry). y.id ≡ v → ⊥) old x id Rw ops f (λ y same there. at.0 (i.apart z x q b v more ops at.1 (subst (λ u. s.pending x ≡ Some (Write u b ops)) (sym same ∙ there) is)))) (λ r f. f) d (i.absent z q d v more at.1);
      apart = λ z y q d v more most h f. i.apart z y q d v more most (pending_elsewhere s x z h).1 (pending_elsewhere s x y f).1;
    }
kept_once s x (changes.SetStatus b st) is i = calm_once s _ (kept_calm s x (changes.SetStatus b st) tt) i
kept_once s x (changes.AddRows b z page) is i = calm_once s _ (kept_calm s x (changes.AddRows b z page) tt) i
kept_once s x (changes.Wipe b n) is i = calm_once s _ (kept_calm s x (changes.Wipe b n) tt) i
kept_once s x (changes.Forget b) is i = calm_once s _ (kept_calm s x (changes.Forget b) tt) i

pub restart_once : (s t : State) (x : ℕ) (kept : Bool) (by : RestartBy) → OnceFits s → restart s x kept by ≡ Ok t → OnceFits t
restart_once s t x kept by i e =
    restart_any OnceFits s t x kept by (λ u os h. record { entries = h.entries; past = h.past; called = h.called; absent = h.absent; apart = h.apart }) i (calm_once s _ (bare_calm s x) i) (λ change is. kept_once s x change is i) e

-- ---- every event

pub step_once : (own : ℕ → ℕ) (s t : State) (e : Event) → Inner own s → AnswersFit s → PendingFits own s → UpFits s → OnceFits s → step s e ≡ Ok t → OnceFits t
step_once own s t (Post c x) n g d u i h = calm_once s t (post_calm s t c x h) i
step_once own s t (Begin c) n g d u i h = calm_once s t (begin_calm s t c h) i
step_once own s t (Act c) n g d u i h = act_once s t c g i h
step_once own s t (End c) n g d u i h = calm_once s t (end_calm s t c h) i
step_once own s t (Take c) n g d u i h = take_once s t c i h
step_once own s t (Cut o) n g d u i h = calm_once s t (cut_calm s t o h) i
step_once own s t (Start o) n g d u i h = calm_once s t (start_calm s t o h) i
step_once own s t (Haul o x y) n g d u i h = calm_once s t (haul_calm s t o x y h) i
step_once own s t (NotYet x b) n g d u i h = calm_once s t (wait_calm s t x b h) i
step_once own s t (Freeze x b) n g d u i h = calm_once s t (freeze_calm s t x b h) i
step_once own s t (Chunk x b) n g d u i h = calm_once s t (chunk_calm s t x b h) i
step_once own s t (Seal x b) n g d u i h = calm_once s t (seal_calm s t x b h) i
step_once own s t (Last x b) n g d u i h = calm_once s t (last_calm s t x b h) i
step_once own s t (Abort x b) n g d u i h = calm_once s t (abort_calm s t x b h) i
step_once own s t (EndMove x b) n g d u i h = calm_once s t (end_move_calm s t x b h) i
step_once own s t (Deliver x y) n g d u i h = calm_once s t (deliver_calm s t x y h) i
step_once own s t (Hear x y) n g d u i h = calm_once s t (hear_calm s t x y h) i
step_once own s t (Close o) n g d u i h = calm_once s t (close_calm s t o h) i
step_once own s t (Ask x b) n g d u i h = calm_once s t (ask_calm s t x b h) i
step_once own s t (Condemn x b) n g d u i h = calm_once s t (condemn_calm s t x b h) i
step_once own s t (Wipe x b) n g d u i h = calm_once s t (wipe_calm s t x b h) i
step_once own s t (Forget x b) n g d u i h = calm_once s t (forget_calm s t x b h) i
step_once own s t (Pin o) n g d u i h = calm_once s t (pin_calm s t o h) i
step_once own s t (Plan o) n g d u i h = calm_once s t (plan_calm s t o h) i
step_once own s t (Stop o) n g d u i h = calm_once s t (stop_calm s t o h) i
step_once own s t (Fault x k v) n g d u i h = fault_once s t x k v g i h
step_once own s t (Restart x kept by) n g d u i h = restart_once s t x kept by i h
