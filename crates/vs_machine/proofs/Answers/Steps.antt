-- Each kind of event keeps what calls were answered.
use Rattle.std.proofs.Common.{◌≡◌, ℕ, inl, inr, ◌+◌, ◌≤◌, Bool, true, false, refl, sym, ap, subst, ◌∙◌, arith, List, [], ◌∷◌, ◌++◌, length, Option, Some, None, Ok}
use Rattle.std.specs.Prelude.{slice_get, All}
use Rattle.std.proofs.lemmas.List.{length-append}
use Rattle.std.proofs.lemmas.List.Elements.{All-weaker}
use Rattle.std.proofs.lemmas.Option.{slice_get_within}
use Rattle.vs_base.specs.declared.numbers.CallId.{CallId}
use Rattle.vs_base.specs.declared.numbers.Mode.{Mode}
use Rattle.vs_base.specs.declared.numbers.Mode.TheVariants.{Ro, Rw}
use Rattle.vs_rows.specs.Operations.{answers_to}
use Rattle.vs_rows.specs.Said.{Said}
use Rattle.vs_rows.specs.declared.op.Op.{Op}
use Rattle.vs_space.specs.declared.status.Cause.{Cause}
use Rattle.vs_space.specs.declared.status.Status.{Status}
use Rattle.vs_space.specs.declared.status.Status.TheVariants.{Active, Pinned, Sending, Receiving, Sent, Garbage}
use Rattle.vs_calls.specs.declared.stage.Stage.{Stage}
use Rattle.vs_calls.specs.declared.stage.Stage.TheVariants as stage
use Rattle.vs_calls.specs.Outcomes.{Outcome, Reply, Lost, Spent}
use Rattle.vs_calls.specs.Progress.{acted, taken, outcome_by, outcome_of, is_held, is_running, is_idle}
use Rattle.vs_event.specs.declared.event.Event.{Event}
use Rattle.vs_event.specs.declared.event.Event.TheVariants.{Post, Begin, Act, End, Take, Cut, Start, Haul, NotYet, Freeze, Chunk, Seal, Last, Abort, EndMove, Deliver, Hear, Close, Ask, Condemn, Wipe, Forget, Pin, Plan, Stop, Fault, Restart}
use Rattle.vs_event.specs.declared.event.Recorded.{Recorded}
use Rattle.vs_event.specs.declared.event.RestartBy.{RestartBy}
use Rattle.vs_history.specs.History.{Entry, History, write_count}
use Rattle.vs_record.specs.Change as changes
use Rattle.vs_record.specs.Change.{Change, Write}
use Rattle.vs_script.specs.Calls.{Call}
use Rattle.vs_machine.specs.Tables.{put}
use Rattle.vs_machine.specs.State.{State, Bucket, Client, Operator, next_call, call_id, with_progress}
use Rattle.vs_machine.specs.History.{IsAnswered, StandsWith, StandsNowhere, entries_of}
use Rattle.vs_machine.specs.Kinds.Calls.{act, after_act, take, after_take, bucket_after, place_of, place_by}
use Rattle.vs_machine.specs.Kinds.Stops.{fault, after_fault, restart, kept_at}
use Rattle.vs_machine.specs.Step.{step}
use Rattle.vs_machine.specs.Whole.{Inner}
use Rattle.vs_machine.specs.Inner.Answers.{HasAnswers, PlaceFits, HasStood, AnswersFit, OrderFits}
use Rattle.vs_machine.specs.Inner.Calls.{ReadFits, HoldFits}
use Rattle.vs_machine.specs.Inner.Once.{IsPast, HasActed, OnceFits}
use Rattle.vs_machine.proofs.Frame.{put_each, put_here, put_split}
use Rattle.vs_machine.proofs.Histories.{slice_get-push}
use Rattle.vs_machine.proofs.Can.Calls.{can_act, can_take}
use Rattle.vs_machine.proofs.Kept.Acting.{held_at}
use Rattle.vs_machine.proofs.Order.Calm.{Calm, down_calm, bare_calm, kept_calm, pending_elsewhere, post_calm, begin_calm, end_calm, cut_calm, start_calm, haul_calm, wait_calm, freeze_calm, chunk_calm, seal_calm, last_calm, abort_calm, end_move_calm, deliver_calm, hear_calm, close_calm, ask_calm, condemn_calm, wipe_calm, forget_calm, pin_calm, plan_calm, stop_calm}
use Rattle.vs_machine.proofs.Order.Growing.{Grows, same_grows, run_grows, run_all, run_stands, stands_on}
use Rattle.vs_machine.proofs.Order.Passing.{Follows, Passes, same_passes, script_back, answer_back, called_back}
use Rattle.vs_machine.proofs.Order.Steps.{act_follows, replied}
use Rattle.vs_machine.proofs.Order.Stops.{Wrote, fault_any, fault_calm, restart_any}

-- ---- a call that has its answers

-- the same of one client and one bucket
record StoodIn (b : Bucket) (c : ℕ) (u : Client) (k : Call) : Type 0 where
  place : ℕ
  answers : List Said
  said : u.present.said ≡ Some (place, answers)
  stands : StandsWith (entries_of b.history k.mode) (call_id c u) place answers
  placed : PlaceFits k.mode u.present.writes (write_count b.history) place

stood_of : (t : State) (c : ℕ) (k : Call) → StoodIn (t.bucket k.bucket) c (t.client c) k → HasStood t c k
stood_of t c k h = record { place = h.place; answers = h.answers; said = h.said; stands = h.stands; placed = h.placed }

placed_on : (m : Mode) (posted now later place : ℕ) → now ≤ later → PlaceFits m posted now place → PlaceFits m posted later place
placed_on Ro posted now later place le h = (h.0, omega (arith, le, h.1))
placed_on Rw posted now later place le h = (h.0, omega (arith, le, h.1))

stood_on : (s : State) (c : ℕ) (new : Client) (b : Bucket) (k : Call) → Passes s (s.client c) new → Grows (s.bucket k.bucket).history b.history → (HasAnswers (s.client c).present.stage → HasStood s c k) → HasAnswers new.present.stage → StoodIn b c new k
stood_on s c new b k p g has h =
    let q = p.answers h in
    let old = has q.0 in
    let id : CallId → Type 0 = λ i. StandsWith (entries_of b.history k.mode) i old.place old.answers in
    record {
      place = old.place;
      answers = old.answers;
      said = q.1 ∙ old.said;
      stands = subst (λ n. id (record { client = c; call = n })) (sym p.follows.number) (stands_on (s.bucket k.bucket).history b.history k.mode (call_id c (s.client c)) old.place old.answers g old.stands);
      placed = subst (λ w. PlaceFits k.mode w (write_count b.history) old.place) (sym q.2) (placed_on k.mode _ _ _ old.place g.count old.placed);
    }

-- ---- where no answer is taken

abbrev NowhereStays : State → State → Type 0
NowhereStays s t = (c n : ℕ) (cause : Cause) → slice_get (s.client c).answered n ≡ Some (Spent cause) → StandsNowhere s (record { client = c; call = n + 1 }) → StandsNowhere t (record { client = c; call = n + 1 })

abbrev NonePending : State → State → Type 0
NonePending s t = (c n x b : ℕ) (cause : Cause) (ops : List Op) → slice_get (s.client c).answered n ≡ Some (Spent cause) → t.pending x ≡ Some (Write (record { client = c; call = n + 1 }) b ops) → ⊥

follow_answers : (s t : State) → ((b : ℕ) → Grows (s.bucket b).history (t.bucket b).history) → ((c : ℕ) → Follows s (s.client c) (t.client c))
    → ((c : ℕ) (k : Call) → next_call (t.client c) ≡ Some k → HasAnswers (t.client c).present.stage → HasStood t c k)
    → NowhereStays s t → NonePending s t → AnswersFit s → AnswersFit t
follow_answers s t grows moves present nowhere pending i = record {
  numbered = λ c. (moves c).number ∙ i.numbered c ∙ ap (λ (os : List Outcome). length os + 1) (sym (moves c).answered);
  present = present;
  answered = λ c n k o e f. by c n k o (i.answered c n k o (script_back s (s.client c) (t.client c) (moves c) n e) (back c n f)) (back c n f);
  spent = λ c n x b cause ops e f. pending c n x b cause ops (back c n e) f;
}
  where
    back : (c n : ℕ) {o : Option Outcome} → slice_get (t.client c).answered n ≡ o → slice_get (s.client c).answered n ≡ o
    back c n h = answer_back s (s.client c) (t.client c) (moves c) n h

    by : (c n : ℕ) (k : Call) (o : Outcome) → IsAnswered s (record { client = c; call = n + 1 }) k o → slice_get (s.client c).answered n ≡ Some o → IsAnswered t (record { client = c; call = n + 1 }) k o
    by c n k (Reply p a) h f = stands_on (s.bucket k.bucket).history (t.bucket k.bucket).history k.mode (record { client = c; call = n + 1 }) p a (grows k.bucket) h
    by c n k (Spent cause) h f = nowhere c n cause f h
    by c n k Lost h f = tt

pass_answers : (s t : State) → ((b : ℕ) → Grows (s.bucket b).history (t.bucket b).history) → ((c : ℕ) → Passes s (s.client c) (t.client c)) → NowhereStays s t → NonePending s t → AnswersFit s → AnswersFit t
pass_answers s t grows moves nowhere pending i = follow_answers s t grows (λ c. (moves c).follows)
    (λ c k e h. stood_of t c k (stood_on s c (t.client c) (t.bucket k.bucket) k (moves c) (grows k.bucket) (i.present c k (called_back s (s.client c) (t.client c) (moves c).follows e)) h))
    nowhere pending i

same_nowhere : (s t : State) → ((b : ℕ) → (t.bucket b).history ≡ (s.bucket b).history) → NowhereStays s t
same_nowhere s t same c n cause e h = λ b. subst (λ (g : History). All (λ (f : Entry). f.id ≡ (record { client = c; call = n + 1 }) → ⊥) (g.writes ++ g.reads)) (sym (same b)) (h b)

pub calm_answers : (s t : State) → Calm s t → AnswersFit s → AnswersFit t
calm_answers s t q i = pass_answers s t (λ b. same_grows (s.bucket b).history (t.bucket b).history (q.histories b)) q.clients (same_nowhere s t q.histories)
    (λ c n x b cause ops e f. i.spent c n x b cause ops e (q.pendings x b _ ops f)) i

-- ---- act

-- the present call isn't one that was answered
pub unanswered : (s : State) (d c n : ℕ) (o : Outcome) → AnswersFit s → slice_get (s.client c).answered n ≡ Some o → call_id d (s.client d) ≡ record { client = c; call = n + 1 } → ⊥
unanswered s d c n o i e is =
    let same : d ≡ c = ap (λ (u : CallId). u.client) is in
    let number : (s.client d).present.number ≡ n + 1 = ap (λ (u : CallId). u.call) is in
    let here : (s.client c).present.number ≡ n + 1 = subst (λ q. (s.client q).present.number ≡ n + 1) same number in
    let within = slice_get_within (s.client c).answered n o e in
    absurd (omega (arith, here, i.numbered c, within))

-- where a call that reads at a set is placed
read_placed : (b : Bucket) (x posted : ℕ) (e : Option Status) → ReadFits e (b.rows x) b.history (b.kept x) posted → posted ≤ write_count b.history → PlaceFits Ro posted (write_count b.history) (place_by b x e)
read_placed b x posted (Some (Sent d)) h le = (h.fresh, h.within)
read_placed b x posted (Some Active) h le = (le, omega arith)
read_placed b x posted (Some Pinned) h le = (le, omega arith)
read_placed b x posted (Some (Sending d)) h le = (le, omega arith)
read_placed b x posted (Some (Receiving y)) h le = absurd h
read_placed b x posted (Some Garbage) h le = absurd h
read_placed b x posted None h le = absurd h

run_placed : (b : Bucket) (x posted : ℕ) (id : CallId) (mode : Mode) (ops : List Op) → HoldFits b x mode posted → posted ≤ write_count b.history → PlaceFits mode posted (write_count (bucket_after b x id mode ops).history) (place_of b x mode)
run_placed b x posted id Ro ops h le = read_placed b x posted (b.entry x) h le
run_placed b x posted id Rw ops h le = (omega (arith, le), omega (arith, length-append {A = Entry}))

run_held : (st : Stage) → is_running st ≡ true → is_held st ≡ true
run_held st h = grind arith

run_busy : (st : Stage) → is_running st ≡ true → is_idle st ≡ false
run_busy st h = grind arith

pub act_answers : (own : ℕ → ℕ) (s t : State) (c : ℕ) → Inner own s → OrderFits s → AnswersFit s → act s c ≡ Ok t → AnswersFit t
act_answers own s t c n r i e =
    let p = can_act s t c e in
    let k = p.k in
    let old = s.client c in
    let b = s.bucket k.bucket in
    let id = call_id c old in
    let next : Bucket = bucket_after b p.x id k.mode k.ops in
    let new : Client = with_progress old (acted old.present (place_of b p.x k.mode) (answers_to (b.rows p.x) k.ops)) in
    let after = after_act s c k p.x in
    let grown : (q : ℕ) → Grows (s.bucket q).history (put s.bucket k.bucket next q).history =
    put_each (λ q (u : Bucket). Grows (s.bucket q).history u.history) s.bucket k.bucket next (run_grows b p.x id k.mode k.ops) (λ q. same_grows (s.bucket q).history (s.bucket q).history refl) in
    let holds : HoldFits b p.x k.mode old.present.writes = n.clients c k p.x p.called (held_at old.present p.x (run_held old.present.stage p.running) p.set) in
    let posted = r.posted c k p.called (run_busy old.present.stage p.running) in
    let mine : StoodIn next c new k = record {
      place = place_of b p.x k.mode;
      answers = answers_to (b.rows p.x) k.ops;
      said = refl;
      stands = run_stands b p.x id k.mode k.ops;
      placed = run_placed b p.x old.present.writes id k.mode k.ops holds posted;
    } in
    let here : (j : Call) → next_call new ≡ Some j → HasAnswers new.present.stage → StoodIn (put s.bucket k.bucket next j.bucket) c new j = λ j called h.
    let one : k ≡ j = cc (p.called, called) in
    subst (λ (v : Call). StoodIn (put s.bucket k.bucket next v.bucket) c new v) one (subst (λ (u : Bucket). StoodIn u c new k) (sym (put_here s.bucket k.bucket next)) mine) in
    let there : (q : ℕ) (j : Call) → next_call (s.client q) ≡ Some j → HasAnswers (s.client q).present.stage → StoodIn (put s.bucket k.bucket next j.bucket) q (s.client q) j = λ q j called h.
    stood_on s q (s.client q) (put s.bucket k.bucket next j.bucket) j (same_passes s (s.client q)) (grown j.bucket) (i.present q j called) h in
    let stood : (q : ℕ) (j : Call) → next_call (put s.client c new q) ≡ Some j → HasAnswers (put s.client c new q).present.stage → StoodIn (put s.bucket k.bucket next j.bucket) q (put s.client c new q) j =
    put_each (λ q (u : Client). (j : Call) → next_call u ≡ Some j → HasAnswers u.present.stage → StoodIn (put s.bucket k.bucket next j.bucket) q u j) s.client c new here there in
    subst AnswersFit p.gives (follow_answers s after grown
    (put_each (λ q (u : Client). Follows s (s.client q) u) s.client c new (act_follows s old _ _ p.running) (λ q. (same_passes s (s.client q)).follows))
    (λ q j called h. stood_of after q j (stood q j called h))
    (λ d m cause f none. put_each (λ q (u : Bucket). All (λ (g : Entry). g.id ≡ (record { client = d; call = m + 1 }) → ⊥) (u.history.writes ++ u.history.reads)) s.bucket k.bucket next
    (run_all (λ (g : Entry). g.id ≡ (record { client = d; call = m + 1 }) → ⊥) b p.x id k.mode k.ops (none k.bucket) (λ g is same. unanswered s c d m (Spent cause) i f (sym is ∙ same))) none)
    i.spent i)

-- ---- take

spent_by : (st : Stage) (said : Option (ℕ × List Said)) (last : Option Cause) (cause : Cause) → Spent cause ≡ outcome_by st said last → st ≡ stage.Refused
spent_by stage.Ended (Some r) last cause e = absurd cc
spent_by stage.Ended None (Some r) cause e = absurd cc
spent_by stage.Ended None None cause e = absurd cc
spent_by stage.Refused said last cause e = refl
spent_by stage.Idle said last cause e = absurd cc
spent_by stage.Posted said last cause e = absurd cc
spent_by stage.Running said last cause e = absurd cc
spent_by stage.Acted said last cause e = absurd cc
spent_by stage.Lost said last cause e = absurd cc

module _ (s : State) (c : ℕ) (w : OnceFits s) (i : AnswersFit s) where
  abbrev out : Outcome
  out = outcome_of (s.client c).present

  abbrev new : Client
  new = let was = s.client c in record was { answered = was.answered ++ outcome_of was.present ∷ []; present = taken was.present }

  number_is : (n : ℕ) → n ≡ length (s.client c).answered → (s.client c).present.number ≡ n + 1
  number_is n is = i.numbered c ∙ ap (λ m. m + 1) (sym is)

  -- a call that is answered Spent hasn't acted
  not_past : (n : ℕ) (cause : Cause) → n ≡ length (s.client c).answered → Spent cause ≡ out → IsPast (s.client c).present (n + 1) → ⊥
  not_past n cause is e (inl lt) = absurd (omega (arith, lt, number_is n is))
  not_past n cause is e (inr h) = subst HasActed (spent_by (s.client c).present.stage (s.client c).present.said (s.client c).present.cause cause e) h.1

  now : (n : ℕ) (k : Call) (o : Outcome) → slice_get (s.client c).script n ≡ Some k → n ≡ length (s.client c).answered → o ≡ out → IsAnswered s (record { client = c; call = n + 1 }) k o
  now n k (Reply p a) e is f =
      let r = replied s c k p a i (subst (λ m. slice_get (s.client c).script m ≡ Some k) is e) f in
      let es = entries_of (s.bucket k.bucket).history k.mode in
      subst (λ m. StandsWith es (record { client = c; call = m }) p a) (number_is n is)
      (subst (λ q. StandsWith es (call_id c (s.client c)) q a) r.place_is (subst (λ v. StandsWith es (call_id c (s.client c)) r.stood.place v) r.answers_are r.stood.stands))
  now n k (Spent cause) e is f = λ b.
      All-weaker (λ (g : Entry). IsPast (s.client g.id.client).present g.id.call) (λ (g : Entry). g.id ≡ (record { client = c; call = n + 1 }) → ⊥)
      (λ g past same. not_past n cause is f (subst (λ (v : CallId). IsPast (s.client v.client).present v.call) same past)) ((s.bucket b).history.writes ++ (s.bucket b).history.reads) (w.entries b).past
  now n k Lost e is f = tt

  answered_now : (n : ℕ) (k : Call) (o : Outcome) → slice_get (s.client c).script n ≡ Some k → slice_get ((s.client c).answered ++ out ∷ []) n ≡ Some o → IsAnswered s (record { client = c; call = n + 1 }) k o
  answered_now n k o e f = elim (slice_get-push (s.client c).answered out n o f) [ inl h ↦ i.answered c n k o e h | inr h ↦ now n k o e h.0 h.1 ]

  spent_now : (n x b : ℕ) (cause : Cause) (ops : List Op) → slice_get ((s.client c).answered ++ out ∷ []) n ≡ Some (Spent cause) → s.pending x ≡ Some (Write (record { client = c; call = n + 1 }) b ops) → ⊥
  spent_now n x b cause ops f g = elim (slice_get-push (s.client c).answered out n (Spent cause) f) [
    | inl h ↦ i.spent c n x b cause ops h g
    | inr h ↦ not_past n cause h.0 h.1 (w.past x b _ ops g)
  ]

  others : (r : ℕ) (k : Call) → next_call (s.client r) ≡ Some k → HasAnswers (s.client r).present.stage → StoodIn (s.bucket k.bucket) r (s.client r) k
  others r k e h = stood_on s r (s.client r) (s.bucket k.bucket) k (same_passes s (s.client r)) (same_grows (s.bucket k.bucket).history (s.bucket k.bucket).history refl) (i.present r k e) h

  stood : (r : ℕ) (k : Call) → next_call (put s.client c new r) ≡ Some k → HasAnswers (put s.client c new r).present.stage → StoodIn (s.bucket k.bucket) r (put s.client c new r) k
  stood = put_each (λ r (u : Client). (k : Call) → next_call u ≡ Some k → HasAnswers u.present.stage → StoodIn (s.bucket k.bucket) r u k) s.client c new (λ k e h. absurd h) others

  pub taken_answers : AnswersFit (after_take s c)
  taken_answers = record {
    numbered = put_each (λ r (u : Client). u.present.number ≡ length u.answered + 1) s.client c new (let before = i.numbered c in omega (arith, before, length-append (s.client c).answered (out ∷ []))) i.numbered;
    present = λ r k e h. stood_of (after_take s c) r k (stood r k e h);
    answered = put_each (λ r (u : Client). (n : ℕ) (k : Call) (o : Outcome) → slice_get u.script n ≡ Some k → slice_get u.answered n ≡ Some o → IsAnswered s (record { client = r; call = n + 1 }) k o) s.client c new answered_now i.answered;
    spent = put_each (λ r (u : Client). (n x b : ℕ) (cause : Cause) (ops : List Op) → slice_get u.answered n ≡ Some (Spent cause) → s.pending x ≡ Some (Write (record { client = r; call = n + 1 }) b ops) → ⊥) s.client c new spent_now i.spent;
  }

pub take_answers : (s t : State) (c : ℕ) → OnceFits s → AnswersFit s → take s c ≡ Ok t → AnswersFit t
take_answers s t c w i e = subst AnswersFit (can_take s t c e).gives (taken_answers s c w i)

-- ---- fault, restart

wrote_answers : (s : State) (x m : ℕ) (id : CallId) (b : ℕ) (ops : List Op) → Wrote s x id b ops → AnswersFit s → AnswersFit (after_fault s x m (Write id b ops))
wrote_answers s x m id b ops w i =
    let after = after_fault s x m (Write id b ops) in
    let d = down_calm s x in
    pass_answers s after (λ q. same_grows (s.bucket q).history (s.bucket q).history refl) d.clients (same_nowhere s after (λ q. refl))
    (λ c n z q cause more e f. elim (put_split s.pending x (Some (Write id b ops)) z (Some (Write (record { client = c; call = n + 1 }) q more)) f) [
      | inl h ↦ let is : id ≡ (record { client = c; call = n + 1 }) = cc (h.1) in unanswered s w.c c n (Spent cause) i e (w.id_is ∙ is)
      | inr h ↦ i.spent c n z q cause more e h.1
    ])
    i

pub fault_answers : (s t : State) (x n : ℕ) (e : Recorded) → AnswersFit s → fault s x n e ≡ Ok t → AnswersFit t
fault_answers s t x n e i h = fault_any AnswersFit s t x n e (λ change none. calm_answers s _ (fault_calm s x n change none) i) (λ id b ops w. wrote_answers s x n id b ops w i) h

pub kept_answers : (s : State) (x : ℕ) (change : Change) → s.pending x ≡ Some change → AnswersFit s → AnswersFit (kept_at s x change)
kept_answers s x (Write id b ops) is i =
    let after = kept_at s x (Write id b ops) in
    let next : Bucket = bucket_after (s.bucket b) x id Rw ops in
    pass_answers s after (put_each (λ q (u : Bucket). Grows (s.bucket q).history u.history) s.bucket b next (run_grows (s.bucket b) x id Rw ops) (λ q. same_grows (s.bucket q).history (s.bucket q).history refl))
    (λ c. same_passes s (s.client c))
    (λ c n cause f none. put_each (λ q (u : Bucket). All (λ (g : Entry). g.id ≡ (record { client = c; call = n + 1 }) → ⊥) (u.history.writes ++ u.history.reads)) s.bucket b next
    (run_all (λ (g : Entry). g.id ≡ (record { client = c; call = n + 1 }) → ⊥) (s.bucket b) x id Rw ops (none b)
    (λ g same there. i.spent c n x b cause ops f (subst (λ (v : CallId). s.pending x ≡ Some (Write v b ops)) (sym same ∙ there) is))) none)
    (λ c n z q cause more f g. i.spent c n z q cause more f (pending_elsewhere s x z g).1)
    i
kept_answers s x (changes.SetStatus b st) is i = calm_answers s _ (kept_calm s x (changes.SetStatus b st) tt) i
kept_answers s x (changes.AddRows b z page) is i = calm_answers s _ (kept_calm s x (changes.AddRows b z page) tt) i
kept_answers s x (changes.Wipe b n) is i = calm_answers s _ (kept_calm s x (changes.Wipe b n) tt) i
kept_answers s x (changes.Forget b) is i = calm_answers s _ (kept_calm s x (changes.Forget b) tt) i

pub restart_answers : (s t : State) (x : ℕ) (kept : Bool) (by : RestartBy) → AnswersFit s → restart s x kept by ≡ Ok t → AnswersFit t
restart_answers s t x kept by i e = restart_any AnswersFit s t x kept by others i (calm_answers s _ (bare_calm s x) i) (λ change is. kept_answers s x change is i) e
  where
    others : (u : State) (os : ℕ → Operator) → AnswersFit u → AnswersFit (record u { operator = os })
    others u os h = record {
      numbered = h.numbered;
      present = λ c k f g. let old = h.present c k f g in record { place = old.place; answers = old.answers; said = old.said; stands = old.stands; placed = old.placed };
      answered = λ c n k o f g. same k (record { client = c; call = n + 1 }) o (h.answered c n k o f g);
      spent = h.spent;
    }
      where
        same : (k : Call) (id : CallId) (o : Outcome) → IsAnswered u id k o → IsAnswered (record u { operator = os }) id k o
        same k id (Reply p a) f = f
        same k id (Spent cause) f = f
        same k id Lost f = tt

-- ---- every event

pub step_answers : (own : ℕ → ℕ) (s t : State) (e : Event) → Inner own s → OnceFits s → OrderFits s → AnswersFit s → step s e ≡ Ok t → AnswersFit t
step_answers own s t (Post c x) n w r i h = calm_answers s t (post_calm s t c x h) i
step_answers own s t (Begin c) n w r i h = calm_answers s t (begin_calm s t c h) i
step_answers own s t (Act c) n w r i h = act_answers own s t c n r i h
step_answers own s t (End c) n w r i h = calm_answers s t (end_calm s t c h) i
step_answers own s t (Take c) n w r i h = take_answers s t c w i h
step_answers own s t (Cut o) n w r i h = calm_answers s t (cut_calm s t o h) i
step_answers own s t (Start o) n w r i h = calm_answers s t (start_calm s t o h) i
step_answers own s t (Haul o x d) n w r i h = calm_answers s t (haul_calm s t o x d h) i
step_answers own s t (NotYet x b) n w r i h = calm_answers s t (wait_calm s t x b h) i
step_answers own s t (Freeze x b) n w r i h = calm_answers s t (freeze_calm s t x b h) i
step_answers own s t (Chunk x b) n w r i h = calm_answers s t (chunk_calm s t x b h) i
step_answers own s t (Seal x b) n w r i h = calm_answers s t (seal_calm s t x b h) i
step_answers own s t (Last x b) n w r i h = calm_answers s t (last_calm s t x b h) i
step_answers own s t (Abort x b) n w r i h = calm_answers s t (abort_calm s t x b h) i
step_answers own s t (EndMove x b) n w r i h = calm_answers s t (end_move_calm s t x b h) i
step_answers own s t (Deliver x y) n w r i h = calm_answers s t (deliver_calm s t x y h) i
step_answers own s t (Hear x y) n w r i h = calm_answers s t (hear_calm s t x y h) i
step_answers own s t (Close o) n w r i h = calm_answers s t (close_calm s t o h) i
step_answers own s t (Ask x b) n w r i h = calm_answers s t (ask_calm s t x b h) i
step_answers own s t (Condemn x b) n w r i h = calm_answers s t (condemn_calm s t x b h) i
step_answers own s t (Wipe x b) n w r i h = calm_answers s t (wipe_calm s t x b h) i
step_answers own s t (Forget x b) n w r i h = calm_answers s t (forget_calm s t x b h) i
step_answers own s t (Pin o) n w r i h = calm_answers s t (pin_calm s t o h) i
step_answers own s t (Plan o) n w r i h = calm_answers s t (plan_calm s t o h) i
step_answers own s t (Stop o) n w r i h = calm_answers s t (stop_calm s t o h) i
step_answers own s t (Fault x k v) n w r i h = fault_answers s t x k v i h
step_answers own s t (Restart x kept by) n w r i h = restart_answers s t x kept by i h
