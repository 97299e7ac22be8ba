-- What an event makes of a client.
use Rattle.std.proofs.Common.{◌≡◌, ℕ, inl, inr, Bool, true, false, refl, sym, ap, subst, ◌∙◌, List, [], ◌∷◌, ◌++◌, Option, Some, None, Ok}
use Rattle.std.specs.Prelude.{◌≢◌, ◌⊎◌, ◌&&◌, not, if◌then◌else◌}
use Rattle.std.proofs.lemmas.Bool.{cases_eq}
use Rattle.vs_rows.specs.Said.{Said}
use Rattle.vs_calls.specs.Progress.{posted, begun, acted, ended, cut, lost, outcome_of, taken, may_post, is_posted, is_running, is_acted, is_at_set}
use Rattle.vs_event.specs.declared.event.Event.{Event}
use Rattle.vs_event.specs.declared.event.Event.TheVariants.{Post, Begin, Act, End, Take, Cut, Start, Haul, NotYet, Freeze, Chunk, Seal, Last, Abort, EndMove, Deliver, Hear, Close, Ask, Condemn, Wipe, Forget, Pin, Plan, Stop, Fault, Restart}
use Rattle.vs_event.specs.declared.event.RestartBy.{RestartBy}
use Rattle.vs_event.specs.declared.event.RestartBy.TheVariants.{Line, Service}
use Rattle.vs_event.specs.declared.reason.Reason.TheVariants as reason
use Rattle.vs_link.specs.Connection as link
use Rattle.vs_record.specs.Change.{Change}
use Rattle.vs_script.specs.Calls.{Call}
use Rattle.vs_machine.specs.declared.outcome.CommandFault.{CommandFault}
use Rattle.vs_machine.specs.declared.outcome.CommandOutcome.TheVariants.{Done, Late, WasDown, WasUp}
use Rattle.vs_machine.specs.Tables.{put, least_to}
use Rattle.vs_machine.specs.State.{State, sets_of, next_call, next_command, answer, is_set, put_client, put_operator, with_progress}
use Rattle.vs_machine.specs.Step.{step}
use Rattle.vs_machine.specs.Actors.{IsOf}
use Rattle.vs_machine.specs.Actors as actors
use Rattle.vs_machine.specs.Kinds.Calls.{post, after_post, begin, after_begin, act, after_act, «end», after_end, take, after_take, cut_call, call_to_cut, is_answered, is_reached, verdict_at}
use Rattle.vs_machine.specs.Kinds.Connections.{deliver, after_deliver}
use Rattle.vs_machine.specs.Kinds.Faults.{send_fault}
use Rattle.vs_machine.specs.Kinds.Pinning.{Pinning, pinning_fault, pin, after_pin}
use Rattle.vs_machine.specs.Kinds.Rebalancing.{haul, after_haul, bucket_to_haul, plan, plan_round, is_in_move}
use Rattle.vs_machine.specs.Kinds.Sender.{Move, start, after_start}
use Rattle.vs_machine.specs.Kinds.Stops.{lost_at, gone_down, stop, restart, restarted}
use Rattle.vs_machine.proofs.Can.Calls.{can_post, can_begin, can_act, can_end, can_take, can_cut}
use Rattle.vs_machine.proofs.Can.Others.{can_deliver, can_hear, can_close, can_ask, can_condemn, can_wipe, can_forget, can_pin, can_haul, can_plan}
use Rattle.vs_machine.proofs.Can.Sender.{can_start, can_wait, can_freeze, can_chunk, can_seal, can_last, can_abort, can_end_move}
use Rattle.vs_machine.proofs.Can.Stops.{can_stop, can_fault, can_restart, can_restart_line}
use Rattle.vs_machine.proofs.Frame.{put_here, put_there}
use Rattle.vs_machine.proofs.Possible.{ok_is, wants_none_ok}

-- the set of the client's call stays up where it was
abbrev pub StaysUp : State → State → ℕ → Type 0
StaysUp s t c = (x : ℕ) → (is_at_set (s.client c).present.stage && is_set (s.client c).present.set x) ≡ true → s.up x ≡ true → t.up x ≡ true

pub data Turn (s t : State) (c : ℕ) (e : Event) : Type 0 where
  stays : (other : ¬ (IsOf (actors.Client c) e)) (up : StaysUp s t c) (same : t.client c ≡ s.client c) → Turn s t c e
  posts : (x w : ℕ) (k : Call) (is : e ≡ Post c x) (called : next_call (s.client c) ≡ Some k) (ready : may_post (s.client c).present.stage ≡ true)
      (gives : t.client c ≡ with_progress (s.client c) (posted (s.client c).present x w)) → Turn s t c e
  begins : (x : ℕ) (k : Call) (is : e ≡ Begin c) (called : next_call (s.client c) ≡ Some k) (at : (s.client c).present.set ≡ Some x) (ready : is_posted (s.client c).present.stage ≡ true)
      (gives : t.client c ≡ with_progress (s.client c) (begun (s.client c).present (verdict_at s x k))) → Turn s t c e
  acts : (place : ℕ) (answers : List Said) (is : e ≡ Act c) (ready : is_running (s.client c).present.stage ≡ true)
      (gives : t.client c ≡ with_progress (s.client c) (acted (s.client c).present place answers)) → Turn s t c e
  ends : (is : e ≡ End c) (ready : is_acted (s.client c).present.stage ≡ true) (gives : t.client c ≡ with_progress (s.client c) (ended (s.client c).present)) → Turn s t c e
  takes : (is : e ≡ Take c) (gives : t.client c ≡ record (s.client c) { answered = (s.client c).answered ++ outcome_of (s.client c).present ∷ []; present = taken (s.client c).present }) → Turn s t c e
  cuts : (o n : ℕ) (other : ¬ (IsOf (actors.Client c) e)) (is : e ≡ Cut o) (named : call_to_cut (next_command (s.operator o)) ≡ Some (c, n)) (reached : is_reached (s.client c) n ≡ true)
      (present : is_answered (s.client c) n ≡ false) (gives : t.client c ≡ with_progress (s.client c) (cut (s.client c).present)) → Turn s t c e
  falls : (x : ℕ) (other : ¬ (IsOf (actors.Client c) e)) (was : s.up x ≡ true) (down : t.up x ≡ false) (at : is_at_set (s.client c).present.stage ≡ true) (set : is_set (s.client c).present.set x ≡ true)
      (gives : t.client c ≡ with_progress (s.client c) (lost (s.client c).present)) → Turn s t c e

module _ (s : State) (c : ℕ) where
  -- ---- the client's own events

  own_post : (t : State) (d x : ℕ) → post s d x ≡ Ok t → Turn s t c (Post d x)
  own_post t d x h = let p = can_post s t d x h in subst (λ (u : State). Turn s u c (Post d x)) p.gives (by p.k p.called p.ready (cases_eq d c))
    where
      by : (k : Call) → next_call (s.client d) ≡ Some k → may_post (s.client d).present.stage ≡ true → (d ≡ c) ⊎ (d ≢ c) → Turn s (after_post s d x k) c (Post d x)
      by k called ready (inl is) = subst (λ (v : ℕ). Turn s (after_post s d x k) v (Post d x)) is (posts x _ k refl called ready (put_here s.client d _))
      by k called ready (inr ne) = stays (λ own. ne own) (λ y at up. up) (put_there s.client d _ c (λ e. ne (sym e)))

  own_begin : (t : State) (d : ℕ) → begin s d ≡ Ok t → Turn s t c (Begin d)
  own_begin t d h = let p = can_begin s t d h in subst (λ (u : State). Turn s u c (Begin d)) p.gives (by p.k p.x p.called p.set p.posted (cases_eq d c))
    where
      by : (k : Call) (x : ℕ) → next_call (s.client d) ≡ Some k → (s.client d).present.set ≡ Some x → is_posted (s.client d).present.stage ≡ true → (d ≡ c) ⊎ (d ≢ c) → Turn s (after_begin s d k x) c (Begin d)
      by k x called at ready (inl is) = subst (λ (v : ℕ). Turn s (after_begin s d k x) v (Begin d)) is (begins x k refl called at ready (put_here s.client d _))
      by k x called at ready (inr ne) = stays (λ own. ne own) (λ y at up. up) (put_there s.client d _ c (λ e. ne (sym e)))

  own_act : (t : State) (d : ℕ) → act s d ≡ Ok t → Turn s t c (Act d)
  own_act t d h = let p = can_act s t d h in subst (λ (u : State). Turn s u c (Act d)) p.gives (by p.k p.x p.running (cases_eq d c))
    where
      by : (k : Call) (x : ℕ) → is_running (s.client d).present.stage ≡ true → (d ≡ c) ⊎ (d ≢ c) → Turn s (after_act s d k x) c (Act d)
      by k x ready (inl is) = subst (λ (v : ℕ). Turn s (after_act s d k x) v (Act d)) is (acts _ _ refl ready (put_here s.client d _))
      by k x ready (inr ne) = stays (λ own. ne own) (λ y at up. up) (put_there s.client d _ c (λ e. ne (sym e)))

  own_end : (t : State) (d : ℕ) → «end» s d ≡ Ok t → Turn s t c (End d)
  own_end t d h = let p = can_end s t d h in subst (λ (u : State). Turn s u c (End d)) p.gives (by p.acted (cases_eq d c))
    where
      by : is_acted (s.client d).present.stage ≡ true → (d ≡ c) ⊎ (d ≢ c) → Turn s (after_end s d) c (End d)
      by ready (inl is) = subst (λ (v : ℕ). Turn s (after_end s d) v (End d)) is (ends refl ready (put_here s.client d _))
      by ready (inr ne) = stays (λ own. ne own) (λ y at up. up) (put_there s.client d _ c (λ e. ne (sym e)))

  own_take : (t : State) (d : ℕ) → take s d ≡ Ok t → Turn s t c (Take d)
  own_take t d h = let p = can_take s t d h in subst (λ (u : State). Turn s u c (Take d)) p.gives (by (cases_eq d c))
    where
      by : (d ≡ c) ⊎ (d ≢ c) → Turn s (after_take s d) c (Take d)
      by (inl is) = subst (λ (v : ℕ). Turn s (after_take s d) v (Take d)) is (takes refl (put_here s.client d _))
      by (inr ne) = stays (λ own. ne own) (λ y at up. up) (put_there s.client d _ c (λ e. ne (sym e)))

  -- ---- a cut

  cut_turn : (t : State) (o : ℕ) → cut_call s o ≡ Ok t → Turn s t c (Cut o)
  cut_turn t o h = let p = can_cut s t o h in subst (λ (u : State). Turn s u c (Cut o)) p.gives (by p.c p.n p.named p.reached (is_answered (s.client p.c) p.n) refl (cases_eq p.c c))
    where
      by : (d n : ℕ) → call_to_cut (next_command (s.operator o)) ≡ Some (d, n) → is_reached (s.client d) n ≡ true → (late : Bool) → is_answered (s.client d) n ≡ late → (d ≡ c) ⊎ (d ≢ c)
          → Turn s (if late then put_operator s o (answer (s.operator o) Late) else put_operator (put_client s d (with_progress (s.client d) (cut (s.client d).present))) o (answer (s.operator o) Done)) c (Cut o)
      by d n named reached true is same = stays (λ own. own) (λ y at up. up) refl
      by d n named reached false is (inl same) =
          subst (λ (v : ℕ). Turn s (put_operator (put_client s d (with_progress (s.client d) (cut (s.client d).present))) o (answer (s.operator o) Done)) v (Cut o)) same
          (cuts o n (λ own. own) refl named reached is (put_here s.client d _))
      by d n named reached false is (inr ne) = stays (λ own. own) (λ y at up. up) (put_there s.client d _ c (λ e. ne (sym e)))

  -- ---- a set goes down

  down_turn : (e : Event) (u : State) (x : ℕ) → ¬ (IsOf (actors.Client c) e) → s.up x ≡ true → u.up ≡ put s.up x false → u.client c ≡ lost_at x (s.client c) → Turn s u c e
  down_turn e u x other up ups is = by (is_at_set (s.client c).present.stage) refl (is_set (s.client c).present.set x) refl
    where
      up_at : (y : ℕ) → y ≢ x → s.up y ≡ true → u.up y ≡ true
      up_at y ne here = ap (λ (f : ℕ → Bool). f y) ups ∙ put_there s.up x false y ne ∙ here

      both : (p q : Bool) → (p && q) ≡ true → q ≡ true
      both true q h = h
      both false q h = absurd cc

      by : (p : Bool) → is_at_set (s.client c).present.stage ≡ p → (q : Bool) → is_set (s.client c).present.set x ≡ q → Turn s u c e
      by true at true to = falls x other up (ap (λ (f : ℕ → Bool). f x) ups ∙ put_here s.up x false) at to (is ∙ ap (λ t. if t then with_progress (s.client c) (lost (s.client c).present) else s.client c) (ap (λ p. p && is_set (s.client c).present.set x) at ∙ to))
      by true at false to = stays other
          (λ y h here. up_at y (λ same. absurd (cc (sym to ∙ sym (ap (is_set (s.client c).present.set) same) ∙ both (is_at_set (s.client c).present.stage) (is_set (s.client c).present.set y) h))) here)
          (is ∙ ap (λ t. if t then with_progress (s.client c) (lost (s.client c).present) else s.client c) (ap (λ p. p && is_set (s.client c).present.set x) at ∙ to))
      by false at q to = stays other
          (λ y h here. absurd (cc (sym h ∙ ap (λ p. p && is_set (s.client c).present.set y) at)))
          (is ∙ ap (λ t. if t then with_progress (s.client c) (lost (s.client c).present) else s.client c) (ap (λ p. p && is_set (s.client c).present.set x) at))

  stop_turn : (t : State) (o : ℕ) → stop s o ≡ Ok t → Turn s t c (Stop o)
  stop_turn t o h = let p = can_stop s t o h in subst (λ (u : State). Turn s u c (Stop o)) p.gives (by p.x (s.up p.x) refl)
    where
      by : (x : ℕ) (up : Bool) → s.up x ≡ up → Turn s (if up then put_operator (gone_down s x) o (answer (s.operator o) Done) else put_operator s o (answer (s.operator o) WasDown)) c (Stop o)
      by x true is = down_turn (Stop o) (put_operator (gone_down s x) o (answer (s.operator o) Done)) x (λ own. own) is refl refl
      by x false is = stays (λ own. own) (λ y at up. up) refl

  -- ---- the others

  start_turn : (t : State) (o : ℕ) → start s o ≡ Ok t → Turn s t c (Start o)
  start_turn t o h = let p = can_start s t o h in subst (λ (u : State). Turn s u c (Start o)) p.gives (by p.m (send_fault s p.m.bucket p.m.from p.m.to))
    where
      by : (m : Move) (f : Option CommandFault) → Turn s (after_start s o m f) c (Start o)
      by m (Some f) = stays (λ own. own) (λ y at up. up) refl
      by m None = stays (λ own. own) (λ y at up. up) refl

  haul_turn : (t : State) (o x d : ℕ) → haul s o x d ≡ Ok t → Turn s t c (Haul o x d)
  haul_turn t o x d h = let p = can_haul s t o x d h in subst (λ (u : State). Turn s u c (Haul o x d)) p.gives (by (bucket_to_haul s x d))
    where
      by : (v : Option ℕ) → Turn s (after_haul s o x d v) c (Haul o x d)
      by None = stays (λ own. own) (λ y at up. up) refl
      by (Some b) = stays (λ own. own) (λ y at up. up) refl

  deliver_turn : (t : State) (x y : ℕ) → deliver s x y ≡ Ok t → Turn s t c (Deliver x y)
  deliver_turn t x y h = let p = can_deliver s t x y h in subst (λ (u : State). Turn s u c (Deliver x y)) p.gives (by p.sent p.sent.message)
    where
      by : (m : link.Sent) (v : link.Message) → Turn s (after_deliver s x y m v) c (Deliver x y)
      by m (link.Chunk b page) = stays (λ own. own) (λ y at up. up) refl
      by m (link.Last b) = stays (λ own. own) (λ y at up. up) refl
      by m (link.Stat b) = stays (λ own. own) (λ y at up. up) refl

  pin_turn : (t : State) (o : ℕ) → pin s o ≡ Ok t → Turn s t c (Pin o)
  pin_turn t o h = let p = can_pin s t o h in subst (λ (u : State). Turn s u c (Pin o)) p.gives (by p.p (pinning_fault s p.p p.p.status))
    where
      by : (q : Pinning) (f : Option CommandFault) → Turn s (after_pin s o q f) c (Pin o)
      by q (Some f) = stays (λ own. own) (λ y at up. up) refl
      by q None = stays (λ own. own) (λ y at up. up) refl

  plan_turn : (t : State) (o : ℕ) → plan s o ≡ Ok t → Turn s t c (Plan o)
  plan_turn t o h = by (least_to (λ x. not (s.up x)) (sets_of s)) (can_plan s t o h).gives
    where
      by : (down : Option ℕ) → plan_round s o down ≡ Ok t → Turn s t c (Plan o)
      by (Some x) g = subst (λ (u : State). Turn s u c (Plan o)) (ok_is _ t g) (stays (λ own. own) (λ y at up. up) refl)
      by None g = let k = wants_none_ok (least_to (is_in_move s) s.config.bucket_count) reason.Moving _ t g in subst (λ (u : State). Turn s u c (Plan o)) (ok_is _ t k.1) (stays (λ own. own) (λ y at up. up) refl)

  -- a set that is up stays so while another comes up
  up_still : (x y : ℕ) → s.up y ≡ true → put s.up x true y ≡ true
  up_still x y up = by (cases_eq y x)
    where
      by : (y ≡ x) ⊎ (y ≢ x) → put s.up x true y ≡ true
      by (inl is) = ap (put s.up x true) is ∙ put_here s.up x true
      by (inr ne) = put_there s.up x true y ne ∙ up

  restarted_turn : (e : Event) (x : ℕ) (kept : Bool) (pending : Option Change) → ¬ (IsOf (actors.Client c) e) → Turn s (restarted s x kept pending) c e
  restarted_turn e x true (Some change) other = stays other (λ y at up. up_still x y up) refl
  restarted_turn e x true None other = stays other (λ y at up. up_still x y up) refl
  restarted_turn e x false (Some change) other = stays other (λ y at up. up_still x y up) refl
  restarted_turn e x false None other = stays other (λ y at up. up_still x y up) refl

  restart_turn : (t : State) (x : ℕ) (kept : Bool) (by : RestartBy) → restart s x kept by ≡ Ok t → Turn s t c (Restart x kept by)
  restart_turn t x kept Service h = subst (λ (u : State). Turn s u c (Restart x kept Service)) (can_restart s t x kept h).gives (restarted_turn (Restart x kept Service) x kept (s.pending x) (λ own. own))
  restart_turn t x kept (Line o) h = subst (λ (u : State). Turn s u c (Restart x kept (Line o))) (can_restart_line s t x o kept h).gives (by (s.up x) kept (s.pending x))
    where
      by : (u keep : Bool) (pending : Option Change) → Turn s (if u then put_operator s o (answer (s.operator o) WasUp) else put_operator (restarted s x keep pending) o (answer (s.operator o) Done)) c (Restart x kept (Line o))
      by true keep pending = stays (λ own. own) (λ y at up. up) refl
      by false true (Some change) = stays (λ own. own) (λ y at up. up_still x y up) refl
      by false true None = stays (λ own. own) (λ y at up. up_still x y up) refl
      by false false (Some change) = stays (λ own. own) (λ y at up. up_still x y up) refl
      by false false None = stays (λ own. own) (λ y at up. up_still x y up) refl

  pub turn : (t : State) (e : Event) → step s e ≡ Ok t → Turn s t c e
  turn t (Post d x) h = own_post t d x h
  turn t (Begin d) h = own_begin t d h
  turn t (Act d) h = own_act t d h
  turn t (End d) h = own_end t d h
  turn t (Take d) h = own_take t d h
  turn t (Cut o) h = cut_turn t o h
  turn t (Start o) h = start_turn t o h
  turn t (Haul o x d) h = haul_turn t o x d h
  turn t (Deliver x y) h = deliver_turn t x y h
  turn t (Pin o) h = pin_turn t o h
  turn t (Plan o) h = plan_turn t o h
  turn t (Stop o) h = stop_turn t o h
  turn t (Fault x n r) h = let p = can_fault s t x n r h in subst (λ (u : State). Turn s u c (Fault x n r)) p.gives (down_turn (Fault x n r) _ x (λ own. own) p.x_up refl refl)
  turn t (Restart x kept by) h = restart_turn t x kept by h
  turn t (NotYet x b) h = subst (λ (u : State). Turn s u c (NotYet x b)) (can_wait s t x b h).gives (stays (λ own. own) (λ y at up. up) refl)
  turn t (Freeze x b) h = subst (λ (u : State). Turn s u c (Freeze x b)) (can_freeze s t x b h).gives (stays (λ own. own) (λ y at up. up) refl)
  turn t (Chunk x b) h = subst (λ (u : State). Turn s u c (Chunk x b)) (can_chunk s t x b h).gives (stays (λ own. own) (λ y at up. up) refl)
  turn t (Seal x b) h = subst (λ (u : State). Turn s u c (Seal x b)) (can_seal s t x b h).gives (stays (λ own. own) (λ y at up. up) refl)
  turn t (Last x b) h = subst (λ (u : State). Turn s u c (Last x b)) (can_last s t x b h).gives (stays (λ own. own) (λ y at up. up) refl)
  turn t (Abort x b) h = subst (λ (u : State). Turn s u c (Abort x b)) (can_abort s t x b h).gives (stays (λ own. own) (λ y at up. up) refl)
  turn t (EndMove x b) h = subst (λ (u : State). Turn s u c (EndMove x b)) (can_end_move s t x b h).gives (stays (λ own. own) (λ y at up. up) refl)
  turn t (Hear x y) h = subst (λ (u : State). Turn s u c (Hear x y)) (can_hear s t x y h).gives (stays (λ own. own) (λ y at up. up) refl)
  turn t (Close o) h = subst (λ (u : State). Turn s u c (Close o)) (can_close s t o h).gives (stays (λ own. own) (λ y at up. up) refl)
  turn t (Ask x b) h = subst (λ (u : State). Turn s u c (Ask x b)) (can_ask s t x b h).gives (stays (λ own. own) (λ y at up. up) refl)
  turn t (Condemn x b) h = subst (λ (u : State). Turn s u c (Condemn x b)) (can_condemn s t x b h).gives (stays (λ own. own) (λ y at up. up) refl)
  turn t (Wipe x b) h = subst (λ (u : State). Turn s u c (Wipe x b)) (can_wipe s t x b h).gives (stays (λ own. own) (λ y at up. up) refl)
  turn t (Forget x b) h = subst (λ (u : State). Turn s u c (Forget x b)) (can_forget s t x b h).gives (stays (λ own. own) (λ y at up. up) refl)
