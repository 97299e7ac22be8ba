-- A set that becomes active has the rows that the sender had at its seal, and the event leaves them.
use Rattle.std.proofs.Common.{◌≡◌, ℕ, inl, inr, Bool, true, false, refl, sym, ap, subst, ◌∙◌, List, Option, Some, None, Result, Ok, Err}
use Rattle.std.specs.Prelude.{◌≢◌, ◌⊎◌, not, if◌then◌else◌}
use Rattle.vs_base.specs.declared.numbers.CallId.{CallId}
use Rattle.vs_base.specs.declared.numbers.Mode.{Mode}
use Rattle.vs_base.specs.declared.numbers.Mode.TheVariants.{Ro, Rw}
use Rattle.vs_rows.specs.RowMap.{RowMap}
use Rattle.vs_rows.specs.declared.op.Op.{Op}
use Rattle.vs_calls.specs.Progress.{cut}
use Rattle.vs_event.specs.declared.event.Event.{Event}
use Rattle.vs_event.specs.declared.event.Event.TheVariants.{Post, Begin, Act, End, Take, Cut, Start, Haul, NotYet, Freeze, Chunk, Seal, Last, Abort, EndMove, Deliver, Hear, Close, Ask, Condemn, Wipe, Forget, Pin, Plan, Stop, Fault, Restart}
use Rattle.vs_event.specs.declared.event.RestartBy.{RestartBy}
use Rattle.vs_event.specs.declared.event.RestartBy.TheVariants.{Line, Service}
use Rattle.vs_event.specs.declared.reason.Reason.TheVariants as reason
use Rattle.vs_space.specs.declared.reply.Reply.{Reply}
use Rattle.vs_space.specs.declared.reply.Reply.TheVariants as reply
use Rattle.vs_space.specs.declared.reply.RecvFault.{RecvFault}
use Rattle.vs_space.specs.declared.status.Status.{Status}
use Rattle.vs_space.specs.declared.status.Status.TheVariants.{Active, Pinned, Sending, Receiving, Sent, Garbage}
use Rattle.vs_history.specs.History.{rows_at, write_count}
use Rattle.vs_link.specs.Connection as link
use Rattle.vs_link.specs.declared.message.Heard.{Heard}
use Rattle.vs_record.specs.Change as changes
use Rattle.vs_record.specs.Change.{Change}
use Rattle.vs_recover.specs.declared.decision.Decision.{Decision}
use Rattle.vs_recover.specs.declared.decision.Decision.TheVariants.{Stay, ToActive, ToGarbage}
use Rattle.vs_recv.specs.declared.took.Took.{Took}
use Rattle.vs_machine.specs.declared.outcome.CommandFault.{CommandFault}
use Rattle.vs_machine.specs.declared.outcome.CommandOutcome.TheVariants.{Done, Late, WasDown, WasUp}
use Rattle.vs_machine.specs.Tables.{put, least_to}
use Rattle.vs_machine.specs.State.{State, Bucket, sets_of, answer, call_id, put_client, put_operator, with_progress}
use Rattle.vs_machine.specs.Step.{step}
use Rattle.vs_machine.specs.Coherence.{handed_by, owners}
use Rattle.vs_machine.specs.Kinds.Calls.{bucket_after, act, is_answered, cut_call}
use Rattle.vs_machine.specs.Kinds.Connections.{received_at, bucket_taking, after_message, after_deliver, deliver, decision_by, decided, bucket_hearing, hear, counts_at}
use Rattle.vs_machine.specs.Kinds.Faults.{send_fault}
use Rattle.vs_machine.specs.Kinds.Pinning.{Pinning, pinning_fault, pin, after_pin}
use Rattle.vs_machine.specs.Kinds.Rebalancing.{haul, after_haul, bucket_to_haul, plan, plan_round, is_in_move}
use Rattle.vs_machine.specs.Kinds.Sender.{Move, start, after_start}
use Rattle.vs_machine.specs.Kinds.Stops.{gone_down, stop, restart, restarted}
use Rattle.vs_machine.specs.Laws.{HasSealedRows, ActivatedRuns}
use Rattle.vs_machine.proofs.Can.Calls.{can_post, can_begin, can_act, can_end, can_take, can_cut}
use Rattle.vs_machine.proofs.Can.Others.{can_deliver, can_hear, can_close, can_ask, can_condemn, can_wipe, can_forget, can_pin, can_haul, can_plan}
use Rattle.vs_machine.proofs.Can.Sender.{can_start, can_wait, can_freeze, can_chunk, can_seal, can_last, can_abort, can_end_move}
use Rattle.vs_machine.proofs.Can.Stops.{can_stop, can_fault, can_restart, can_restart_line}
use Rattle.vs_machine.proofs.Frame.{put_each, put_both, put_split}
use Rattle.vs_machine.proofs.Histories.{rows_at-all}
use Rattle.vs_machine.proofs.Owners.{active_owns}
use Rattle.vs_machine.proofs.Possible.{ok_is, wants_none_ok}
use Rattle.vs_machine.proofs.Reached.{reached_whole}
use Rattle.vs_machine.proofs.Steps.{step_whole}

-- the rows, the places that were kept and the history are as they were
record IsSame (old new : Bucket) : Type 0 where
  rows : new.rows ≡ old.rows
  kept : new.kept ≡ old.kept
  history : new.history ≡ old.history

module _ (own : ℕ → ℕ) (s : State) (y x : ℕ) where
  -- set y isn't active from now on, where it was receiving from set x
  abbrev Stays : (ℕ → Option Status) → (ℕ → Option Status) → Type 0
  Stays has now = has y ≡ Some (Receiving x) → now y ≡ Some Active → ⊥

  -- bucket q, which p owns from now on: nothing of it changes that y has, or y doesn't become active
  abbrev Goes : ℕ → ℕ → Bucket → Type 0
  Goes q p new = ((p ≡ own q) × IsSame (s.bucket q) new) ⊎ Stays (s.bucket q).entry new.entry

  abbrev AllGo : State → Type 0
  AllGo t = (q : ℕ) → Goes q (own q) (t.bucket q)

  as_was : (q : ℕ) (new : Bucket) → new.rows ≡ (s.bucket q).rows → new.kept ≡ (s.bucket q).kept → new.history ≡ (s.bucket q).history → Goes q (own q) new
  as_was q new rows kept history = inl (refl, record { rows = rows; kept = kept; history = history })

  still : AllGo s
  still q = as_was q (s.bucket q) refl refl refl

  one_goes : (b : ℕ) (new : Bucket) → Goes b (own b) new → (q : ℕ) → Goes q (own q) (put s.bucket b new q)
  one_goes b new h = put_each (λ q. Goes q (own q)) s.bucket b new h still

  -- a bucket of which a set's entry may change, and nothing else that counts
  one_same : (b : ℕ) (new : Bucket) → new.rows ≡ (s.bucket b).rows → new.kept ≡ (s.bucket b).kept → new.history ≡ (s.bucket b).history → (q : ℕ) → Goes q (own q) (put s.bucket b new q)
  one_same b new rows kept history = one_goes b new (as_was b new rows kept history)

  -- no entry changes
  unmoved : (has : ℕ → Option Status) → Stays has has
  unmoved has from active = absurd (cc (from, active))

  -- an entry that isn't active is put at a set
  put_stays : (has : ℕ → Option Status) (z : ℕ) (e : Option Status) → e ≢ Some Active → Stays has (put has z e)
  put_stays has z e other from active = elim (put_split has z e y (Some Active) active) [ inl g ↦ other g.1 | inr g ↦ absurd (cc (g.1, from)) ]

  -- a bucket is sent, and owned by another
  sent_goes : (b d : ℕ) (new : Bucket) → Stays (s.bucket b).entry new.entry → (q : ℕ) → Goes q (put own b d q) (put s.bucket b new q)
  sent_goes b d new h = put_both Goes own s.bucket b d new (inr h) still

  -- ---- the kinds

  act_goes : (t : State) (c : ℕ) → act s c ≡ Ok t → AllGo t
  act_goes t c h =
      let p = can_act s t c h in
      subst AllGo p.gives (one_goes p.k.bucket _ (inr (by (s.bucket p.k.bucket) p.x (call_id c (s.client c)) p.k.mode p.k.ops)))
    where
      by : (b : Bucket) (z : ℕ) (id : CallId) (m : Mode) (ops : List Op) → Stays b.entry (bucket_after b z id m ops).entry
      by b z id Ro ops = unmoved b.entry
      by b z id Rw ops = unmoved b.entry

  cut_goes : (t : State) (o : ℕ) → cut_call s o ≡ Ok t → AllGo t
  cut_goes t o h = let p = can_cut s t o h in subst AllGo p.gives (by p.c p.n (is_answered (s.client p.c) p.n))
    where
      by : (c n : ℕ) (late : Bool) → AllGo (if late then put_operator s o (answer (s.operator o) Late) else put_operator (put_client s c (with_progress (s.client c) (cut (s.client c).present))) o (answer (s.operator o) Done))
      by c n true = still
      by c n false = still

  start_goes : (t : State) (o : ℕ) → start s o ≡ Ok t → AllGo t
  start_goes t o h = let p = can_start s t o h in subst AllGo p.gives (by p.m (send_fault s p.m.bucket p.m.from p.m.to))
    where
      by : (m : Move) (v : Option CommandFault) → AllGo (after_start s o m v)
      by m (Some v) = still
      by m None = one_same m.bucket _ refl refl refl

  haul_goes : (t : State) (o z d : ℕ) → haul s o z d ≡ Ok t → AllGo t
  haul_goes t o z d h = let p = can_haul s t o z d h in subst AllGo p.gives (by (bucket_to_haul s z d))
    where
      by : (v : Option ℕ) → AllGo (after_haul s o z d v)
      by None = still
      by (Some b) = one_same b _ refl refl refl

  deliver_goes : (t : State) (z w : ℕ) → deliver s z w ≡ Ok t → AllGo t
  deliver_goes t z w h = let p = can_deliver s t z w h in subst AllGo p.gives (by p.sent p.sent.message)
    where
      taken : (b : ℕ) (m : link.Message) (r : Result Took RecvFault) → Goes b (own b) (bucket_taking (s.bucket b) z w m r)
      taken b (link.Chunk q page) (Ok took) = inr (put_stays (s.bucket b).entry w (Some (Receiving z)) (λ e. absurd cc))
      taken b (link.Last q) (Ok took) = as_was b _ refl refl refl
      taken b (link.Stat q) (Ok took) = still b
      taken b (link.Chunk q page) (Err fault) = still b
      taken b (link.Last q) (Err fault) = still b
      taken b (link.Stat q) (Err fault) = still b

      message : (m : link.Sent) (r : Result Took RecvFault) → AllGo (after_message s z w m r)
      message m r = let b = link.bucket_of m.message in one_goes b _ (taken b m.message r)

      by : (m : link.Sent) (v : link.Message) → AllGo (after_deliver s z w m v)
      by m (link.Chunk b page) = message m (received_at s z w b false)
      by m (link.Last b) = message m (received_at s z w b true)
      by m (link.Stat b) = still

  hear_goes : (t : State) (z w : ℕ) → hear s z w ≡ Ok t → AllGo t
  hear_goes t z w h = let p = can_hear s t z w h in subst AllGo p.gives (one_goes p.heard.bucket _ (by p.heard.bucket (s.link z w).epoch p.heard p.heard.reply))
    where
      made : (b : ℕ) (d : Decision) → Goes b (own b) (decided (s.bucket b) z d)
      made b Stay = as_was b _ refl refl refl
      made b ToActive = as_was b _ refl refl refl
      made b ToGarbage = as_was b _ refl refl refl

      by : (b e : ℕ) (heard : Heard) (r : Reply) → Goes b (own b) (bucket_hearing (s.bucket b) e z w heard r)
      by b e heard reply.Took = as_was b _ refl refl refl
      by b e heard (reply.Not fault) = as_was b _ refl refl refl
      by b e heard (reply.State st live) = counts (counts_at (s.bucket b) e z w heard.sync)
        where
          counts : (t : Bool) → Goes b (own b) (if t then decided (s.bucket b) z (decision_by ((s.bucket b).entry z) st live) else s.bucket b)
          counts true = made b (decision_by ((s.bucket b).entry z) st live)
          counts false = still b

  pin_goes : (t : State) (o : ℕ) → pin s o ≡ Ok t → AllGo t
  pin_goes t o h = let p = can_pin s t o h in subst AllGo p.gives (by p.p (pinning_fault s p.p p.p.status))
    where
      by : (q : Pinning) (v : Option CommandFault) → AllGo (after_pin s o q v)
      by q (Some v) = still
      by q None = one_same q.bucket _ refl refl refl

  plan_goes : (t : State) (o : ℕ) → plan s o ≡ Ok t → AllGo t
  plan_goes t o h = by (least_to (λ z. not (s.up z)) (sets_of s)) (can_plan s t o h).gives
    where
      by : (down : Option ℕ) → plan_round s o down ≡ Ok t → AllGo t
      by (Some z) g = subst AllGo (ok_is _ t g) still
      by None g = let k = wants_none_ok (least_to (is_in_move s) s.config.bucket_count) reason.Moving _ t g in subst AllGo (ok_is _ t k.1) still

  down_goes : (z : ℕ) → AllGo (gone_down s z)
  down_goes z q = as_was q _ refl refl refl

  stop_goes : (t : State) (o : ℕ) → stop s o ≡ Ok t → AllGo t
  stop_goes t o h = let p = can_stop s t o h in subst AllGo p.gives (by p.x (s.up p.x))
    where
      by : (z : ℕ) (up : Bool) → AllGo (if up then put_operator (gone_down s z) o (answer (s.operator o) Done) else put_operator s o (answer (s.operator o) WasDown))
      by z true = down_goes z
      by z false = still

  -- ---- a restart that keeps what is pending

  kept_goes : (z : ℕ) (pending : Option Change) (q : ℕ) → Goes q (handed_by own pending q) ((restarted s z true pending).bucket q)
  kept_goes z None = still
  kept_goes z (Some (changes.SetStatus b (Sent d))) = sent_goes b d _ (put_stays (s.bucket b).entry z (Some (Sent d)) (λ e. absurd cc))
  kept_goes z (Some (changes.SetStatus b Active)) = one_same b _ refl refl refl
  kept_goes z (Some (changes.SetStatus b Pinned)) = one_same b _ refl refl refl
  kept_goes z (Some (changes.SetStatus b (Sending d))) = one_same b _ refl refl refl
  kept_goes z (Some (changes.SetStatus b (Receiving d))) = one_same b _ refl refl refl
  kept_goes z (Some (changes.SetStatus b Garbage)) = one_same b _ refl refl refl
  kept_goes z (Some (changes.AddRows b w page)) = one_goes b _ (inr (put_stays (s.bucket b).entry z (Some (Receiving w)) (λ e. absurd cc)))
  kept_goes z (Some (changes.Write id b ops)) = one_goes b _ (inr (unmoved (s.bucket b).entry))
  kept_goes z (Some (changes.Wipe b k)) = one_goes b _ (inr (unmoved (s.bucket b).entry))
  kept_goes z (Some (changes.Forget b)) = one_same b _ refl refl refl

  restart_goes : (t : State) (z : ℕ) (by : RestartBy) → restart s z true by ≡ Ok t → (q : ℕ) → Goes q (handed_by own (if s.up z then None else s.pending z) q) (t.bucket q)
  restart_goes t z Service h q =
      let p = can_restart s t z true h in
      subst (λ u. Goes q (handed_by own (if u then None else s.pending z) q) (t.bucket q)) (sym p.x_down)
      (subst (λ (v : State). Goes q (handed_by own (s.pending z) q) (v.bucket q)) p.gives (kept_goes z (s.pending z) q))
  restart_goes t z (Line o) h q =
      let p = can_restart_line s t z o true h in
      subst (λ (v : State). Goes q (handed_by own (if s.up z then None else s.pending z) q) (v.bucket q)) p.gives (by (s.up z))
    where
      by : (u : Bool) → Goes q (handed_by own (if u then None else s.pending z) q) ((if u then put_operator s o (answer (s.operator o) WasUp) else put_operator (restarted s z true (s.pending z)) o (answer (s.operator o) Done)).bucket q)
      by true = still q
      by false = kept_goes z (s.pending z) q

  bare_goes : (t : State) (z : ℕ) (by : RestartBy) → restart s z false by ≡ Ok t → AllGo t
  bare_goes t z Service h = subst AllGo (can_restart s t z false h).gives (bare (s.pending z))
    where
      bare : (pending : Option Change) → AllGo (restarted s z false pending)
      bare None = still
      bare (Some change) = still
  bare_goes t z (Line o) h = subst AllGo (can_restart_line s t z o false h).gives (by (s.up z) (s.pending z))
    where
      by : (u : Bool) (pending : Option Change) → AllGo (if u then put_operator s o (answer (s.operator o) WasUp) else put_operator (restarted s z false pending) o (answer (s.operator o) Done))
      by true pending = still
      by false None = still
      by false (Some change) = still

-- ---- every event

step_goes : (own : ℕ → ℕ) (s t : State) (e : Event) (y x : ℕ) → step s e ≡ Ok t → (q : ℕ) → Goes own s y x q (owners own s e q) (t.bucket q)
step_goes own s t (Post c w) y x h = subst (AllGo own s y x) (can_post s t c w h).gives (still own s y x)
step_goes own s t (Begin c) y x h = subst (AllGo own s y x) (can_begin s t c h).gives (still own s y x)
step_goes own s t (Act c) y x h = act_goes own s y x t c h
step_goes own s t (End c) y x h = subst (AllGo own s y x) (can_end s t c h).gives (still own s y x)
step_goes own s t (Take c) y x h = subst (AllGo own s y x) (can_take s t c h).gives (still own s y x)
step_goes own s t (Cut o) y x h = cut_goes own s y x t o h
step_goes own s t (Start o) y x h = start_goes own s y x t o h
step_goes own s t (Haul o w d) y x h = haul_goes own s y x t o w d h
step_goes own s t (NotYet w b) y x h = subst (AllGo own s y x) (can_wait s t w b h).gives (one_same own s y x b _ refl refl refl)
step_goes own s t (Freeze w b) y x h = subst (AllGo own s y x) (can_freeze s t w b h).gives (one_same own s y x b _ refl refl refl)
step_goes own s t (Chunk w b) y x h = subst (AllGo own s y x) (can_chunk s t w b h).gives (one_same own s y x b _ refl refl refl)
step_goes own s t (Seal w b) y x h =
    let p = can_seal s t w b h in
    subst (λ (v : State). (q : ℕ) → Goes own s y x q (owners own s (Seal w b) q) (v.bucket q)) p.gives (sent_goes own s y x b _ _ (put_stays own s y x (s.bucket b).entry w (Some (Sent p.u.dest)) (λ e. absurd cc)))
step_goes own s t (Last w b) y x h = subst (AllGo own s y x) (can_last s t w b h).gives (one_same own s y x b _ refl refl refl)
step_goes own s t (Abort w b) y x h = subst (AllGo own s y x) (can_abort s t w b h).gives (one_same own s y x b _ refl refl refl)
step_goes own s t (EndMove w b) y x h = subst (AllGo own s y x) (can_end_move s t w b h).gives (one_same own s y x b _ refl refl refl)
step_goes own s t (Deliver w z) y x h = deliver_goes own s y x t w z h
step_goes own s t (Hear w z) y x h = hear_goes own s y x t w z h
step_goes own s t (Close o) y x h = subst (AllGo own s y x) (can_close s t o h).gives (still own s y x)
step_goes own s t (Ask w b) y x h = subst (AllGo own s y x) (can_ask s t w b h).gives (one_same own s y x b _ refl refl refl)
step_goes own s t (Condemn w b) y x h = subst (AllGo own s y x) (can_condemn s t w b h).gives (one_same own s y x b _ refl refl refl)
step_goes own s t (Wipe w b) y x h = subst (AllGo own s y x) (can_wipe s t w b h).gives (one_goes own s y x b _ (inr (unmoved own s y x (s.bucket b).entry)))
step_goes own s t (Forget w b) y x h = subst (AllGo own s y x) (can_forget s t w b h).gives (one_same own s y x b _ refl refl refl)
step_goes own s t (Pin o) y x h = pin_goes own s y x t o h
step_goes own s t (Plan o) y x h = plan_goes own s y x t o h
step_goes own s t (Stop o) y x h = stop_goes own s y x t o h
step_goes own s t (Fault w n r) y x h = subst (AllGo own s y x) (can_fault s t w n r h).gives (down_goes own s y x w)
step_goes own s t (Restart w true by) y x h = restart_goes own s y x t w by h
step_goes own s t (Restart w false by) y x h = bare_goes own s y x t w by h

-- ---- the law

-- what isn't changed is still so
later : (s t : State) (b y x : ℕ) → IsSame (s.bucket b) (t.bucket b) → HasSealedRows s b y x → HasSealedRows t b y x
later s t b y x same h =
    let place : (t.bucket b).kept x ≡ (s.bucket b).kept x = ap (λ (f : ℕ → ℕ). f x) same.kept in
    let there : rows_at (t.bucket b).history ((t.bucket b).kept x) ≡ rows_at (s.bucket b).history ((s.bucket b).kept x) = λ j. rows_at (same.history j) (place j) in
    record { rows = ap (λ (f : ℕ → RowMap). f y) same.rows ∙ h.rows ∙ sym there; since = place ∙ h.since ∙ sym (ap write_count same.history) }

pub activated_runs : ActivatedRuns
activated_runs s t e r h b y x from active =
    let w = reached_whole s r in
    let own = w.0 in
    elim (step_goes own s t e y x h b) [
      | inl g ↦
          let after = step_whole own s t e w.1 h in
          let is : y ≡ own b = active_owns (owners own s e b) (t.bucket b).entry y (after.inner.buckets b).placed active ∙ g.0 in
          let since = w.1.seals b x (subst (λ q. (s.bucket b).entry q ≡ Some (Receiving x)) is from) in
          let rows = ap (s.bucket b).rows is ∙ (w.1.inner.buckets b).owned ∙ sym (rows_at-all (s.bucket b).history) ∙ ap (rows_at (s.bucket b).history) (sym since) in
          let before : HasSealedRows s b y x = record { rows = rows; since = since } in
          record { before = before; after = later s t b y x g.1 before; same = ap (λ (f : ℕ → RowMap). f y) g.1.rows }
      | inr stays ↦ absurd (stays from active)
    ]
