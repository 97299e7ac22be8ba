-- Each event keeps the whole of what holds inside.
use Rattle.std.proofs.Common.{◌≡◌, ℕ, Bool, true, false, refl, sym, ap, subst, ◌∙◌, Option, Some, None, Ok}
use Rattle.std.specs.Prelude.{if◌then◌else◌, not}
use Rattle.vs_event.specs.declared.event.Event.{Event}
use Rattle.vs_event.specs.declared.event.Event.TheVariants.{Post, Begin, Act, End, Take, Cut, Start, Haul, NotYet, Freeze, Chunk, Seal, Last, Abort, EndMove, Deliver, Hear, Close, Ask, Condemn, Wipe, Forget, Pin, Plan, Stop, Fault, Restart}
use Rattle.vs_calls.specs.Progress.{cut}
use Rattle.vs_event.specs.declared.reason.Reason.TheVariants as reason
use Rattle.vs_link.specs.Connection.{Connection, Message, Chunk, Last, Stat}
use Rattle.vs_link.specs.Connection as link
use Rattle.vs_machine.specs.declared.outcome.CommandFault.{CommandFault}
use Rattle.vs_machine.specs.declared.outcome.CommandOutcome.TheVariants.{Done, Late, WasDown}
use Rattle.vs_machine.specs.Tables.{least_to}
use Rattle.vs_machine.specs.State.{State, Bucket, Client, Operator, sets_of, answer, put_client, put_operator, with_progress}
use Rattle.vs_machine.specs.Kinds.Calls.{is_answered, cut_call}
use Rattle.vs_machine.specs.Kinds.Connections.{deliver, after_deliver}
use Rattle.vs_machine.specs.Kinds.Faults.{send_fault}
use Rattle.vs_machine.specs.Kinds.Pinning.{Pinning, pinning_fault, pin, after_pin}
use Rattle.vs_machine.specs.Kinds.Rebalancing.{haul, after_haul, bucket_to_haul, plan, plan_round, is_in_move}
use Rattle.vs_machine.specs.Kinds.Sender.{Move, start, after_start}
use Rattle.vs_machine.specs.Kinds.Stops.{stop, gone_down}
use Rattle.vs_machine.specs.Step.{step}
use Rattle.vs_machine.specs.Coherence.{owners}
use Rattle.vs_machine.specs.Laws.{KeptByEvents}
use Rattle.vs_machine.specs.Whole.{Inner}
use Rattle.vs_machine.specs.Inner.Answers.{OrderFits}
use Rattle.vs_machine.specs.Inner.Asks.{AsksFit}
use Rattle.vs_machine.specs.Inner.Down.{UpFits, PendingFits, PairsFit}
use Rattle.vs_machine.proofs.Answers.Steps.{step_answers}
use Rattle.vs_machine.proofs.Asked.Connecting.{deliver_asks, hear_asks, close_asks, ask_asks}
use Rattle.vs_machine.proofs.Asked.Kinds.{act_asks, start_asks, haul_asks, not_yet_asks, chunk_asks, last_asks, abort_asks, end_move_asks, freeze_asks, seal_asks, condemn_asks, wipe_asks, forget_asks, pin_asks, plan_asks, stop_asks, fault_asks, restart_asks}
use Rattle.vs_machine.proofs.Bounds.{step_bounds}
use Rattle.vs_machine.proofs.Can.Calls.{can_post, can_begin, can_act, can_end, can_take, can_cut}
use Rattle.vs_machine.proofs.Can.Others.{can_deliver, can_hear, can_close, can_ask, can_condemn, can_wipe, can_forget, can_pin, can_haul, can_plan}
use Rattle.vs_machine.proofs.Can.Sender.{can_start, can_wait, can_freeze, can_chunk, can_seal, can_last, can_abort, can_end_move}
use Rattle.vs_machine.proofs.Can.Stops.{can_stop}
use Rattle.vs_machine.proofs.Kept.Acting.{act_keeps}
use Rattle.vs_machine.proofs.Kept.Calls.{post_keeps, begin_keeps, end_keeps, take_keeps, cut_keeps}
use Rattle.vs_machine.proofs.Kept.Closing.{abort_keeps, close_keeps}
use Rattle.vs_machine.proofs.Kept.Collecting.{condemn_keeps, wipe_keeps, forget_keeps}
use Rattle.vs_machine.proofs.Kept.Delivering.{deliver_keeps}
use Rattle.vs_machine.proofs.Kept.Freezing.{freeze_keeps}
use Rattle.vs_machine.proofs.Kept.Pinning.{pin_keeps}
use Rattle.vs_machine.proofs.Kept.Planning.{plan_keeps}
use Rattle.vs_machine.proofs.Kept.Recovering.{hear_keeps, ask_keeps}
use Rattle.vs_machine.proofs.Kept.Restarting.{restart_keeps}
use Rattle.vs_machine.proofs.Kept.Sealing.{seal_keeps}
use Rattle.vs_machine.proofs.Kept.Sending.{start_keeps, haul_keeps, not_yet_keeps, chunk_keeps, last_keeps, end_move_keeps}
use Rattle.vs_machine.proofs.Kept.Stopping.{stop_keeps, fault_keeps}
use Rattle.vs_machine.proofs.Once.Steps.{step_once}
use Rattle.vs_machine.proofs.Order.Steps.{step_order}
use Rattle.vs_machine.proofs.Possible.{ok_is, wants_none_ok}
use Rattle.vs_machine.proofs.Pairs.{fault_pairs, restart_pairs}
use Rattle.vs_machine.proofs.Pends.Kinds.{act_pends, start_pends, haul_pends, not_yet_pends, chunk_pends, last_pends, abort_pends, end_move_pends, freeze_pends, seal_pends, ask_pends, condemn_pends, wipe_pends, forget_pends, pin_pends, plan_pends, deliver_pends, hear_pends}
use Rattle.vs_machine.proofs.Pends.Recording.{stop_pends, fault_pends}
use Rattle.vs_machine.proofs.Pends.Restarting.{restart_pends}
use Rattle.vs_machine.proofs.Restarts.{owners_same}
use Rattle.vs_machine.proofs.Seals.{step_seals}
use Rattle.vs_machine.proofs.Linked.{AreLinked, are_linked}
use Rattle.vs_machine.proofs.Ups.{step_ups}
use Rattle.vs_machine.proofs.Waits.{step_epochs, step_waits}

-- a cut changes no bucket and nothing that is pending
cut_still : {A : Type 0} (f : State → A) → ((s : State) (cs : ℕ → Client) (os : ℕ → Operator) → f (record s { client = cs; operator = os }) ≡ f s) → (s t : State) (o : ℕ) → cut_call s o ≡ Ok t → f t ≡ f s
cut_still f same s t o h =
    let p = can_cut s t o h in
    ap f (sym p.gives) ∙ by p.c p.n (is_answered (s.client p.c) p.n)
  where
    by : (c n : ℕ) (late : Bool) → f (if late then put_operator s o (answer (s.operator o) Late) else put_operator (put_client s c (with_progress (s.client c) (cut (s.client c).present))) o (answer (s.operator o) Done)) ≡ f s
    by c n true = same s s.client _
    by c n false = same s _ _

-- ---- the layers

step_inner : (own : ℕ → ℕ) (s t : State) (e : Event) → Inner own s → UpFits s → PendingFits own s → AsksFit own s.bucket s.link → OrderFits s → step s e ≡ Ok t → Inner (owners own s e) t
step_inner own s t (Post c x) i u p a w h = post_keeps own s t c x i h
step_inner own s t (Begin c) i u p a w h = begin_keeps own s t c i h
step_inner own s t (Act c) i u p a w h = act_keeps own s t c i h
step_inner own s t (End c) i u p a w h = end_keeps own s t c i h
step_inner own s t (Take c) i u p a w h = take_keeps own s t c i h
step_inner own s t (Cut o) i u p a w h = cut_keeps own s t o i h
step_inner own s t (Start o) i u p a w h = start_keeps own s t o i h
step_inner own s t (Haul o x d) i u p a w h = haul_keeps own s t o x d i h
step_inner own s t (NotYet x b) i u p a w h = not_yet_keeps own s t x b i h
step_inner own s t (Freeze x b) i u p a w h = freeze_keeps own s t x b i h
step_inner own s t (Chunk x b) i u p a w h = chunk_keeps own s t x b i h
step_inner own s t (Seal x b) i u p a w h = seal_keeps own s t x b i w.posted h
step_inner own s t (Last x b) i u p a w h = last_keeps own s t x b i h
step_inner own s t (Abort x b) i u p a w h = abort_keeps own s t x b i u h
step_inner own s t (EndMove x b) i u p a w h = end_move_keeps own s t x b i h
step_inner own s t (Deliver x y) i u p a w h = deliver_keeps own s t x y i h
step_inner own s t (Hear x y) i u p a w h = hear_keeps own s t x y i a h
step_inner own s t (Close o) i u p a w h = close_keeps own s t o i h
step_inner own s t (Ask x b) i u p a w h = ask_keeps own s t x b i h
step_inner own s t (Condemn x b) i u p a w h = condemn_keeps own s t x b i h
step_inner own s t (Wipe x b) i u p a w h = wipe_keeps own s t x b i h
step_inner own s t (Forget x b) i u p a w h = forget_keeps own s t x b i h
step_inner own s t (Pin o) i u p a w h = pin_keeps own s t o i h
step_inner own s t (Plan o) i u p a w h = plan_keeps own s t o i h
step_inner own s t (Stop o) i u p a w h = stop_keeps own s t o i h
step_inner own s t (Fault x n r) i u p a w h = fault_keeps own s t x n r i h
step_inner own s t (Restart x kept by) i u p a w h = subst (λ o. Inner o t) (owners_same own s x kept by) (restart_keeps own s t x kept by i u w.posted p h)

step_asks : (own : ℕ → ℕ) (s t : State) (e : Event) → Inner own s → AreLinked s → UpFits s → PendingFits own s → AsksFit own s.bucket s.link → step s e ≡ Ok t → AsksFit (owners own s e) t.bucket t.link
step_asks own s t (Post c x) i l u p a h = subst (λ (v : State). AsksFit own v.bucket v.link) (can_post s t c x h).gives a
step_asks own s t (Begin c) i l u p a h = subst (λ (v : State). AsksFit own v.bucket v.link) (can_begin s t c h).gives a
step_asks own s t (Act c) i l u p a h = act_asks own s t c u a h
step_asks own s t (End c) i l u p a h = subst (λ (v : State). AsksFit own v.bucket v.link) (can_end s t c h).gives a
step_asks own s t (Take c) i l u p a h = subst (λ (v : State). AsksFit own v.bucket v.link) (can_take s t c h).gives a
step_asks own s t (Cut o) i l u p a h = subst (λ (m : (ℕ → Bucket) × (ℕ → ℕ → Connection)). AsksFit own m.0 m.1) (sym (cut_still (λ (v : State). (v.bucket, v.link)) (λ v cs os. refl) s t o h)) a
step_asks own s t (Start o) i l u p a h = start_asks own s t o u a h
step_asks own s t (Haul o x d) i l u p a h = haul_asks own s t o x d u a h
step_asks own s t (NotYet x b) i l u p a h = not_yet_asks own s t x b i u a h
step_asks own s t (Freeze x b) i l u p a h = freeze_asks own s t x b i u a h
step_asks own s t (Chunk x b) i l u p a h = chunk_asks own s t x b i u a h
step_asks own s t (Seal x b) i l u p a h = seal_asks own s t x b i u a h
step_asks own s t (Last x b) i l u p a h = last_asks own s t x b i u a h
step_asks own s t (Abort x b) i l u p a h = abort_asks own s t x b i u a h
step_asks own s t (EndMove x b) i l u p a h = end_move_asks own s t x b i u a h
step_asks own s t (Deliver x y) i l u p a h = deliver_asks own s t x y i u a h
step_asks own s t (Hear x y) i l u p a h = hear_asks own s t x y i u a h
step_asks own s t (Close o) i l u p a h = close_asks own s t o a h
step_asks own s t (Ask x b) i l u p a h = ask_asks own s t x b i a h
step_asks own s t (Condemn x b) i l u p a h = condemn_asks own s t x b u a h
step_asks own s t (Wipe x b) i l u p a h = wipe_asks own s t x b u a h
step_asks own s t (Forget x b) i l u p a h = forget_asks own s t x b u a h
step_asks own s t (Pin o) i l u p a h = pin_asks own s t o u a h
step_asks own s t (Plan o) i l u p a h = plan_asks own s t o a h
step_asks own s t (Stop o) i l u p a h = stop_asks own s t o l u a h
step_asks own s t (Fault x n r) i l u p a h = fault_asks own s t x n r l u a h
step_asks own s t (Restart x kept by) i l u p a h = subst (λ o. AsksFit o t.bucket t.link) (owners_same own s x kept by) (restart_asks own s t x kept by i u p a h)

cut_pends : (own : ℕ → ℕ) (s t : State) (o : ℕ) → PendingFits own s → cut_call s o ≡ Ok t → PendingFits own t
cut_pends own s t o p h =
    let e = can_cut s t o h in
    subst (PendingFits own) e.gives (by e.c e.n (is_answered (s.client e.c) e.n))
  where
    by : (c n : ℕ) (late : Bool) → PendingFits own (if late then put_operator s o (answer (s.operator o) Late) else put_operator (put_client s c (with_progress (s.client c) (cut (s.client c).present))) o (answer (s.operator o) Done))
    by c n true = p
    by c n false = p

step_pends : (own : ℕ → ℕ) (s t : State) (e : Event) → Inner own s → UpFits s → PendingFits own s → AsksFit own s.bucket s.link → PairsFit s.pending → step s e ≡ Ok t → PendingFits (owners own s e) t
step_pends own s t (Post c x) i u p a q h = subst (PendingFits own) (can_post s t c x h).gives p
step_pends own s t (Begin c) i u p a q h = subst (PendingFits own) (can_begin s t c h).gives p
step_pends own s t (Act c) i u p a q h = act_pends own s t c i u p h
step_pends own s t (End c) i u p a q h = subst (PendingFits own) (can_end s t c h).gives p
step_pends own s t (Take c) i u p a q h = subst (PendingFits own) (can_take s t c h).gives p
step_pends own s t (Cut o) i u p a q h = cut_pends own s t o p h
step_pends own s t (Start o) i u p a q h = start_pends own s t o i u p h
step_pends own s t (Haul o x d) i u p a q h = haul_pends own s t o x d i u p h
step_pends own s t (NotYet x b) i u p a q h = not_yet_pends own s t x b i u p h
step_pends own s t (Freeze x b) i u p a q h = freeze_pends own s t x b i u p h
step_pends own s t (Chunk x b) i u p a q h = chunk_pends own s t x b i u p h
step_pends own s t (Seal x b) i u p a q h = seal_pends own s t x b i u p h
step_pends own s t (Last x b) i u p a q h = last_pends own s t x b i u p h
step_pends own s t (Abort x b) i u p a q h = abort_pends own s t x b i u p h
step_pends own s t (EndMove x b) i u p a q h = end_move_pends own s t x b i u p h
step_pends own s t (Deliver x y) i u p a q h = deliver_pends own s t x y i u p h
step_pends own s t (Hear x y) i u p a q h = hear_pends own s t x y i u p a h
step_pends own s t (Close o) i u p a q h = subst (PendingFits own) (can_close s t o h).gives p
step_pends own s t (Ask x b) i u p a q h = ask_pends own s t x b u p h
step_pends own s t (Condemn x b) i u p a q h = condemn_pends own s t x b i u p h
step_pends own s t (Wipe x b) i u p a q h = wipe_pends own s t x b i u p h
step_pends own s t (Forget x b) i u p a q h = forget_pends own s t x b i u p h
step_pends own s t (Pin o) i u p a q h = pin_pends own s t o i u p h
step_pends own s t (Plan o) i u p a q h = plan_pends own s t o p h
step_pends own s t (Stop o) i u p a q h = stop_pends own s t o p h
step_pends own s t (Fault x n r) i u p a q h = fault_pends own s t x n r i a p h
step_pends own s t (Restart x kept by) i u p a q h = subst (λ o. PendingFits o t) (owners_same own s x kept by) (restart_pends own s t x kept by i u p q h)

-- ---- what is pending

-- nothing that is pending changes
abbrev IsStill : State → State → Type 0
IsStill s t = t.pending ≡ s.pending

start_still : (s t : State) (o : ℕ) → start s o ≡ Ok t → IsStill s t
start_still s t o h = let p = can_start s t o h in subst (IsStill s) p.gives (by p.m (send_fault s p.m.bucket p.m.from p.m.to))
  where
    by : (m : Move) (f : Option CommandFault) → IsStill s (after_start s o m f)
    by m (Some f) = refl
    by m None = refl

haul_still : (s t : State) (o x d : ℕ) → haul s o x d ≡ Ok t → IsStill s t
haul_still s t o x d h = let p = can_haul s t o x d h in subst (IsStill s) p.gives (by (bucket_to_haul s x d))
  where
    by : (v : Option ℕ) → IsStill s (after_haul s o x d v)
    by None = refl
    by (Some b) = refl

deliver_still : (s t : State) (x y : ℕ) → deliver s x y ≡ Ok t → IsStill s t
deliver_still s t x y h = let p = can_deliver s t x y h in subst (IsStill s) p.gives (by p.sent p.sent.message)
  where
    by : (m : link.Sent) (v : Message) → IsStill s (after_deliver s x y m v)
    by m (Chunk b page) = refl
    by m (Last b) = refl
    by m (Stat b) = refl

pin_still : (s t : State) (o : ℕ) → pin s o ≡ Ok t → IsStill s t
pin_still s t o h = let p = can_pin s t o h in subst (IsStill s) p.gives (by p.p (pinning_fault s p.p p.p.status))
  where
    by : (q : Pinning) (f : Option CommandFault) → IsStill s (after_pin s o q f)
    by q (Some f) = refl
    by q None = refl

plan_still : (s t : State) (o : ℕ) → plan s o ≡ Ok t → IsStill s t
plan_still s t o h = by (least_to (λ x. not (s.up x)) (sets_of s)) (can_plan s t o h).gives
  where
    by : (down : Option ℕ) → plan_round s o down ≡ Ok t → IsStill s t
    by (Some x) g = subst (IsStill s) (ok_is _ t g) refl
    by None g = let k = wants_none_ok (least_to (is_in_move s) s.config.bucket_count) reason.Moving _ t g in subst (IsStill s) (ok_is _ t k.1) refl

stop_still : (s t : State) (o : ℕ) → stop s o ≡ Ok t → IsStill s t
stop_still s t o h = let p = can_stop s t o h in subst (IsStill s) p.gives (by p.x (s.up p.x))
  where
    by : (x : ℕ) (up : Bool) → IsStill s (if up then put_operator (gone_down s x) o (answer (s.operator o) Done) else put_operator s o (answer (s.operator o) WasDown))
    by x true = refl
    by x false = refl

step_pairs : (own : ℕ → ℕ) (s t : State) (e : Event) → Inner own s → UpFits s → PendingFits own s → AsksFit own s.bucket s.link → PairsFit s.pending → step s e ≡ Ok t → PairsFit t.pending
step_pairs own s t (Post c x) i u p a q h = subst PairsFit (sym (subst (IsStill s) (can_post s t c x h).gives refl)) q
step_pairs own s t (Begin c) i u p a q h = subst PairsFit (sym (subst (IsStill s) (can_begin s t c h).gives refl)) q
step_pairs own s t (Act c) i u p a q h = subst PairsFit (sym (subst (IsStill s) (can_act s t c h).gives refl)) q
step_pairs own s t (End c) i u p a q h = subst PairsFit (sym (subst (IsStill s) (can_end s t c h).gives refl)) q
step_pairs own s t (Take c) i u p a q h = subst PairsFit (sym (subst (IsStill s) (can_take s t c h).gives refl)) q
step_pairs own s t (Cut o) i u p a q h = subst PairsFit (sym (cut_still (λ (v : State). v.pending) (λ v cs os. refl) s t o h)) q
step_pairs own s t (Start o) i u p a q h = subst PairsFit (sym (start_still s t o h)) q
step_pairs own s t (Haul o x d) i u p a q h = subst PairsFit (sym (haul_still s t o x d h)) q
step_pairs own s t (NotYet x b) i u p a q h = subst PairsFit (sym (subst (IsStill s) (can_wait s t x b h).gives refl)) q
step_pairs own s t (Freeze x b) i u p a q h = subst PairsFit (sym (subst (IsStill s) (can_freeze s t x b h).gives refl)) q
step_pairs own s t (Chunk x b) i u p a q h = subst PairsFit (sym (subst (IsStill s) (can_chunk s t x b h).gives refl)) q
step_pairs own s t (Seal x b) i u p a q h = subst PairsFit (sym (subst (IsStill s) (can_seal s t x b h).gives refl)) q
step_pairs own s t (Last x b) i u p a q h = subst PairsFit (sym (subst (IsStill s) (can_last s t x b h).gives refl)) q
step_pairs own s t (Abort x b) i u p a q h = subst PairsFit (sym (subst (IsStill s) (can_abort s t x b h).gives refl)) q
step_pairs own s t (EndMove x b) i u p a q h = subst PairsFit (sym (subst (IsStill s) (can_end_move s t x b h).gives refl)) q
step_pairs own s t (Deliver x y) i u p a q h = subst PairsFit (sym (deliver_still s t x y h)) q
step_pairs own s t (Hear x y) i u p a q h = subst PairsFit (sym (subst (IsStill s) (can_hear s t x y h).gives refl)) q
step_pairs own s t (Close o) i u p a q h = subst PairsFit (sym (subst (IsStill s) (can_close s t o h).gives refl)) q
step_pairs own s t (Ask x b) i u p a q h = subst PairsFit (sym (subst (IsStill s) (can_ask s t x b h).gives refl)) q
step_pairs own s t (Condemn x b) i u p a q h = subst PairsFit (sym (subst (IsStill s) (can_condemn s t x b h).gives refl)) q
step_pairs own s t (Wipe x b) i u p a q h = subst PairsFit (sym (subst (IsStill s) (can_wipe s t x b h).gives refl)) q
step_pairs own s t (Forget x b) i u p a q h = subst PairsFit (sym (subst (IsStill s) (can_forget s t x b h).gives refl)) q
step_pairs own s t (Pin o) i u p a q h = subst PairsFit (sym (pin_still s t o h)) q
step_pairs own s t (Plan o) i u p a q h = subst PairsFit (sym (plan_still s t o h)) q
step_pairs own s t (Stop o) i u p a q h = subst PairsFit (sym (stop_still s t o h)) q
step_pairs own s t (Fault x n r) i u p a q h = fault_pairs own s t x n r i u a p q h
step_pairs own s t (Restart x kept by) i u p a q h = restart_pairs s t x kept by q h

-- ---- the whole

pub step_whole : KeptByEvents
step_whole own s t e w h =
    let linked = are_linked own s w.inner w.bounds in
    let entries = step_bounds own s t e w.inner w.pending (λ b x there. record { bucket = w.known b x there; set = w.bounds b x there }) h in
    record {
      inner = step_inner own s t e w.inner w.ups w.pending w.asks w.order h;
      bounds = λ b x there. (entries b x there).set;
      known = λ b x there. (entries b x there).bucket;
      seals = step_seals own s t e w.inner w.pending w.seals h;
      waits = step_waits s t e linked w.waits w.epochs h;
      epochs = step_epochs s t e linked w.epochs h;
      ups = step_ups own s t e w.inner w.ups h;
      asks = step_asks own s t e w.inner linked w.ups w.pending w.asks h;
      pending = step_pends own s t e w.inner w.ups w.pending w.asks w.pairs h;
      pairs = step_pairs own s t e w.inner w.ups w.pending w.asks w.pairs h;
      once = step_once own s t e w.inner w.answers w.pending w.ups w.once h;
      answers = step_answers own s t e w.inner w.once w.order w.answers h;
      order = step_order own s t e w.inner w.ups w.answers w.order h;
    }
