-- Asks and the answers under way: kept by each kind that takes nothing from a line.
use Rattle.std.proofs.Common.{◌≡◌, ℕ, inl, Bool, true, false, refl, sym, ap, subst, List, drop, get_or, Option, Some, None, Ok}
use Rattle.std.specs.Prelude.{◌≢◌, ◌==◌, ◌||◌, if◌then◌else◌, not, All}
use Rattle.std.proofs.lemmas.List.Elements.{All-nil}
use Rattle.vs_base.specs.declared.numbers.CallId.{CallId}
use Rattle.vs_base.specs.declared.numbers.Mode.{Mode}
use Rattle.vs_base.specs.declared.numbers.Mode.TheVariants.{Ro, Rw}
use Rattle.vs_rows.specs.declared.op.Op.{Op}
use Rattle.vs_event.specs.declared.event.Recorded.{Recorded}
use Rattle.vs_event.specs.declared.event.RestartBy.{RestartBy}
use Rattle.vs_event.specs.declared.event.RestartBy.TheVariants.{Line, Service}
use Rattle.vs_event.specs.declared.reason.Reason.TheVariants as reason
use Rattle.vs_space.specs.declared.status.Status.{Status}
use Rattle.vs_space.specs.declared.status.Status.TheVariants.{Active, Pinned, Sending, Receiving, Sent, Garbage}
use Rattle.vs_link.specs.Connection.{unused, closed}
use Rattle.vs_record.specs.Change.{Change, SetStatus, AddRows, Write, Wipe, Forget, bucket_of}
use Rattle.vs_recover.specs.declared.decision.Decision.TheVariants.{ToActive, ToGarbage}
use Rattle.vs_send.specs.declared.transfer.Phase.{Phase}
use Rattle.vs_send.specs.declared.transfer.Phase.TheVariants.{Copied}
use Rattle.vs_send.specs.declared.transfer.Transfer.{Transfer}
use Rattle.vs_machine.specs.declared.outcome.CommandFault.{CommandFault}
use Rattle.vs_machine.specs.declared.outcome.CommandOutcome.TheVariants.{Done, WasDown, WasUp}
use Rattle.vs_machine.specs.Tables.{put, least_to}
use Rattle.vs_machine.specs.State.{State, Bucket, Ask, sets_of, is_link, answer, call_id, next_command, put_operator, put_rows, with_entry, with_transfer}
use Rattle.vs_machine.specs.Coherence.{handed_by, IsServing, dest_or}
use Rattle.vs_machine.specs.Kinds.Calls.{act, bucket_after}
use Rattle.vs_machine.specs.Kinds.Collection.{condemn, wipe, forget}
use Rattle.vs_machine.specs.Kinds.Faults.{send_fault}
use Rattle.vs_machine.specs.Kinds.Pinning.{Pinning, pinning_of, pinning_fault, pin, after_pin}
use Rattle.vs_machine.specs.Kinds.Rebalancing.{haul, after_haul, bucket_to_haul, plan, plan_round, is_in_move}
use Rattle.vs_machine.specs.Kinds.Sender.{Move, start, after_start, not_yet, freeze, chunk, seal, last, abort, end_move}
use Rattle.vs_machine.specs.Kinds.Stops.{without_work, gone_down, stop, fault, restart, restarted, with_status, with_change}
use Rattle.vs_machine.specs.Whole.{Inner}
use Rattle.vs_machine.specs.Inner.Asks.{AskFits, HeardSays, IsOpen, AsksFit}
use Rattle.vs_machine.specs.Inner.Down.{UpFits, IsWaiting, StatusFits, FitsIn, PendingFits}
use Rattle.vs_machine.specs.Inner.Phases.{PhaseFits}
use Rattle.vs_machine.proofs.Asked.Changing.{AsksOf, KeepsAsks, Both, Never, touched, same_asks, one_bucket, one_link, open_sent, open_closed, none_ends, put_ends, phase_asks}
use Rattle.vs_machine.proofs.Asked.Connecting.{same_owners}
use Rattle.vs_machine.proofs.Calm.{Calm, unasked, gone_calm, freeze_calm, froze_calm, seal_calm, handed_calm, last_calm, page_calm, pinned_calm, left_calm, decided_calm}
use Rattle.vs_machine.proofs.Can.Calls.{can_act}
use Rattle.vs_machine.proofs.Can.Others.{can_condemn, can_wipe, can_forget, can_pin, can_haul, can_plan}
use Rattle.vs_machine.proofs.Can.Sender.{can_start, can_wait, can_freeze, can_chunk, can_seal, can_last, can_abort, can_end_move}
use Rattle.vs_machine.proofs.Can.Stops.{can_stop, can_fault, can_restart, can_restart_line}
use Rattle.vs_machine.proofs.Frame.{put_there}
use Rattle.vs_machine.proofs.Linked.{AreLinked}
use Rattle.vs_machine.proofs.Owners.{sending_owns}
use Rattle.vs_machine.proofs.Possible.{ok_is, wants_none_ok}
use Rattle.vs_machine.proofs.Kept.Collecting.{IsLeft, IsSpent}
use Rattle.vs_machine.proofs.Kept.Pinning.{may_pin}
use Rattle.vs_machine.proofs.Kept.Restarting.{owners_kept, owners_restarted}
use Rattle.vs_machine.proofs.Kept.Sending.{may_send, may_haul}

-- ---- act

pub act_asks : (own : ℕ → ℕ) (s t : State) (c : ℕ) → UpFits s → AsksFit own s.bucket s.link → act s c ≡ Ok t → AsksFit own t.bucket t.link
act_asks own s t c u a e =
    let p = can_act s t c e in
    let b = p.k.bucket in
    subst (λ (v : State). AsksFit own v.bucket v.link) p.gives (one_bucket s own own b _ (same_owners own b) (by_mode (own b) (s.bucket b) p.x (call_id c (s.client c)) p.k.mode p.k.ops (a.asks b)) u a)
  where
    by_mode : (o : ℕ) (b : Bucket) (x : ℕ) (id : CallId) (m : Mode) (ops : List Op) → AsksOf b → KeepsAsks s o o b (bucket_after b x id m ops)
    by_mode o b x id Rw ops af = same_asks s o b (bucket_after b x id Rw ops) af refl refl refl
    by_mode o b x id Ro ops af = same_asks s o b (bucket_after b x id Ro ops) af refl refl refl

-- ---- a transfer begins, moves to another phase or goes

moved_asks : (own : ℕ → ℕ) (s : State) (b x : ℕ) (v : Option Transfer) → UpFits s → AsksFit own s.bucket s.link → (AskFits ((s.bucket b).entry x) ((s.bucket b).transfer x) → ⊥) → AsksFit own (put s.bucket b (with_transfer (s.bucket b) x v)) s.link
moved_asks own s b x v u a never = one_bucket s own own b _ (same_owners own b) (phase_asks s (own b) (s.bucket b) x v (a.asks b) never) u a

active_unasked : (e : Option Status) (m : Option Transfer) → e ≡ Some Active → AskFits e m → ⊥
active_unasked e m active h = subst (λ w. AskFits w m) active h

-- the same for a transfer that stands
moves_asks : (own : ℕ → ℕ) (s : State) (b x : ℕ) (w : Transfer) (v : Option Transfer) → Inner own s → UpFits s → AsksFit own s.bucket s.link → (s.bucket b).transfer x ≡ Some w → AsksFit own (put s.bucket b (with_transfer (s.bucket b) x v)) s.link
moves_asks own s b x w v i u a at = moved_asks own s b x v u a (unasked (sets_of s) (own b) (s.bucket b) x w (i.buckets b) at)

pub start_asks : (own : ℕ → ℕ) (s t : State) (o : ℕ) → UpFits s → AsksFit own s.bucket s.link → start s o ≡ Ok t → AsksFit own t.bucket t.link
start_asks own s t o u a e =
    let p = can_start s t o e in
    subst (λ (v : State). AsksFit own v.bucket v.link) p.gives (by p.m (send_fault s p.m.bucket p.m.from p.m.to) refl)
  where
    by : (m : Move) (f : Option CommandFault) → send_fault s m.bucket m.from m.to ≡ f → let v = after_start s o m f in AsksFit own v.bucket v.link
    by m (Some f) is = a
    by m None is = moved_asks own s m.bucket m.from _ u a (active_unasked _ _ (may_send s m.bucket m.from m.to is).active)

pub haul_asks : (own : ℕ → ℕ) (s t : State) (o x d : ℕ) → UpFits s → AsksFit own s.bucket s.link → haul s o x d ≡ Ok t → AsksFit own t.bucket t.link
haul_asks own s t o x d u a e =
    let p = can_haul s t o x d e in
    subst (λ (v : State). AsksFit own v.bucket v.link) p.gives (by (bucket_to_haul s x d) refl)
  where
    by : (v : Option ℕ) → bucket_to_haul s x d ≡ v → let w = after_haul s o x d v in AsksFit own w.bucket w.link
    by None is = a
    by (Some b) is = moved_asks own s b x _ u a (active_unasked _ _ (may_haul s x d b is).active)

pub not_yet_asks : (own : ℕ → ℕ) (s t : State) (x b : ℕ) → Inner own s → UpFits s → AsksFit own s.bucket s.link → not_yet s x b ≡ Ok t → AsksFit own t.bucket t.link
not_yet_asks own s t x b i u a e = let p = can_wait s t x b e in subst (λ (v : State). AsksFit own v.bucket v.link) p.gives (moves_asks own s b x p.u _ i u a p.there)

pub chunk_asks : (own : ℕ → ℕ) (s t : State) (x b : ℕ) → Inner own s → UpFits s → AsksFit own s.bucket s.link → chunk s x b ≡ Ok t → AsksFit own t.bucket t.link
chunk_asks own s t x b i u a e =
    let p = can_chunk s t x b e in
    let d = p.u.dest in
    let kept = moves_asks own s b x p.u _ i u a p.there in
    subst (λ (v : State). AsksFit own v.bucket v.link) p.gives (one_link own _ s.link x d _ (kept.answers x d) (λ q v h nm. open_sent (s.link x d) _ v q) kept)

pub last_asks : (own : ℕ → ℕ) (s t : State) (x b : ℕ) → Inner own s → UpFits s → AsksFit own s.bucket s.link → last s x b ≡ Ok t → AsksFit own t.bucket t.link
last_asks own s t x b i u a e =
    let p = can_last s t x b e in
    let d = p.u.dest in
    let kept = moves_asks own s b x p.u _ i u a p.there in
    subst (λ (v : State). AsksFit own v.bucket v.link) p.gives (one_link own _ s.link x d _ (kept.answers x d) (λ q v h nm. open_sent (s.link x d) _ v q) kept)

pub abort_asks : (own : ℕ → ℕ) (s t : State) (x b : ℕ) → Inner own s → UpFits s → AsksFit own s.bucket s.link → abort s x b ≡ Ok t → AsksFit own t.bucket t.link
abort_asks own s t x b i u a e = let p = can_abort s t x b e in subst (λ (v : State). AsksFit own v.bucket v.link) p.gives (moves_asks own s b x p.u None i u a p.there)

pub end_move_asks : (own : ℕ → ℕ) (s t : State) (x b : ℕ) → Inner own s → UpFits s → AsksFit own s.bucket s.link → end_move s x b ≡ Ok t → AsksFit own t.bucket t.link
end_move_asks own s t x b i u a e = let p = can_end_move s t x b e in subst (λ (v : State). AsksFit own v.bucket v.link) p.gives (moves_asks own s b x p.u None i u a p.there)

-- ---- freeze and seal

pub freeze_asks : (own : ℕ → ℕ) (s t : State) (x b : ℕ) → Inner own s → UpFits s → AsksFit own s.bucket s.link → freeze s x b ≡ Ok t → AsksFit own t.bucket t.link
freeze_asks own s t x b i u a e =
    let p = can_freeze s t x b e in
    let old = s.bucket b in
    let active : old.entry x ≡ Some Active = subst (PhaseFits p.u.dest (old.entry x)) p.draining ((i.buckets b).transfers x p.u p.there).phase in
    subst (λ (v : State). AsksFit own v.bucket v.link) p.gives (one_bucket s own own b _ (same_owners own b)
    (touched s (own b) (own b) old _ x (a.asks b) (none_ends old x (a.asks b) (active_unasked _ _ active)) (freeze_calm (Both s x) (Both s x) Never (own b) old x p.u.dest _ active)) u a)

not_waiting : (p : Phase) → p ≡ Copied → IsWaiting p → ⊥
not_waiting p is h = subst IsWaiting is h

pub seal_asks : (own : ℕ → ℕ) (s t : State) (x b : ℕ) → Inner own s → UpFits s → AsksFit own s.bucket s.link → seal s x b ≡ Ok t → AsksFit (put own b (dest_or (own b) ((s.bucket b).transfer x))) t.bucket t.link
seal_asks own s t x b i u a e =
    let p = can_seal s t x b e in
    let old = s.bucket b in
    let sends : old.entry x ≡ Some (Sending p.u.dest) = subst (PhaseFits p.u.dest (old.entry x)) p.copied ((i.buckets b).transfers x p.u p.there).phase in
    let owns : x ≡ own b = sending_owns (own b) old.entry x p.u.dest (i.buckets b).placed sends in
    let next : ℕ → ℕ = put own b (dest_or (own b) (old.transfer x)) in
    subst (λ (v : State). AsksFit next v.bucket v.link) p.gives (one_bucket s own next b _ (λ q ne. put_there own b _ q ne)
    (touched s (own b) (next b) old _ x (a.asks b) (none_ends old x (a.asks b) (unasked (sets_of s) (own b) old x p.u (i.buckets b) p.there)) (seal_calm (Both s x) (Both s x) Never (own b) old x (next b) p.u.dest p.u _ owns p.there (not_waiting p.u.phase p.copied))) u a)

-- ---- condemn, wipe, forget, pin

left_unasked : (e : Option Status) (m : Option Transfer) → IsLeft e → AskFits e m → ⊥
left_unasked None m k h = h
left_unasked (Some Active) m k h = h
left_unasked (Some Pinned) m k h = h
left_unasked (Some (Sending d)) m k h = k
left_unasked (Some (Receiving d)) m k h = k
left_unasked (Some (Sent d)) m k h = h
left_unasked (Some Garbage) m k h = h

left_asks : (own : ℕ → ℕ) (s : State) (x b : ℕ) (e : Option Status) → UpFits s → AsksFit own s.bucket s.link → IsLeft ((s.bucket b).entry x) → IsSpent e → AsksFit own (put s.bucket b (with_entry (s.bucket b) x e)) s.link
left_asks own s x b e u a left spent =
    let old = s.bucket b in
    one_bucket s own own b (with_entry old x e) (same_owners own b) (touched s (own b) (own b) old (with_entry old x e) x (a.asks b) (none_ends old x (a.asks b) (left_unasked (old.entry x) (old.transfer x) left)) (left_calm (Both s x) (Both s x) Never (own b) old x e left spent)) u a

rows_asks : (own : ℕ → ℕ) (s : State) (x b k : ℕ) → UpFits s → AsksFit own s.bucket s.link → AsksFit own (put s.bucket b (put_rows (s.bucket b) x (drop k ((s.bucket b).rows x)))) s.link
rows_asks own s x b k u a = let new : Bucket = put_rows (s.bucket b) x (drop k ((s.bucket b).rows x)) in one_bucket s own own b new (same_owners own b) (same_asks s (own b) (s.bucket b) new (a.asks b) refl refl refl) u a

pub condemn_asks : (own : ℕ → ℕ) (s t : State) (x b : ℕ) → UpFits s → AsksFit own s.bucket s.link → condemn s x b ≡ Ok t → AsksFit own t.bucket t.link
condemn_asks own s t x b u a e = let p = can_condemn s t x b e in subst (λ (v : State). AsksFit own v.bucket v.link) p.gives (left_asks own s x b (Some Garbage) u a (subst IsLeft (sym p.sent) tt) tt)

pub wipe_asks : (own : ℕ → ℕ) (s t : State) (x b : ℕ) → UpFits s → AsksFit own s.bucket s.link → wipe s x b ≡ Ok t → AsksFit own t.bucket t.link
wipe_asks own s t x b u a e = let p = can_wipe s t x b e in subst (λ (v : State). AsksFit own v.bucket v.link) p.gives (rows_asks own s x b 1000 u a)

pub forget_asks : (own : ℕ → ℕ) (s t : State) (x b : ℕ) → UpFits s → AsksFit own s.bucket s.link → forget s x b ≡ Ok t → AsksFit own t.bucket t.link
forget_asks own s t x b u a e = let p = can_forget s t x b e in subst (λ (v : State). AsksFit own v.bucket v.link) p.gives (left_asks own s x b None u a (subst IsLeft (sym p.garbage) tt) tt)

serving_unasked : (e : Option Status) (m : Option Transfer) → IsServing e → AskFits e m → ⊥
serving_unasked (Some Active) m k h = h
serving_unasked (Some Pinned) m k h = h
serving_unasked None m k h = k
serving_unasked (Some (Sending d)) m k h = k
serving_unasked (Some (Receiving d)) m k h = k
serving_unasked (Some (Sent d)) m k h = k
serving_unasked (Some Garbage) m k h = k

serving_asks : (own : ℕ → ℕ) (s : State) (x b : ℕ) (e : Option Status) → UpFits s → AsksFit own s.bucket s.link → IsServing ((s.bucket b).entry x) → IsServing e → AsksFit own (put s.bucket b (with_entry (s.bucket b) x e)) s.link
serving_asks own s x b e u a at serves =
    let old = s.bucket b in
    one_bucket s own own b (with_entry old x e) (same_owners own b) (touched s (own b) (own b) old (with_entry old x e) x (a.asks b) (none_ends old x (a.asks b) (serving_unasked (old.entry x) (old.transfer x) at)) (pinned_calm (Both s x) (Both s x) Never (own b) old x e at serves)) u a

pub pin_asks : (own : ℕ → ℕ) (s t : State) (o : ℕ) → UpFits s → AsksFit own s.bucket s.link → pin s o ≡ Ok t → AsksFit own t.bucket t.link
pin_asks own s t o u a e =
    let can = can_pin s t o e in
    subst (λ (v : State). AsksFit own v.bucket v.link) can.gives (by can.p can.named (pinning_fault s can.p can.p.status) refl)
  where
    by : (p : Pinning) → pinning_of (next_command (s.operator o)) ≡ Some p → (f : Option CommandFault) → pinning_fault s p p.status ≡ f → let v = after_pin s o p f in AsksFit own v.bucket v.link
    by p named (Some f) is = a
    by p named None is = let may = may_pin s (next_command (s.operator o)) p named is in serving_asks own s p.at p.bucket (Some p.status) u a may.serving may.serves

-- ---- plan

pub plan_asks : (own : ℕ → ℕ) (s t : State) (o : ℕ) → AsksFit own s.bucket s.link → plan s o ≡ Ok t → AsksFit own t.bucket t.link
plan_asks own s t o a e = by (least_to (λ x. not (s.up x)) (sets_of s)) (can_plan s t o e).gives
  where
    by : (down : Option ℕ) → plan_round s o down ≡ Ok t → AsksFit own t.bucket t.link
    by (Some x) h = subst (λ (v : State). AsksFit own v.bucket v.link) (ok_is _ t h) a
    by None h =
        let g = wants_none_ok (least_to (is_in_move s) s.config.bucket_count) reason.Moving _ t h in
        subst (λ (v : State). AsksFit own v.bucket v.link) (ok_is _ t g.1) a

-- ---- stop and fault

pub gone_down_asks : (own : ℕ → ℕ) (s : State) (x : ℕ) → AreLinked s → UpFits s → AsksFit own s.bucket s.link → AsksFit own (gone_down s x).bucket (gone_down s x).link
gone_down_asks own s x linked u a = record {
  asks = λ b. (keeps b).asks;
  sought = λ b p v h q nm. let e = (keeps b).same p v h in opens p q (is_link s p q) (linked.asks b p q nm) ((p == x) || (q == x)) v b (a.sought b p v e.0 q nm);
  answers = λ p q. line p q (is_link s p q) ((p == x) || (q == x));
}
  where
    keeps : (b : ℕ) → KeepsAsks s (own b) (own b) (s.bucket b) (without_work x (s.bucket b))
    keeps b = let old = s.bucket b in touched s (own b) (own b) old (without_work x old) x (a.asks b) (put_ends old x) (gone_calm (Both s x) (Both s x) Never (own b) old.entry old.transfer x)

    opens : (p q : ℕ) (there : Bool) → there ≡ true → (gone : Bool) (v : Ask) (b : ℕ) → IsOpen (s.link p q) v b → IsOpen (if there then (if gone then closed (s.link p q) else s.link p q) else unused) v b
    opens p q true is true v b h = open_closed (s.link p q) v b h
    opens p q true is false v b h = h
    opens p q false is gone v b h = absurd cc

    line : (p q : ℕ) (there gone : Bool) → let l = if there then (if gone then closed (s.link p q) else s.link p q) else unused in All (HeardSays own l.epoch (λ b. without_work x (s.bucket b)) p q) l.replies
    line p q false gone = All-nil _
    line p q true true = All-nil _
    line p q true false = λ k d lt. let r = get_or (s.link p q).replies k d in (keeps r.bucket).answers (s.link p q).epoch p q r.sync r.reply (u.replies p q k d lt) (a.answers p q k d lt)

pub stop_asks : (own : ℕ → ℕ) (s t : State) (o : ℕ) → AreLinked s → UpFits s → AsksFit own s.bucket s.link → stop s o ≡ Ok t → AsksFit own t.bucket t.link
stop_asks own s t o linked u a e =
    let p = can_stop s t o e in
    subst (λ (v : State). AsksFit own v.bucket v.link) p.gives (by p.x (s.up p.x))
  where
    by : (x : ℕ) (up : Bool) → let v = if up then put_operator (gone_down s x) o (answer (s.operator o) Done) else put_operator s o (answer (s.operator o) WasDown) in AsksFit own v.bucket v.link
    by x true = gone_down_asks own s x linked u a
    by x false = a

pub fault_asks : (own : ℕ → ℕ) (s t : State) (x n : ℕ) (e : Recorded) → AreLinked s → UpFits s → AsksFit own s.bucket s.link → fault s x n e ≡ Ok t → AsksFit own t.bucket t.link
fault_asks own s t x n e linked u a h = let p = can_fault s t x n e h in subst (λ (v : State). AsksFit own v.bucket v.link) p.gives (gone_down_asks own s x linked u a)

-- ---- restart

module _ (own : ℕ → ℕ) (s : State) (x : ℕ) (i : Inner own s) (u : UpFits s) (a : AsksFit own s.bucket s.link) (down : s.up x ≡ false) where
  -- x asks nothing
  ends : (b z : ℕ) (w : Ask) → (s.bucket b).ask z ≡ Some w → (z ≢ x) × ((s.bucket b).ask z ≡ Some w)
  ends b z w h = (λ g. absurd (cc (ap s.up g, u.asks b z w h, down)), h)

  not_both : (w : ℕ) → Both s x w → ⊥
  not_both w up = absurd (cc (up.1, down))

  status_asks : (b : ℕ) (e : Option Status) (st : Status) → (s.bucket b).entry x ≡ e → StatusFits (sets_of s) (own b) (s.bucket b).entry (s.bucket b).transfer (s.bucket b).rows x e st
      → AsksFit (handed_by own (Some (SetStatus b st))) (put s.bucket b (with_status (s.bucket b) x st)) s.link
  status_asks b (Some Active) Pinned at fits = serving_asks own s x b (Some Pinned) u a (subst IsServing (sym at) tt) tt
  status_asks b (Some Pinned) Active at fits = serving_asks own s x b (Some Active) u a (subst IsServing (sym at) tt) tt
  status_asks b (Some Active) (Sending d) at fits =
      let old = s.bucket b in
      one_bucket s own own b (with_status old x (Sending d)) (same_owners own b) (touched s (own b) (own b) old (with_status old x (Sending d)) x (a.asks b) (ends b) (froze_calm (Both s x) (Both s x) Never (own b) old x d at)) u a
  status_asks b (Some (Sending d)) (Sent e) at fits =
      let old = s.bucket b in
      let owns : x ≡ own b = sending_owns (own b) old.entry x d (i.buckets b).placed at in
      one_bucket s own (put own b e) b (with_status old x (Sent e)) (λ q ne. put_there own b e q ne)
      (touched s (own b) (put own b e b) old (with_status old x (Sent e)) x (a.asks b) (ends b)
      (subst (λ k. Calm (Both s x) (Both s x) Never (own b) (put own b e b) old.entry old.transfer (put old.entry x (Some (Sent k))) old.transfer x) (sym fits.0)
      (handed_calm (Both s x) (Both s x) Never (own b) old x (put own b e b) d owns (λ w up free. not_both w up) (λ w t is. t) at))) u a
  status_asks b (Some (Sending d)) Active at fits =
      let old = s.bucket b in
      one_bucket s own own b (with_status old x Active) (same_owners own b) (touched s (own b) (own b) old (with_status old x Active) x (a.asks b) (ends b) (decided_calm (Both s x) (Both s x) Never (own b) old x d ToActive (inl (at, fits.0, fits.1)) (λ w t is. absurd t))) u a
  status_asks b (Some (Receiving y)) Active at fits =
      let old = s.bucket b in
      one_bucket s own own b (with_status old x Active) (same_owners own b) (touched s (own b) (own b) old (with_status old x Active) x (a.asks b) (ends b) (last_calm (Both s x) (Both s x) Never (own b) old x y at)) u a
  status_asks b (Some (Receiving y)) Garbage at fits =
      let old = s.bucket b in
      one_bucket s own own b (with_status old x Garbage) (same_owners own b) (touched s (own b) (own b) old (with_status old x Garbage) x (a.asks b) (ends b) (decided_calm (Both s x) (Both s x) Never (own b) old x y ToGarbage (at, fits.0, fits.1) (λ w t is. absurd t))) u a
  status_asks b (Some (Sent d)) Garbage at fits = left_asks own s x b (Some Garbage) u a (subst IsLeft (sym at) tt) tt
  status_asks b e st at fits = absurd fits

  pub changed_asks : (change : Change) → FitsIn (sets_of s) (own (bucket_of change)) (s.bucket (bucket_of change)) x change → AsksFit (handed_by own (Some change)) (put s.bucket (bucket_of change) (with_change (s.bucket (bucket_of change)) x change)) s.link
  changed_asks (SetStatus b st) fits = status_asks b ((s.bucket b).entry x) st refl fits
  changed_asks (AddRows b z page) fits =
      let old = s.bucket b in
      one_bucket s own own b (with_change old x (AddRows b z page)) (same_owners own b)
      (touched s (own b) (own b) old (with_change old x (AddRows b z page)) x (a.asks b) (ends b) (page_calm (Both s x) (Both s x) Never (sets_of s) (own b) old z x (i.buckets b) fits.sends fits.free (λ up none. not_both z up))) u a
  changed_asks (Write id b ops) fits = one_bucket s own own b (with_change (s.bucket b) x (Write id b ops)) (same_owners own b) (same_asks s (own b) (s.bucket b) (with_change (s.bucket b) x (Write id b ops)) (a.asks b) refl refl refl) u a
  changed_asks (Wipe b k) fits = rows_asks own s x b k u a
  changed_asks (Forget b) fits = left_asks own s x b None u a (subst IsLeft (sym fits.0) tt) tt

  pub restarted_asks : PendingFits own s → (kept : Bool) (pending : Option Change) → s.pending x ≡ pending → AsksFit (owners_kept own kept pending) (restarted s x kept pending).bucket (restarted s x kept pending).link
  restarted_asks p true (Some change) is = changed_asks change (p x change is).1
  restarted_asks p true None is = a
  restarted_asks p false (Some change) is = a
  restarted_asks p false None is = a

pub restart_asks : (own : ℕ → ℕ) (s t : State) (x : ℕ) (kept : Bool) (by : RestartBy) → Inner own s → UpFits s → PendingFits own s → AsksFit own s.bucket s.link → restart s x kept by ≡ Ok t → AsksFit (owners_restarted own s x kept) t.bucket t.link
restart_asks own s t x kept Service i u p a e =
    let can = can_restart s t x kept e in
    subst (λ q. AsksFit (if q then own else owners_kept own kept (s.pending x)) t.bucket t.link) (sym can.x_down)
    (subst (λ (v : State). AsksFit (owners_kept own kept (s.pending x)) v.bucket v.link) can.gives (restarted_asks own s x i u a can.x_down p kept (s.pending x) refl))
restart_asks own s t x kept (Line o) i u p a e =
    let can = can_restart_line s t x o kept e in
    subst (λ (v : State). AsksFit (owners_restarted own s x kept) v.bucket v.link) can.gives (by (s.up x) refl)
  where
    by : (q : Bool) → s.up x ≡ q → let v = if q then put_operator s o (answer (s.operator o) WasUp) else put_operator (restarted s x kept (s.pending x)) o (answer (s.operator o) Done) in
        AsksFit (if q then own else owners_kept own kept (s.pending x)) v.bucket v.link
    by true is = a
    by false is = restarted_asks own s x i u a is p kept (s.pending x) refl
