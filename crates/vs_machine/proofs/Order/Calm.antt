-- Events that add nothing to a history, and take no answer.
use Rattle.std.proofs.Common.{◌≡◌, ℕ, inl, inr, ◌+◌, Bool, true, false, refl, subst, arith, List, Option, Some, None, Result, Ok, Err, length}
use Rattle.std.specs.Prelude.{◌≢◌, ◌==◌, ◌&&◌, ◌||◌, not, if◌then◌else◌}
use Rattle.vs_base.specs.declared.numbers.CallId.{CallId}
use Rattle.vs_rows.specs.declared.op.Op.{Op}
use Rattle.vs_space.specs.declared.reply.Reply.{Reply}
use Rattle.vs_space.specs.declared.reply.Reply.TheVariants as reply
use Rattle.vs_space.specs.declared.reply.RecvFault.{RecvFault}
use Rattle.vs_space.specs.declared.status.Status.{Status}
use Rattle.vs_space.specs.declared.status.Status.TheVariants.{Active, Pinned, Sending, Receiving, Sent, Garbage}
use Rattle.vs_event.specs.declared.reason.Reason.TheVariants as reason
use Rattle.vs_link.specs.Connection.{Connection, Message, Chunk, Last, Stat, bucket_of}
use Rattle.vs_link.specs.Connection as link
use Rattle.vs_link.specs.declared.message.Heard.{Heard}
use Rattle.vs_recv.specs.declared.took.Took.{Took}
use Rattle.vs_recover.specs.declared.decision.Decision.{Decision}
use Rattle.vs_recover.specs.declared.decision.Decision.TheVariants.{Stay, ToActive, ToGarbage}
use Rattle.vs_record.specs.Change as changes
use Rattle.vs_record.specs.Change.{Change, Write}
use Rattle.vs_calls.specs.Progress.{is_idle, cut}
use Rattle.vs_machine.specs.declared.outcome.CommandFault.{CommandFault}
use Rattle.vs_machine.specs.declared.outcome.CommandOutcome.TheVariants.{Late, Done, WasDown}
use Rattle.vs_machine.specs.Tables.{put, least_to}
use Rattle.vs_machine.specs.State.{State, Bucket, Client, Operator, sets_of, answer, put_client, put_operator, with_progress}
use Rattle.vs_machine.specs.Kinds.Calls.{post, begin, «end», cut_call, verdict_at, is_answered, is_reached}
use Rattle.vs_machine.specs.Kinds.Sender.{Move, start, after_start, not_yet, freeze, chunk, seal, last, abort, end_move}
use Rattle.vs_machine.specs.Kinds.Faults.{send_fault}
use Rattle.vs_machine.specs.Kinds.Connections.{deliver, after_deliver, received_at, bucket_taking, hear, bucket_hearing, counts_at, decision_by, decided, close}
use Rattle.vs_machine.specs.Kinds.Recovery.{ask}
use Rattle.vs_machine.specs.Kinds.Collection.{condemn, wipe, forget}
use Rattle.vs_machine.specs.Kinds.Pinning.{Pinning, pin, after_pin, pinning_fault}
use Rattle.vs_machine.specs.Kinds.Rebalancing.{haul, after_haul, bucket_to_haul, plan, plan_round, is_in_move}
use Rattle.vs_machine.specs.Kinds.Stops.{gone_down, stop, up_again, with_status, kept_at}
use Rattle.vs_machine.proofs.Frame.{put_each, put_split}
use Rattle.vs_machine.proofs.Possible.{ok_is, wants_none_ok}
use Rattle.vs_machine.proofs.Can.Calls.{can_post, can_begin, can_end, can_cut}
use Rattle.vs_machine.proofs.Can.Others.{can_deliver, can_hear, can_close, can_ask, can_condemn, can_wipe, can_forget, can_pin, can_haul, can_plan}
use Rattle.vs_machine.proofs.Can.Sender.{can_start, can_wait, can_freeze, can_chunk, can_seal, can_last, can_abort, can_end_move}
use Rattle.vs_machine.proofs.Can.Stops.{can_stop}
use Rattle.vs_machine.proofs.Order.Passing.{Passes, same_passes, posted_passes, begun_passes, ended_passes, cut_passes, lost_at_passes}

-- the histories stay, each call stays, and no write is pending that wasn't
pub record Calm (s t : State) : Type 0 where
  pub histories : (b : ℕ) → (t.bucket b).history ≡ (s.bucket b).history
  pub clients : (c : ℕ) → Passes s (s.client c) (t.client c)
  pub pendings : (z b : ℕ) (id : CallId) (ops : List Op) → t.pending z ≡ Some (Write id b ops) → s.pending z ≡ Some (Write id b ops)

one_bucket : (s : State) (b : ℕ) (new : Bucket) (l : ℕ → ℕ → Connection) (os : ℕ → Operator) → new.history ≡ (s.bucket b).history → Calm s (record s { bucket = put s.bucket b new; link = l; operator = os })
one_bucket s b new l os h = record {
  histories = put_each (λ q (u : Bucket). u.history ≡ (s.bucket q).history) s.bucket b new h (λ q. refl);
  clients = λ c. same_passes s (s.client c);
  pendings = λ z d id ops g. g;
}

no_bucket : (s : State) (l : ℕ → ℕ → Connection) (os : ℕ → Operator) → Calm s (record s { link = l; operator = os })
no_bucket s l os = record { histories = λ b. refl; clients = λ c. same_passes s (s.client c); pendings = λ z d id ops g. g }

one_client : (s : State) (c : ℕ) (new : Client) (os : ℕ → Operator) → Passes s (s.client c) new → Calm s (record s { client = put s.client c new; operator = os })
one_client s c new os h = record {
  histories = λ b. refl;
  clients = put_each (λ q (u : Client). Passes s (s.client q) u) s.client c new h (λ q. same_passes s (s.client q));
  pendings = λ z d id ops g. g;
}

-- ---- calls

pub post_calm : (s t : State) (c x : ℕ) → post s c x ≡ Ok t → Calm s t
post_calm s t c x e = let p = can_post s t c x e in subst (Calm s) p.gives (one_client s c _ s.operator (posted_passes s (s.client c) x p.k p.called p.ready))

pub begin_calm : (s t : State) (c : ℕ) → begin s c ≡ Ok t → Calm s t
begin_calm s t c e = let p = can_begin s t c e in subst (Calm s) p.gives (one_client s c _ s.operator (begun_passes s (s.client c) (verdict_at s p.x p.k) p.posted))

pub end_calm : (s t : State) (c : ℕ) → «end» s c ≡ Ok t → Calm s t
end_calm s t c e = let p = can_end s t c e in subst (Calm s) p.gives (one_client s c _ s.operator (ended_passes s (s.client c) p.acted))

-- a call that is reached, and isn't answered, was posted
pub reached_busy : (late here idle : Bool) → late ≡ false → (late || (here && not idle)) ≡ true → idle ≡ false
reached_busy late here idle e h = grind (arith, e, h)

pub cut_calm : (s t : State) (o : ℕ) → cut_call s o ≡ Ok t → Calm s t
cut_calm s t o e = let p = can_cut s t o e in subst (Calm s) p.gives (by p.c p.n (is_answered (s.client p.c) p.n) refl p.reached)
  where
    by : (c n : ℕ) (late : Bool) → is_answered (s.client c) n ≡ late → is_reached (s.client c) n ≡ true
        → Calm s (let old = s.client c in if late then put_operator s o (answer (s.operator o) Late) else put_operator (put_client s c (with_progress old (cut old.present))) o (answer (s.operator o) Done))
    by c n true is reached = no_bucket s s.link _
    by c n false is reached =
        let busy : is_idle (s.client c).present.stage ≡ false = reached_busy (is_answered (s.client c) n) (n == length (s.client c).answered + 1) (is_idle (s.client c).present.stage) is reached in
        one_client s c _ _ (cut_passes s (s.client c) busy)

-- ---- transfers

pub start_calm : (s t : State) (o : ℕ) → start s o ≡ Ok t → Calm s t
start_calm s t o e = let p = can_start s t o e in subst (Calm s) p.gives (by p.m (send_fault s p.m.bucket p.m.from p.m.to))
  where
    by : (m : Move) (f : Option CommandFault) → Calm s (after_start s o m f)
    by m (Some f) = no_bucket s s.link _
    by m None = one_bucket s m.bucket _ s.link _ refl

pub haul_calm : (s t : State) (o x d : ℕ) → haul s o x d ≡ Ok t → Calm s t
haul_calm s t o x d e = subst (Calm s) (can_haul s t o x d e).gives (by (bucket_to_haul s x d))
  where
    by : (b : Option ℕ) → Calm s (after_haul s o x d b)
    by None = no_bucket s s.link _
    by (Some b) = one_bucket s b _ s.link _ refl

pub wait_calm : (s t : State) (x b : ℕ) → not_yet s x b ≡ Ok t → Calm s t
wait_calm s t x b e = subst (Calm s) (can_wait s t x b e).gives (one_bucket s b _ s.link s.operator refl)

pub freeze_calm : (s t : State) (x b : ℕ) → freeze s x b ≡ Ok t → Calm s t
freeze_calm s t x b e = subst (Calm s) (can_freeze s t x b e).gives (one_bucket s b _ s.link s.operator refl)

pub chunk_calm : (s t : State) (x b : ℕ) → chunk s x b ≡ Ok t → Calm s t
chunk_calm s t x b e = subst (Calm s) (can_chunk s t x b e).gives (one_bucket s b _ _ s.operator refl)

pub seal_calm : (s t : State) (x b : ℕ) → seal s x b ≡ Ok t → Calm s t
seal_calm s t x b e = subst (Calm s) (can_seal s t x b e).gives (one_bucket s b _ s.link s.operator refl)

pub last_calm : (s t : State) (x b : ℕ) → last s x b ≡ Ok t → Calm s t
last_calm s t x b e = subst (Calm s) (can_last s t x b e).gives (one_bucket s b _ _ s.operator refl)

pub abort_calm : (s t : State) (x b : ℕ) → abort s x b ≡ Ok t → Calm s t
abort_calm s t x b e = subst (Calm s) (can_abort s t x b e).gives (one_bucket s b _ s.link _ refl)

pub end_move_calm : (s t : State) (x b : ℕ) → end_move s x b ≡ Ok t → Calm s t
end_move_calm s t x b e = subst (Calm s) (can_end_move s t x b e).gives (one_bucket s b _ s.link _ refl)

-- ---- connections

pub deliver_calm : (s t : State) (x y : ℕ) → deliver s x y ≡ Ok t → Calm s t
deliver_calm s t x y e = let p = can_deliver s t x y e in subst (Calm s) p.gives (by p.sent p.sent.message)
  where
    same : (b : Bucket) (m : Message) (r : Result Took RecvFault) → (bucket_taking b x y m r).history ≡ b.history
    same b (Chunk q page) (Ok took) = refl
    same b (Last q) (Ok took) = refl
    same b (Chunk q page) (Err f) = refl
    same b (Last q) (Err f) = refl
    same b (Stat q) r = refl

    by : (sent : link.Sent) (m : Message) → Calm s (after_deliver s x y sent m)
    by sent (Chunk b page) = one_bucket s (bucket_of sent.message) _ _ s.operator (same (s.bucket (bucket_of sent.message)) sent.message (received_at s x y b false))
    by sent (Last b) = one_bucket s (bucket_of sent.message) _ _ s.operator (same (s.bucket (bucket_of sent.message)) sent.message (received_at s x y b true))
    by sent (Stat b) = no_bucket s _ s.operator

pub hear_calm : (s t : State) (x y : ℕ) → hear s x y ≡ Ok t → Calm s t
hear_calm s t x y e =
    let p = can_hear s t x y e in
    let b = s.bucket p.heard.bucket in
    subst (Calm s) p.gives (one_bucket s p.heard.bucket (bucket_hearing b (s.link x y).epoch x y p.heard p.heard.reply) _ s.operator (same b (s.link x y).epoch p.heard p.heard.reply))
  where
    by_decision : (b : Bucket) (d : Decision) → (decided b x d).history ≡ b.history
    by_decision b Stay = refl
    by_decision b ToActive = refl
    by_decision b ToGarbage = refl

    by_test : (b : Bucket) (d : Decision) (counts : Bool) → (if counts then decided b x d else b).history ≡ b.history
    by_test b d true = by_decision b d
    by_test b d false = refl

    same : (b : Bucket) (epoch : ℕ) (heard : Heard) (r : Reply) → (bucket_hearing b epoch x y heard r).history ≡ b.history
    same b epoch heard reply.Took = refl
    same b epoch heard (reply.Not f) = refl
    same b epoch heard (reply.State remote live) = by_test b (decision_by (b.entry x) remote live) (counts_at b epoch x y heard.sync)

pub close_calm : (s t : State) (o : ℕ) → close s o ≡ Ok t → Calm s t
close_calm s t o e = subst (Calm s) (can_close s t o e).gives (no_bucket s _ _)

pub ask_calm : (s t : State) (x b : ℕ) → ask s x b ≡ Ok t → Calm s t
ask_calm s t x b e = subst (Calm s) (can_ask s t x b e).gives (one_bucket s b _ _ s.operator refl)

pub condemn_calm : (s t : State) (x b : ℕ) → condemn s x b ≡ Ok t → Calm s t
condemn_calm s t x b e = subst (Calm s) (can_condemn s t x b e).gives (one_bucket s b _ s.link s.operator refl)

pub wipe_calm : (s t : State) (x b : ℕ) → wipe s x b ≡ Ok t → Calm s t
wipe_calm s t x b e = subst (Calm s) (can_wipe s t x b e).gives (one_bucket s b _ s.link s.operator refl)

pub forget_calm : (s t : State) (x b : ℕ) → forget s x b ≡ Ok t → Calm s t
forget_calm s t x b e = subst (Calm s) (can_forget s t x b e).gives (one_bucket s b _ s.link s.operator refl)

pub pin_calm : (s t : State) (o : ℕ) → pin s o ≡ Ok t → Calm s t
pin_calm s t o e = let p = can_pin s t o e in subst (Calm s) p.gives (by p.p (pinning_fault s p.p p.p.status))
  where
    by : (p : Pinning) (f : Option CommandFault) → Calm s (after_pin s o p f)
    by p (Some f) = no_bucket s s.link _
    by p None = one_bucket s p.bucket _ s.link _ refl

pub plan_calm : (s t : State) (o : ℕ) → plan s o ≡ Ok t → Calm s t
plan_calm s t o e = by (least_to (λ x. not (s.up x)) (sets_of s)) (can_plan s t o e).gives
  where
    by : (down : Option ℕ) → plan_round s o down ≡ Ok t → Calm s t
    by (Some x) h = subst (Calm s) (ok_is _ t h) (no_bucket s s.link _)
    by None h =
        let g = wants_none_ok (least_to (is_in_move s) s.config.bucket_count) reason.Moving _ t h in
        subst (Calm s) (ok_is _ t g.1) (no_bucket s s.link _)

-- ---- a set goes down, or is up again

pub down_calm : (s : State) (x : ℕ) → Calm s (gone_down s x)
down_calm s x = record { histories = λ b. refl; clients = λ c. lost_at_passes s x (s.client c); pendings = λ z d id ops g. g }

pub stop_calm : (s t : State) (o : ℕ) → stop s o ≡ Ok t → Calm s t
stop_calm s t o e = let p = can_stop s t o e in subst (Calm s) p.gives (by p.x (s.up p.x))
  where
    by : (x : ℕ) (up : Bool) → Calm s (if up then put_operator (gone_down s x) o (answer (s.operator o) Done) else put_operator s o (answer (s.operator o) WasDown))
    by x true = let d = down_calm s x in record { histories = d.histories; clients = d.clients; pendings = d.pendings }
    by x false = no_bucket s s.link _

-- what is pending elsewhere was
pub pending_elsewhere : (s : State) (x z : ℕ) {o : Change} → put s.pending x None z ≡ Some o → (z ≢ x) × (s.pending z ≡ Some o)
pending_elsewhere s x z {o} h = elim (put_split s.pending x None z (Some o) h) [ inl e ↦ absurd (cc (e.1)) | inr e ↦ e ]

pub bare_calm : (s : State) (x : ℕ) → Calm s (up_again s x)
bare_calm s x = record { histories = λ b. refl; clients = λ c. same_passes s (s.client c); pendings = λ z d id ops g. (pending_elsewhere s x z g).1 }

same_history : (s : State) (x b : ℕ) (new : Bucket) → new.history ≡ (s.bucket b).history → Calm s (let again = up_again s x in record again { bucket = put s.bucket b new })
same_history s x b new h = record {
  histories = put_each (λ q (u : Bucket). u.history ≡ (s.bucket q).history) s.bucket b new h (λ q. refl);
  clients = λ c. same_passes s (s.client c);
  pendings = λ z d id ops g. (pending_elsewhere s x z g).1;
}

-- a change that isn't a write
abbrev pub IsNoWrite : Change → Type 0
IsNoWrite (Write id b ops) = ⊥
IsNoWrite change = Unit {0}

pub kept_calm : (s : State) (x : ℕ) (change : Change) → IsNoWrite change → Calm s (kept_at s x change)
kept_calm s x (changes.SetStatus b st) h = same_history s x b (with_status (s.bucket b) x st) (same (s.bucket b) st)
  where
    same : (old : Bucket) (st : Status) → (with_status old x st).history ≡ old.history
    same old (Sent d) = refl
    same old Active = refl
    same old Pinned = refl
    same old (Sending d) = refl
    same old (Receiving y) = refl
    same old Garbage = refl
kept_calm s x (changes.AddRows b z page) h = same_history s x b _ refl
kept_calm s x (Write id b ops) h = absurd h
kept_calm s x (changes.Wipe b n) h = same_history s x b _ refl
kept_calm s x (changes.Forget b) h = same_history s x b _ refl
