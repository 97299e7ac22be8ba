-- What an event makes of a transfer.
use Rattle.std.proofs.Common.{◌≡◌, ℕ, ◌+◌, ◌≤◌, Bool, true, false, refl, sym, ap, subst, ◌∙◌, List, [], ◌∷◌, Option, Some, None, Ok, arith}
use Rattle.std.specs.Prelude.{◌==◌, not, if◌then◌else◌, Contains}
use Rattle.std.proofs.lemmas.Bool.{eqb-true}
use Rattle.std.proofs.lemmas.List.Elements.{Contains-append_left, Contains-push}
use Rattle.std.proofs.lemmas.Bool.Decides.{nat_tests}
use Rattle.vs_base.specs.declared.numbers.Mode.TheVariants.{Rw}
use Rattle.vs_space.specs.declared.reply.Reply.{Reply}
use Rattle.vs_space.specs.declared.reply.Reply.TheVariants as reply
use Rattle.vs_event.specs.declared.event.Event.{Event}
use Rattle.vs_event.specs.declared.event.Event.TheVariants.{Post, Begin, Act, End, Take, Cut, Start, Haul, NotYet, Freeze, Chunk, Seal, Last, Abort, EndMove, Deliver, Hear, Close, Ask, Condemn, Wipe, Forget, Pin, Plan, Stop, Fault, Restart}
use Rattle.vs_event.specs.declared.event.RestartBy.{RestartBy}
use Rattle.vs_event.specs.declared.event.RestartBy.TheVariants.{Line, Service}
use Rattle.vs_event.specs.declared.reason.Reason.TheVariants as reason
use Rattle.vs_link.specs.Connection as link
use Rattle.vs_link.specs.Connection.{Connection, Sent, Message, bucket_of, rest}
use Rattle.vs_link.specs.declared.message.Heard.{Heard}
use Rattle.vs_record.specs.Change.{Change}
use Rattle.vs_record.specs.Change as changes
use Rattle.vs_calls.specs.Progress.{cut}
use Rattle.vs_rows.specs.RowMap.{RowMap}
use Rattle.vs_script.specs.declared.command.Command as declared_command
use Rattle.vs_script.specs.declared.command.Command.TheVariants.{Send}
use Rattle.vs_send.specs.Phases.{is_of_transfer, waits_for, replied_phase, heard_phase}
use Rattle.vs_send.specs.declared.transfer.By.TheVariants as by
use Rattle.vs_send.specs.declared.transfer.Phase.{Phase}
use Rattle.vs_send.specs.declared.transfer.Phase.TheVariants.{Draining, Ready, Waiting, Copied, Sealed, WaitingLast}
use Rattle.vs_send.specs.declared.transfer.Transfer.{Transfer}
use Rattle.vs_machine.specs.declared.outcome.CommandFault.{CommandFault}
use Rattle.vs_machine.specs.declared.outcome.CommandOutcome.TheVariants.{Done, Late, WasDown, WasUp}
use Rattle.vs_machine.specs.Tables.{put, least_to}
use Rattle.vs_machine.specs.State.{State, Bucket, sets_of, next_command, references, answer, put_client, put_operator, with_progress}
use Rattle.vs_machine.specs.Step.{step}
use Rattle.vs_machine.specs.Kinds.Calls.{cut_call, is_answered}
use Rattle.vs_machine.specs.Kinds.Connections.{deliver, after_deliver, received_at, hear, after_hear, heard_by, has_more, recovered}
use Rattle.vs_machine.specs.Kinds.Faults.{send_fault}
use Rattle.vs_machine.specs.Kinds.Pinning.{Pinning, pinning_fault, pin, after_pin}
use Rattle.vs_machine.specs.Kinds.Rebalancing.{haul, after_haul, bucket_to_haul, plan, plan_round, is_in_move}
use Rattle.vs_machine.specs.Kinds.Sender.{Move, move_of, in_phase, start, after_start}
use Rattle.vs_machine.specs.Kinds.Stops.{gone_down, stop, restart, restarted}
use Rattle.vs_machine.proofs.Can.Calls.{can_post, can_begin, can_act, can_end, can_take, can_cut}
use Rattle.vs_machine.proofs.Can.Others.{can_deliver, can_hear, can_close, can_ask, can_condemn, can_wipe, can_forget, can_pin, can_haul, can_plan}
use Rattle.vs_machine.proofs.Can.Sender.{can_start, can_wait, can_freeze, can_chunk, can_seal, can_last, can_abort, can_end_move}
use Rattle.vs_machine.proofs.Can.Stops.{can_stop, can_fault, can_restart, can_restart_line}
use Rattle.vs_machine.proofs.Frame.{put_each}
use Rattle.vs_machine.proofs.Kept.Delivering.{head_is}
use Rattle.vs_machine.proofs.Leaves.{acted_transfer, taking_transfer, recovered_transfer, changed_transfer}
use Rattle.vs_machine.proofs.Possible.{ok_is, wants_none_ok}

-- a phase in which the transfer waits for nobody
abbrev pub IsQuiet : Phase → Type 0
IsQuiet (Ready k) = Unit {0}
IsQuiet Copied = Unit {0}
IsQuiet Sealed = Unit {0}
IsQuiet p = ⊥

abbrev pub IsNoDeliver : Event → Type 0
IsNoDeliver (Deliver x y) = ⊥
IsNoDeliver e = Unit {0}

-- it waits for the reply with this number
abbrev pub WaitsFor : ℕ → Phase → Type 0
WaitsFor n (Waiting e m k) = m ≡ n
WaitsFor n (WaitingLast e m) = m ≡ n
WaitsFor n p = ⊥

-- the next phase of a transfer
pub data PhaseTurn (s : State) (e : Event) (b x : ℕ) (v : Transfer) (p : Phase) : Type 0 where
  Holds : (n : ℕ) → e ≡ NotYet x b → 1 ≤ references s Rw x b → v.phase ≡ Draining n → p ≡ Draining (n + 1) → PhaseTurn s e b x v p
  Quietly : IsQuiet p → PhaseTurn s e b x v p
  Sends : IsNoDeliver e → WaitsFor (s.link x v.dest).next p → PhaseTurn s e b x v p
  Hears : (h : Heard) (more : Bool) → Contains (s.link x v.dest).replies h → h.bucket ≡ b → is_of_transfer h.reply ≡ true → waits_for v.phase h.sync ≡ true → p ≡ replied_phase v.phase h.reply more → PhaseTurn s e b x v p

-- a transfer after an event, which was possible
pub data TransferTurn (s : State) (e : Event) (b x : ℕ) (u : Transfer) : Type 0 where
  Stands : (s.bucket b).transfer x ≡ Some u → TransferTurn s e b x u
  Begun : u.phase ≡ Draining 0 → ((o : ℕ) → u.by ≡ by.Command o → (e ≡ Start o) × (next_command (s.operator o) ≡ Some (Send b x u.dest))) → TransferTurn s e b x u
  Turned : (v : Transfer) (p : Phase) → (s.bucket b).transfer x ≡ Some v → PhaseTurn s e b x v p → u ≡ in_phase v p → TransferTurn s e b x u

abbrev TransferTurns : State → Event → State → Type 0
TransferTurns s e t = (b x : ℕ) (u : Transfer) → (t.bucket b).transfer x ≡ Some u → TransferTurn s e b x u

same_one : {A : Type 0} (u v : A) → Some u ≡ Some v → u ≡ v
same_one u v h = cc

module _ (s : State) (e : Event) where
  same : (b x : ℕ) (u : Transfer) → (s.bucket b).transfer x ≡ Some u → TransferTurn s e b x u
  same b x u h = Stands h

  -- one bucket changes, and its transfers don't
  kept : (b : ℕ) (new : Bucket) → new.transfer ≡ (s.bucket b).transfer → (q x : ℕ) (u : Transfer) → (put s.bucket b new q).transfer x ≡ Some u → TransferTurn s e q x u
  kept b new is = put_each (λ q (v : Bucket). (x : ℕ) (u : Transfer) → v.transfer x ≡ Some u → TransferTurn s e q x u) s.bucket b new (λ x u h. Stands (ap (λ (f : ℕ → Option Transfer). f x) (sym is) ∙ h)) same

  -- one transfer changes
  one : (b : ℕ) (new : Bucket) (x : ℕ) (v : Option Transfer) → new.transfer ≡ put (s.bucket b).transfer x v → ((u : Transfer) → v ≡ Some u → TransferTurn s e b x u)
      → (q z : ℕ) (u : Transfer) → (put s.bucket b new q).transfer z ≡ Some u → TransferTurn s e q z u
  one b new x v is here =
      put_each (λ q (w : Bucket). (z : ℕ) (u : Transfer) → w.transfer z ≡ Some u → TransferTurn s e q z u) s.bucket b new
      (λ z u h. put_each (λ y (o : Option Transfer). (u : Transfer) → o ≡ Some u → TransferTurn s e b y u) (s.bucket b).transfer x v here (same b) z u (ap (λ (f : ℕ → Option Transfer). f z) (sym is) ∙ h)) same

  -- one transfer is in another phase
  turns : (b : ℕ) (new : Bucket) (x : ℕ) (v : Transfer) (p : Phase) → new.transfer ≡ put (s.bucket b).transfer x (Some (in_phase v p)) → (s.bucket b).transfer x ≡ Some v → PhaseTurn s e b x v p
      → (q z : ℕ) (u : Transfer) → (put s.bucket b new q).transfer z ≡ Some u → TransferTurn s e q z u
  turns b new x v p is there turn = one b new x (Some (in_phase v p)) is (λ u h. Turned v p there turn (sym (same_one (in_phase v p) u h)))

  -- a set goes down
  down : (x : ℕ) → TransferTurns s e (gone_down s x)
  down x b z u h = put_each (λ y (o : Option Transfer). (u : Transfer) → o ≡ Some u → TransferTurn s e b y u) (s.bucket b).transfer x None (λ u g. absurd (cc g)) (same b) z u h

cut_transfers : (s t : State) (o : ℕ) → cut_call s o ≡ Ok t → TransferTurns s (Cut o) t
cut_transfers s t o h = let p = can_cut s t o h in subst (TransferTurns s (Cut o)) p.gives (at p.c (is_answered (s.client p.c) p.n))
  where
    at : (d : ℕ) (late : Bool) → TransferTurns s (Cut o) (if late then put_operator s o (answer (s.operator o) Late) else put_operator (put_client s d (with_progress (s.client d) (cut (s.client d).present))) o (answer (s.operator o) Done))
    at d true = same s (Cut o)
    at d false = same s (Cut o)

-- the command that a move is of
pub move_is : (c : Option declared_command.Command) (m : Move) → move_of c ≡ Some m → c ≡ Some (Send m.bucket m.from m.to)
move_is c m h = grind arith

start_transfers : (s t : State) (o : ℕ) → start s o ≡ Ok t → TransferTurns s (Start o) t
start_transfers s t o h = let p = can_start s t o h in subst (TransferTurns s (Start o)) p.gives (at p.m p.named (send_fault s p.m.bucket p.m.from p.m.to))
  where
    begun : (m : Move) → move_of (next_command (s.operator o)) ≡ Some m → (u : Transfer) → Some (record { dest = m.to; by = by.Command o; phase = Draining 0 }) ≡ Some u → TransferTurn s (Start o) m.bucket m.from u
    begun m named u h =
        let is : (record { dest = m.to; by = by.Command o; phase = Draining 0 }) ≡ u = same_one _ u h in
        subst (TransferTurn s (Start o) m.bucket m.from) is (Begun refl (λ k by_k. let mine : o ≡ k = cc by_k in (ap (λ z. Start z) mine, subst (λ z. next_command (s.operator z) ≡ Some (Send m.bucket m.from m.to)) mine (move_is _ m named))))

    at : (m : Move) → move_of (next_command (s.operator o)) ≡ Some m → (f : Option CommandFault) → TransferTurns s (Start o) (after_start s o m f)
    at m named (Some f) = same s (Start o)
    at m named None = one s (Start o) m.bucket _ m.from _ refl (begun m named)

haul_transfers : (s t : State) (o x d : ℕ) → haul s o x d ≡ Ok t → TransferTurns s (Haul o x d) t
haul_transfers s t o x d h = subst (TransferTurns s (Haul o x d)) (can_haul s t o x d h).gives (at (bucket_to_haul s x d))
  where
    begun : (b : ℕ) (u : Transfer) → Some (record { dest = d; by = by.Haul o; phase = Draining 0 }) ≡ Some u → TransferTurn s (Haul o x d) b x u
    begun b u h =
        let is : (record { dest = d; by = by.Haul o; phase = Draining 0 }) ≡ u = same_one _ u h in
        subst (TransferTurn s (Haul o x d) b x) is (Begun refl (λ k by_k. absurd (cc by_k)))

    at : (v : Option ℕ) → TransferTurns s (Haul o x d) (after_haul s o x d v)
    at None = same s (Haul o x d)
    at (Some b) = one s (Haul o x d) b _ x _ refl (begun b)

wait_transfers : (s t : State) (x b : ℕ) → step s (NotYet x b) ≡ Ok t → TransferTurns s (NotYet x b) t
wait_transfers s t x b h =
    let p = can_wait s t x b h in
    let held : 1 ≤ references s Rw x b = grind (arith, nat_tests, p.held) in
    subst (TransferTurns s (NotYet x b)) p.gives (turns s (NotYet x b) b _ x p.u _ refl p.there (Holds p.turns refl held p.draining refl))

deliver_transfers : (s t : State) (x y : ℕ) → deliver s x y ≡ Ok t → TransferTurns s (Deliver x y) t
deliver_transfers s t x y h = let p = can_deliver s t x y h in subst (TransferTurns s (Deliver x y)) p.gives (at p.sent p.sent.message)
  where
    at : (m : Sent) (v : Message) → TransferTurns s (Deliver x y) (after_deliver s x y m v)
    at m (link.Chunk b page) = let q = bucket_of m.message in kept s (Deliver x y) q _ (taking_transfer (s.bucket q) x y m.message (received_at s x y b false))
    at m (link.Last b) = let q = bucket_of m.message in kept s (Deliver x y) q _ (taking_transfer (s.bucket q) x y m.message (received_at s x y b true))
    at m (link.Stat b) = same s (Deliver x y)

first_in : (hs : List Heard) (h : Heard) → hs ≡ h ∷ rest hs → Contains hs h
first_in hs h is = subst (λ l. Contains l h) (sym is) (Contains-append_left (h ∷ []) (rest hs) h (Contains-push [] h))

module _ (s : State) (x y : ℕ) (heard : Heard) (is : (s.link x y).replies ≡ heard ∷ rest (s.link x y).replies) where
  -- the transfer that the reply may be for
  hearing : is_of_transfer heard.reply ≡ true → (o : Option Transfer) → (s.bucket heard.bucket).transfer x ≡ o → (rows : RowMap) (u : Transfer) → heard_by o rows y heard ≡ Some u → TransferTurn s (Hear x y) heard.bucket x u
  hearing turn None there rows u h = absurd (cc h)
  hearing turn (Some v) there rows u h = at (v.dest == y) refl (same_one _ u h)
    where
      more : Bool
      more = has_more rows v.phase

      waits : v.dest ≡ y → (w : Bool) → waits_for v.phase heard.sync ≡ w → TransferTurn s (Hear x y) heard.bucket x (in_phase v (if w then replied_phase v.phase heard.reply more else v.phase))
      waits to true at = Turned v _ there (Hears heard more (subst (λ z. Contains (s.link x z).replies heard) (sym to) (first_in (s.link x y).replies heard is)) refl turn at refl) refl
      waits to false at = Stands there

      at : (t : Bool) → (v.dest == y) ≡ t → (if t then in_phase v (heard_phase v.phase heard.sync heard.reply more) else v) ≡ u → TransferTurn s (Hear x y) heard.bucket x u
      at true to g = subst (TransferTurn s (Hear x y) heard.bucket x) g (waits (eqb-true v.dest y to) (waits_for v.phase heard.sync) refl)
      at false to g = subst (TransferTurn s (Hear x y) heard.bucket x) g (Stands there)

hear_transfers : (s t : State) (x y : ℕ) → hear s x y ≡ Ok t → TransferTurns s (Hear x y) t
hear_transfers s t x y h =
    let p = can_hear s t x y h in
    subst (TransferTurns s (Hear x y)) p.gives (at p.heard.sync p.heard.bucket p.heard.reply (head_is (x == y) (s.link x y).replies p.heard p.head))
  where
    at : (n q : ℕ) (r : Reply) → (s.link x y).replies ≡ (record { sync = n; bucket = q; reply = r }) ∷ rest (s.link x y).replies → TransferTurns s (Hear x y) (after_hear s x y (record { sync = n; bucket = q; reply = r }))
    at n q reply.Took is = one s (Hear x y) q _ x _ refl (hearing s x y (record { sync = n; bucket = q; reply = reply.Took }) is refl ((s.bucket q).transfer x) refl ((s.bucket q).rows x))
    at n q (reply.Not f) is = one s (Hear x y) q _ x _ refl (hearing s x y (record { sync = n; bucket = q; reply = reply.Not f }) is refl ((s.bucket q).transfer x) refl ((s.bucket q).rows x))
    at n q (reply.State st live) is = kept s (Hear x y) q (recovered (s.bucket q) (s.link x y).epoch x y n st live) (recovered_transfer (s.bucket q) (s.link x y).epoch x y n st live)

pin_transfers : (s t : State) (o : ℕ) → pin s o ≡ Ok t → TransferTurns s (Pin o) t
pin_transfers s t o h = let p = can_pin s t o h in subst (TransferTurns s (Pin o)) p.gives (at p.p (pinning_fault s p.p p.p.status))
  where
    at : (q : Pinning) (f : Option CommandFault) → TransferTurns s (Pin o) (after_pin s o q f)
    at q (Some f) = same s (Pin o)
    at q None = kept s (Pin o) q.bucket _ refl

plan_transfers : (s t : State) (o : ℕ) → plan s o ≡ Ok t → TransferTurns s (Plan o) t
plan_transfers s t o h = at (least_to (λ x. not (s.up x)) (sets_of s)) (can_plan s t o h).gives
  where
    at : (down : Option ℕ) → plan_round s o down ≡ Ok t → TransferTurns s (Plan o) t
    at (Some x) g = subst (TransferTurns s (Plan o)) (ok_is _ t g) (same s (Plan o))
    at None g = let k = wants_none_ok (least_to (is_in_move s) s.config.bucket_count) reason.Moving _ t g in subst (TransferTurns s (Plan o)) (ok_is _ t k.1) (same s (Plan o))

stop_transfers : (s t : State) (o : ℕ) → stop s o ≡ Ok t → TransferTurns s (Stop o) t
stop_transfers s t o h = let p = can_stop s t o h in subst (TransferTurns s (Stop o)) p.gives (at p.x (s.up p.x))
  where
    at : (x : ℕ) (up : Bool) → TransferTurns s (Stop o) (if up then put_operator (gone_down s x) o (answer (s.operator o) Done) else put_operator s o (answer (s.operator o) WasDown))
    at x true = down s (Stop o) x
    at x false = same s (Stop o)

restarted_transfers : (s : State) (e : Event) (x : ℕ) (kept_now : Bool) (pending : Option Change) → TransferTurns s e (restarted s x kept_now pending)
restarted_transfers s e x true (Some change) = let b = changes.bucket_of change in kept s e b _ (changed_transfer (s.bucket b) x change)
restarted_transfers s e x true None = same s e
restarted_transfers s e x false (Some change) = same s e
restarted_transfers s e x false None = same s e

restart_transfers : (s t : State) (x : ℕ) (kept_now : Bool) (w : RestartBy) → restart s x kept_now w ≡ Ok t → TransferTurns s (Restart x kept_now w) t
restart_transfers s t x k Service h = subst (TransferTurns s (Restart x k Service)) (can_restart s t x k h).gives (restarted_transfers s (Restart x k Service) x k (s.pending x))
restart_transfers s t x k (Line o) h = subst (TransferTurns s (Restart x k (Line o))) (can_restart_line s t x o k h).gives (at (s.up x))
  where
    at : (u : Bool) → TransferTurns s (Restart x k (Line o)) (if u then put_operator s o (answer (s.operator o) WasUp) else put_operator (restarted s x k (s.pending x)) o (answer (s.operator o) Done))
    at true = same s (Restart x k (Line o))
    at false = restarted_transfers s (Restart x k (Line o)) x k (s.pending x)

pub step_transfers : (s t : State) (e : Event) → step s e ≡ Ok t → (b x : ℕ) (u : Transfer) → (t.bucket b).transfer x ≡ Some u → TransferTurn s e b x u
step_transfers s t (Post d x) h = subst (TransferTurns s (Post d x)) (can_post s t d x h).gives (same s (Post d x))
step_transfers s t (Begin d) h = subst (TransferTurns s (Begin d)) (can_begin s t d h).gives (same s (Begin d))
step_transfers s t (Act d) h = let p = can_act s t d h in subst (TransferTurns s (Act d)) p.gives (kept s (Act d) p.k.bucket _ (acted_transfer (s.bucket p.k.bucket) p.x _ p.k.mode p.k.ops))
step_transfers s t (End d) h = subst (TransferTurns s (End d)) (can_end s t d h).gives (same s (End d))
step_transfers s t (Take d) h = subst (TransferTurns s (Take d)) (can_take s t d h).gives (same s (Take d))
step_transfers s t (Cut o) h = cut_transfers s t o h
step_transfers s t (Start o) h = start_transfers s t o h
step_transfers s t (Haul o x d) h = haul_transfers s t o x d h
step_transfers s t (NotYet x b) h = wait_transfers s t x b h
step_transfers s t (Freeze x b) h = let p = can_freeze s t x b h in subst (TransferTurns s (Freeze x b)) p.gives (turns s (Freeze x b) b _ x p.u _ refl p.there (Quietly tt))
step_transfers s t (Chunk x b) h = let p = can_chunk s t x b h in subst (TransferTurns s (Chunk x b)) p.gives (turns s (Chunk x b) b _ x p.u _ refl p.there (Sends tt refl))
step_transfers s t (Seal x b) h = let p = can_seal s t x b h in subst (TransferTurns s (Seal x b)) p.gives (turns s (Seal x b) b _ x p.u _ refl p.there (Quietly tt))
step_transfers s t (Last x b) h = let p = can_last s t x b h in subst (TransferTurns s (Last x b)) p.gives (turns s (Last x b) b _ x p.u _ refl p.there (Sends tt refl))
step_transfers s t (Abort x b) h = subst (TransferTurns s (Abort x b)) (can_abort s t x b h).gives (one s (Abort x b) b _ x None refl (λ u g. absurd (cc g)))
step_transfers s t (EndMove x b) h = subst (TransferTurns s (EndMove x b)) (can_end_move s t x b h).gives (one s (EndMove x b) b _ x None refl (λ u g. absurd (cc g)))
step_transfers s t (Deliver x y) h = deliver_transfers s t x y h
step_transfers s t (Hear x y) h = hear_transfers s t x y h
step_transfers s t (Close o) h = subst (TransferTurns s (Close o)) (can_close s t o h).gives (same s (Close o))
step_transfers s t (Ask x b) h = subst (TransferTurns s (Ask x b)) (can_ask s t x b h).gives (kept s (Ask x b) b _ refl)
step_transfers s t (Condemn x b) h = subst (TransferTurns s (Condemn x b)) (can_condemn s t x b h).gives (kept s (Condemn x b) b _ refl)
step_transfers s t (Wipe x b) h = subst (TransferTurns s (Wipe x b)) (can_wipe s t x b h).gives (kept s (Wipe x b) b _ refl)
step_transfers s t (Forget x b) h = subst (TransferTurns s (Forget x b)) (can_forget s t x b h).gives (kept s (Forget x b) b _ refl)
step_transfers s t (Pin o) h = pin_transfers s t o h
step_transfers s t (Plan o) h = plan_transfers s t o h
step_transfers s t (Stop o) h = stop_transfers s t o h
step_transfers s t (Fault x n r) h = subst (TransferTurns s (Fault x n r)) (can_fault s t x n r h).gives (down s (Fault x n r) x)
step_transfers s t (Restart x k w) h = restart_transfers s t x k w h
