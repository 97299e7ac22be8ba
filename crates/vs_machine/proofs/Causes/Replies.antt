-- Which replies an event leaves in the lines: those that were there, and one to a message that was delivered.
use Rattle.std.proofs.Common.{◌≡◌, ℕ, inl, inr, Bool, true, false, refl, sym, subst, List, [], ◌∷◌, ◌++◌, Option, Some, None, Ok}
use Rattle.std.specs.Prelude.{◌⊎◌, ◌||◌, ◌==◌, not, if◌then◌else◌, Contains}
use Rattle.std.proofs.lemmas.List.Elements.{Contains-push_cases, Contains-append_right}
use Rattle.vs_space.specs.declared.reply.Reply.{Reply}
use Rattle.vs_event.specs.declared.event.Event.{Event}
use Rattle.vs_event.specs.declared.event.Event.TheVariants.{Post, Begin, Act, End, Take, Cut, Start, Haul, NotYet, Freeze, Chunk, Seal, Last, Abort, EndMove, Deliver, Hear, Close, Ask, Condemn, Wipe, Forget, Pin, Plan, Stop, Fault, Restart}
use Rattle.vs_event.specs.declared.event.RestartBy.{RestartBy}
use Rattle.vs_event.specs.declared.event.RestartBy.TheVariants.{Line, Service}
use Rattle.vs_event.specs.declared.reason.Reason.TheVariants as reason
use Rattle.vs_link.specs.Connection as link
use Rattle.vs_link.specs.Connection.{Connection, Sent, Message, bucket_of, rest, closed, unused}
use Rattle.vs_link.specs.declared.message.Heard.{Heard}
use Rattle.vs_record.specs.Change.{Change}
use Rattle.vs_calls.specs.Progress.{cut}
use Rattle.vs_machine.specs.declared.outcome.CommandFault.{CommandFault}
use Rattle.vs_machine.specs.declared.outcome.CommandOutcome.TheVariants.{Done, Late, WasDown, WasUp}
use Rattle.vs_machine.specs.Tables.{put_at, least_to}
use Rattle.vs_machine.specs.State.{State, sets_of, is_link, answer, put_client, put_operator, with_progress}
use Rattle.vs_machine.specs.Step.{step}
use Rattle.vs_machine.specs.Kinds.Calls.{cut_call, is_answered}
use Rattle.vs_machine.specs.Kinds.Connections.{deliver, after_deliver, first_call, received_at, reply_of, status_at, hear}
use Rattle.vs_machine.specs.Kinds.Faults.{send_fault}
use Rattle.vs_machine.specs.Kinds.Pinning.{Pinning, pinning_fault, pin, after_pin}
use Rattle.vs_machine.specs.Kinds.Rebalancing.{haul, after_haul, bucket_to_haul, plan, plan_round, is_in_move}
use Rattle.vs_machine.specs.Kinds.Sender.{Move, start, after_start}
use Rattle.vs_machine.specs.Kinds.Stops.{gone_down, stop, restart, restarted}
use Rattle.vs_machine.proofs.Can.Calls.{can_post, can_begin, can_act, can_end, can_take, can_cut}
use Rattle.vs_machine.proofs.Can.Others.{can_deliver, can_hear, can_close, can_ask, can_condemn, can_wipe, can_forget, can_pin, can_haul, can_plan}
use Rattle.vs_machine.proofs.Can.Sender.{can_start, can_wait, can_freeze, can_chunk, can_seal, can_last, can_abort, can_end_move}
use Rattle.vs_machine.proofs.Can.Stops.{can_stop, can_fault, can_restart, can_restart_line}
use Rattle.vs_machine.proofs.Asked.Changing.{nowhere}
use Rattle.vs_machine.proofs.Frame.{put_pair}
use Rattle.vs_machine.proofs.Possible.{ok_is, wants_none_ok}

-- what set y replies to a message from set x
abbrev pub reply_to : State → ℕ → ℕ → Message → Reply
reply_to s x y (link.Chunk b page) = reply_of (received_at s x y b false)
reply_to s x y (link.Last b) = reply_of (received_at s x y b true)
reply_to s x y (link.Stat b) = status_at (s.bucket b) y

-- the reply was given as the event delivered the first message from set x to set y
pub record Given (s : State) (e : Event) (x y : ℕ) (h : Heard) : Type 0 where
  pub delivers : e ≡ Deliver x y
  pub sent : Sent
  pub first : first_call s x y ≡ Some sent
  pub reply : h ≡ record { sync = sent.sync; bucket = bucket_of sent.message; reply = reply_to s x y sent.message }

abbrev pub IsReply : State → Event → ℕ → ℕ → Heard → Type 0
IsReply s e x y h = Contains (s.link x y).replies h ⊎ Given s e x y h

abbrev Replies : State → Event → State → Type 0
Replies s e t = (x y : ℕ) (h : Heard) → Contains (t.link x y).replies h → IsReply s e x y h

module _ (s : State) (e : Event) where
  same : (x y : ℕ) (h : Heard) → Contains (s.link x y).replies h → IsReply s e x y h
  same x y h there = inl there

  -- one connection changes
  one : (x y : ℕ) (l : Connection) → ((h : Heard) → Contains l.replies h → IsReply s e x y h) → (p q : ℕ) (h : Heard) → Contains (put_at s.link x y l p q).replies h → IsReply s e p q h
  one x y l here = put_pair (λ p q (k : Connection). (h : Heard) → Contains k.replies h → IsReply s e p q h) s.link x y l here same

  -- a set goes down
  down : (x : ℕ) → Replies s e (gone_down s x)
  down x p q h there = at (is_link s p q) ((p == x) || (q == x)) there
    where
      at : (known here : Bool) → Contains (if known then (if here then closed (s.link p q) else s.link p q) else unused).replies h → IsReply s e p q h
      at false here c = absurd (nowhere c)
      at true true c = absurd (nowhere c)
      at true false c = inl c

deliver_replies : (s t : State) (x y : ℕ) → deliver s x y ≡ Ok t → Replies s (Deliver x y) t
deliver_replies s t x y h = let p = can_deliver s t x y h in subst (Replies s (Deliver x y)) p.gives (at p.sent.sync p.sent.message p.head)
  where
    said : (m : Sent) → first_call s x y ≡ Some m → (h : Heard) → Contains ((s.link x y).replies ++ (record { sync = m.sync; bucket = bucket_of m.message; reply = reply_to s x y m.message }) ∷ []) h → IsReply s (Deliver x y) x y h
    said m head h c = elim (Contains-push_cases (s.link x y).replies _ h c) [
      | inl old ↦ inl old
      | inr new ↦ inr (record { delivers = refl; sent = m; first = head; reply = sym new })
    ]

    at : (n : ℕ) (m : Message) → first_call s x y ≡ Some (record { sync = n; message = m }) → Replies s (Deliver x y) (after_deliver s x y (record { sync = n; message = m }) m)
    at n (link.Chunk b page) head = one s (Deliver x y) x y _ (said (record { sync = n; message = link.Chunk b page }) head)
    at n (link.Last b) head = one s (Deliver x y) x y _ (said (record { sync = n; message = link.Last b }) head)
    at n (link.Stat b) head = one s (Deliver x y) x y _ (said (record { sync = n; message = link.Stat b }) head)

-- a reply that is left is one of those that there were
left : (hs : List Heard) (h : Heard) → Contains (rest hs) h → Contains hs h
left [] h c = c
left (g ∷ hs) h c = Contains-append_right (g ∷ []) hs h c

hear_replies : (s t : State) (x y : ℕ) → hear s x y ≡ Ok t → Replies s (Hear x y) t
hear_replies s t x y h = subst (Replies s (Hear x y)) (can_hear s t x y h).gives (one s (Hear x y) x y _ (λ g c. inl (left (s.link x y).replies g c)))

cut_replies : (s t : State) (o : ℕ) → cut_call s o ≡ Ok t → Replies s (Cut o) t
cut_replies s t o h = let p = can_cut s t o h in subst (Replies s (Cut o)) p.gives (at p.c (is_answered (s.client p.c) p.n))
  where
    at : (d : ℕ) (late : Bool) → Replies s (Cut o) (if late then put_operator s o (answer (s.operator o) Late) else put_operator (put_client s d (with_progress (s.client d) (cut (s.client d).present))) o (answer (s.operator o) Done))
    at d true = same s (Cut o)
    at d false = same s (Cut o)

start_replies : (s t : State) (o : ℕ) → start s o ≡ Ok t → Replies s (Start o) t
start_replies s t o h = let p = can_start s t o h in subst (Replies s (Start o)) p.gives (at p.m (send_fault s p.m.bucket p.m.from p.m.to))
  where
    at : (m : Move) (f : Option CommandFault) → Replies s (Start o) (after_start s o m f)
    at m (Some f) = same s (Start o)
    at m None = same s (Start o)

haul_replies : (s t : State) (o x d : ℕ) → haul s o x d ≡ Ok t → Replies s (Haul o x d) t
haul_replies s t o x d h = subst (Replies s (Haul o x d)) (can_haul s t o x d h).gives (at (bucket_to_haul s x d))
  where
    at : (v : Option ℕ) → Replies s (Haul o x d) (after_haul s o x d v)
    at None = same s (Haul o x d)
    at (Some b) = same s (Haul o x d)

pin_replies : (s t : State) (o : ℕ) → pin s o ≡ Ok t → Replies s (Pin o) t
pin_replies s t o h = let p = can_pin s t o h in subst (Replies s (Pin o)) p.gives (at p.p (pinning_fault s p.p p.p.status))
  where
    at : (q : Pinning) (f : Option CommandFault) → Replies s (Pin o) (after_pin s o q f)
    at q (Some f) = same s (Pin o)
    at q None = same s (Pin o)

plan_replies : (s t : State) (o : ℕ) → plan s o ≡ Ok t → Replies s (Plan o) t
plan_replies s t o h = at (least_to (λ x. not (s.up x)) (sets_of s)) (can_plan s t o h).gives
  where
    at : (down : Option ℕ) → plan_round s o down ≡ Ok t → Replies s (Plan o) t
    at (Some x) g = subst (Replies s (Plan o)) (ok_is _ t g) (same s (Plan o))
    at None g = let k = wants_none_ok (least_to (is_in_move s) s.config.bucket_count) reason.Moving _ t g in subst (Replies s (Plan o)) (ok_is _ t k.1) (same s (Plan o))

stop_replies : (s t : State) (o : ℕ) → stop s o ≡ Ok t → Replies s (Stop o) t
stop_replies s t o h = let p = can_stop s t o h in subst (Replies s (Stop o)) p.gives (at p.x (s.up p.x))
  where
    at : (x : ℕ) (up : Bool) → Replies s (Stop o) (if up then put_operator (gone_down s x) o (answer (s.operator o) Done) else put_operator s o (answer (s.operator o) WasDown))
    at x true = down s (Stop o) x
    at x false = same s (Stop o)

restarted_replies : (s : State) (e : Event) (x : ℕ) (kept : Bool) (pending : Option Change) → Replies s e (restarted s x kept pending)
restarted_replies s e x true (Some change) = same s e
restarted_replies s e x true None = same s e
restarted_replies s e x false (Some change) = same s e
restarted_replies s e x false None = same s e

restart_replies : (s t : State) (x : ℕ) (kept : Bool) (by : RestartBy) → restart s x kept by ≡ Ok t → Replies s (Restart x kept by) t
restart_replies s t x kept Service h = subst (Replies s (Restart x kept Service)) (can_restart s t x kept h).gives (restarted_replies s (Restart x kept Service) x kept (s.pending x))
restart_replies s t x kept (Line o) h = subst (Replies s (Restart x kept (Line o))) (can_restart_line s t x o kept h).gives (at (s.up x))
  where
    at : (u : Bool) → Replies s (Restart x kept (Line o)) (if u then put_operator s o (answer (s.operator o) WasUp) else put_operator (restarted s x kept (s.pending x)) o (answer (s.operator o) Done))
    at true = same s (Restart x kept (Line o))
    at false = restarted_replies s (Restart x kept (Line o)) x kept (s.pending x)

pub step_replies : (s t : State) (e : Event) → step s e ≡ Ok t → (x y : ℕ) (h : Heard) → Contains (t.link x y).replies h → IsReply s e x y h
step_replies s t (Post d x) h = subst (Replies s (Post d x)) (can_post s t d x h).gives (same s (Post d x))
step_replies s t (Begin d) h = subst (Replies s (Begin d)) (can_begin s t d h).gives (same s (Begin d))
step_replies s t (Act d) h = subst (Replies s (Act d)) (can_act s t d h).gives (same s (Act d))
step_replies s t (End d) h = subst (Replies s (End d)) (can_end s t d h).gives (same s (End d))
step_replies s t (Take d) h = subst (Replies s (Take d)) (can_take s t d h).gives (same s (Take d))
step_replies s t (Cut o) h = cut_replies s t o h
step_replies s t (Start o) h = start_replies s t o h
step_replies s t (Haul o x d) h = haul_replies s t o x d h
step_replies s t (Deliver x y) h = deliver_replies s t x y h
step_replies s t (Hear x y) h = hear_replies s t x y h
step_replies s t (Pin o) h = pin_replies s t o h
step_replies s t (Plan o) h = plan_replies s t o h
step_replies s t (Stop o) h = stop_replies s t o h
step_replies s t (Fault x n r) h = subst (Replies s (Fault x n r)) (can_fault s t x n r h).gives (down s (Fault x n r) x)
step_replies s t (Restart x kept by) h = restart_replies s t x kept by h
step_replies s t (NotYet x b) h = subst (Replies s (NotYet x b)) (can_wait s t x b h).gives (same s (NotYet x b))
step_replies s t (Freeze x b) h = subst (Replies s (Freeze x b)) (can_freeze s t x b h).gives (same s (Freeze x b))
step_replies s t (Chunk x b) h = let p = can_chunk s t x b h in subst (Replies s (Chunk x b)) p.gives (one s (Chunk x b) x p.u.dest _ (λ g c. inl c))
step_replies s t (Seal x b) h = subst (Replies s (Seal x b)) (can_seal s t x b h).gives (same s (Seal x b))
step_replies s t (Last x b) h = let p = can_last s t x b h in subst (Replies s (Last x b)) p.gives (one s (Last x b) x p.u.dest _ (λ g c. inl c))
step_replies s t (Abort x b) h = subst (Replies s (Abort x b)) (can_abort s t x b h).gives (same s (Abort x b))
step_replies s t (EndMove x b) h = subst (Replies s (EndMove x b)) (can_end_move s t x b h).gives (same s (EndMove x b))
step_replies s t (Close o) h = let p = can_close s t o h in subst (Replies s (Close o)) p.gives (one s (Close o) p.x p.y _ (λ g c. absurd (nowhere c)))
step_replies s t (Ask x b) h = let p = can_ask s t x b h in subst (Replies s (Ask x b)) p.gives (one s (Ask x b) x p.y _ (λ g c. inl c))
step_replies s t (Condemn x b) h = subst (Replies s (Condemn x b)) (can_condemn s t x b h).gives (same s (Condemn x b))
step_replies s t (Wipe x b) h = subst (Replies s (Wipe x b)) (can_wipe s t x b h).gives (same s (Wipe x b))
step_replies s t (Forget x b) h = subst (Replies s (Forget x b)) (can_forget s t x b h).gives (same s (Forget x b))
