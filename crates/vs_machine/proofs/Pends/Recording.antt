-- What a fault records may still take effect, and so may all that is pending when a set goes down.
use Rattle.std.proofs.Common.{◌≡◌, ℕ, inl, inr, ◌≤◌, arith, Bool, true, false, refl, sym, subst, ◌∷◌, length, Option, Some, None, Result, Ok, Err}
use Rattle.std.specs.Prelude.{◌==◌, min, if◌then◌else◌, is_some}
use Rattle.std.specs.Option.{option_and_then, option_map}
use Rattle.vs_base.specs.declared.numbers.Mode.{Mode}
use Rattle.vs_base.specs.declared.numbers.Mode.TheVariants.{Ro, Rw}
use Rattle.vs_rows.specs.RowMap.{RowMap}
use Rattle.vs_event.specs.declared.event.Recorded.{Recorded}
use Rattle.vs_event.specs.declared.event.Recorded.TheVariants as recorded
use Rattle.vs_space.specs.declared.reply.Reply.{Reply}
use Rattle.vs_space.specs.declared.reply.Reply.TheVariants as reply
use Rattle.vs_space.specs.declared.reply.RecvFault.{RecvFault}
use Rattle.vs_space.specs.declared.status.Status.{Status}
use Rattle.vs_space.specs.declared.status.Status.TheVariants.{Active, Pinned, Sending, Receiving, Sent, Garbage}
use Rattle.vs_calls.specs.declared.stage.Stage.{Stage}
use Rattle.vs_calls.specs.Progress.{is_running, is_held}
use Rattle.vs_link.specs.Connection.{Message, Chunk, Last, Stat, rest}
use Rattle.vs_link.specs.Connection as link
use Rattle.vs_link.specs.declared.message.Heard.{Heard}
use Rattle.vs_record.specs.Change.{Change, SetStatus, AddRows, Write, Wipe, Forget, bucket_of}
use Rattle.vs_recv.specs.declared.took.Took.{Took}
use Rattle.vs_recover.specs.declared.decision.Decision.{Decision}
use Rattle.vs_recover.specs.declared.decision.Decision.TheVariants.{Stay, ToActive, ToGarbage}
use Rattle.vs_script.specs.Calls.{Call}
use Rattle.vs_script.specs.declared.command.Command.{Command}
use Rattle.vs_script.specs.declared.command.Command.TheVariants as command
use Rattle.vs_send.specs.declared.transfer.Phase.TheVariants.{Waiting}
use Rattle.vs_send.specs.declared.transfer.Transfer.{Transfer}
use Rattle.vs_machine.specs.declared.outcome.CommandFault.{CommandFault}
use Rattle.vs_machine.specs.declared.outcome.CommandOutcome.TheVariants.{Done, WasDown}
use Rattle.vs_machine.specs.Tables.{put}
use Rattle.vs_machine.specs.State.{State, sets_of, answer, call_id, next_call, next_command, put_operator, is_locked}
use Rattle.vs_machine.specs.Kinds.Connections.{received_at, receiving_at, counts_at, decision_by, asked_set, is_ask, is_set_named}
use Rattle.vs_machine.specs.Kinds.Faults.{pin_fault, unpin_fault, if_down, unless_active}
use Rattle.vs_machine.specs.Kinds.Pinning.{Pinning, pinning_of, pinning_fault}
use Rattle.vs_machine.specs.Kinds.Sender.{last_key}
use Rattle.vs_machine.specs.Kinds.Stops.{Recording, recording, write_of, dest_at, taking_of, message_recording, decision_recording, reply_recording, pin_recording, recording_of, recorded_step, gone_down, stop, fault, after_fault}
use Rattle.vs_machine.specs.Whole.{Inner}
use Rattle.vs_machine.specs.Inner.Asks.{DecisionFits, AsksFit}
use Rattle.vs_machine.specs.Inner.Calls.{HoldFits}
use Rattle.vs_machine.specs.Inner.Copying.{CopyFits}
use Rattle.vs_machine.specs.Inner.Down.{IsStuck, IsWaiting, StatusFits, RowsFit, ChangeFits, FitsIn, PendingFits}
use Rattle.vs_machine.specs.Inner.Phases.{PhaseFits}
use Rattle.vs_machine.proofs.Can.Calls.{can_act}
use Rattle.vs_machine.proofs.Can.Others.{can_deliver, can_hear, can_condemn, can_wipe, can_forget, can_pin}
use Rattle.vs_machine.proofs.Can.Sender.{can_freeze, can_seal}
use Rattle.vs_machine.proofs.Can.Stops.{can_stop, can_fault}
use Rattle.vs_machine.proofs.Frame.{put_each, put_here, put_split}
use Rattle.vs_machine.proofs.Owners.{phase_of}
use Rattle.vs_machine.proofs.Possible.{both_are}
use Rattle.vs_machine.proofs.Kept.Acting.{held_at}
use Rattle.vs_machine.proofs.Kept.Collecting.{null_is}
use Rattle.vs_machine.proofs.Kept.Delivering.{head_is, head_fits, last_owns, within_of}
use Rattle.vs_machine.proofs.Kept.Pinning.{pinned_is}
use Rattle.vs_machine.proofs.Kept.Recovering.{ask_is, named_is, head_says, decides}
use Rattle.vs_machine.proofs.Kept.Sending.{or_none, active_is}
use Rattle.vs_machine.proofs.Kept.Taking.{data_taken, last_taken}
use Rattle.vs_machine.proofs.Pends.Fitting.{IsDown}

-- a status that a set may get, where its entry is known
status_fits : (own : ℕ → ℕ) (s : State) (x b : ℕ) (e : Option Status) (st : Status) → (s.bucket b).entry x ≡ e → (let old = s.bucket b in StatusFits (sets_of s) (own b) old.entry old.transfer old.rows x e st) → FitsIn (sets_of s) (own b) (s.bucket b) x (SetStatus b st)
status_fits own s x b e st at f = let old = s.bucket b in subst (λ w. StatusFits (sets_of s) (own b) old.entry old.transfer old.rows x w st) (sym at) f

-- what fits at the set where it is recorded
abbrev pub RecordFits : (ℕ → ℕ) → State → Recording → Type 0
RecordFits own s r = FitsIn (sets_of s) (own (bucket_of r.change)) (s.bucket (bucket_of r.change)) r.at r.change

module _ (own : ℕ → ℕ) (s : State) (i : Inner own s) (a : AsksFit own s.bucket s.link) where
  record_fits : (x b : ℕ) (st : Status) (r : Recording) → FitsIn (sets_of s) (own b) (s.bucket b) x (SetStatus b st) → recording x (SetStatus b st) ≡ Some r → RecordFits own s r
  record_fits x b st r f e = let same : (let w : Recording = record { at = x; change = SetStatus b st } in w) ≡ r = cc in subst (RecordFits own s) same f

  -- ---- what is decided by an answer

  pub decision_fits : (x y b : ℕ) (d : Decision) → (let old = s.bucket b in DecisionFits (own b) old.entry old.transfer x y d) → (r : Recording) → decision_recording x b d ≡ Some r → RecordFits own s r
  decision_fits x y b Stay f r e = absurd cc
  decision_fits x y b ToActive (inl f) r e = record_fits x b Active r (status_fits own s x b (Some (Sending y)) Active f.0 (f.1, f.2)) e
  decision_fits x y b ToActive (inr f) r e = record_fits x b Active r (status_fits own s x b (Some (Receiving y)) Active f.0 f.1) e
  decision_fits x y b ToGarbage f r e = record_fits x b Garbage r (status_fits own s x b (Some (Receiving y)) Garbage f.0 (f.1, f.2)) e

  -- what a set that hears an answer to its ask decides, it may decide
  pub heard_fits : (x y k b : ℕ) (st : Option Status) (live : Bool) → (s.link x y).replies ≡ (record { sync = k; bucket = b; reply = reply.State st live }) ∷ rest (s.link x y).replies → counts_at (s.bucket b) (s.link x y).epoch x y k ≡ true
      → let old = s.bucket b in DecisionFits (own b) old.entry old.transfer x y (decision_by (old.entry x) st live)
  heard_fits x y k b st live is test =
      let old = s.bucket b in
      let both = both_are (is_ask (old.ask x) (s.link x y).epoch k) (is_set_named (asked_set (old.entry x)) y) test in
      let asks = ask_is _ (s.link x y).epoch k both.0 in
      let named = named_is _ y both.1 in
      let says = head_says own s x y (record { sync = k; bucket = b; reply = reply.State st live }) a is in
      decides (own b) old x y (old.entry x) st live refl (a.asks b x _ asks) named (says asks named)

  heard_recorded : (x y k b : ℕ) (q : Reply) (r : Recording) → (s.link x y).replies ≡ (record { sync = k; bucket = b; reply = q }) ∷ rest (s.link x y).replies → reply_recording s x y (record { sync = k; bucket = b; reply = q }) q ≡ Some r → RecordFits own s r
  heard_recorded x y k b reply.Took r is e = absurd cc
  heard_recorded x y k b (reply.Not f) r is e = absurd cc
  heard_recorded x y k b (reply.State st live) r is e = by (counts_at (s.bucket b) (s.link x y).epoch x y k) refl e
    where
      by : (t : Bool) → counts_at (s.bucket b) (s.link x y).epoch x y k ≡ t → (if t then decision_recording x b (decision_by ((s.bucket b).entry x) st live) else None) ≡ Some r → RecordFits own s r
      by false h e = absurd cc
      by true h e = decision_fits x y b (decision_by ((s.bucket b).entry x) st live) (heard_fits x y k b st live is h) r e

  -- ---- what is taken

  rows_recorded : (x y k b : ℕ) (page : RowMap) (t : Result Took RecvFault) (r : Recording) → (1 ≤ x) × (x ≤ sets_of s) → (s.link x y).calls ≡ (record { sync = k; message = Chunk b page }) ∷ rest (s.link x y).calls
      → received_at s x y b false ≡ t → taking_of x y (Chunk b page) t ≡ Some r → RecordFits own s r
  rows_recorded x y k b page (Err f) r within is g e = absurd cc
  rows_recorded x y k b page (Ok took) r within is g e =
      let old = s.bucket b in
      let head = (head_fits s.bucket x y (s.link x y) (record { sync = k; message = Chunk b page }) is (i.links x y)).0 in
      let same : (let w : Recording = record { at = y; change = AddRows b x page } in w) ≡ r = cc in
      let fits : RowsFit (sets_of s) old.entry old.transfer y x = record {
        within = within;
        free = data_taken (old.entry y) (is_locked s y) (receiving_at s y) s.config.max_receiving x took g;
        sends = phase_of (sets_of s) (own b) old x y (Waiting (s.link x y).epoch k (last_key page)) (i.buckets b) head.0;
        stuck = subst IsStuck (sym head.0.there) (subst IsWaiting (sym head.0.phase_is) tt);
      } in
      subst (RecordFits own s) same fits

  last_recorded : (x y k b : ℕ) (t : Result Took RecvFault) (r : Recording) → (s.link x y).calls ≡ (record { sync = k; message = Last b }) ∷ rest (s.link x y).calls → received_at s x y b true ≡ t → taking_of x y (Last b) t ≡ Some r → RecordFits own s r
  last_recorded x y k b (Err f) r is g e = absurd cc
  last_recorded x y k b (Ok took) r is g e =
      let old = s.bucket b in
      let head = (head_fits s.bucket x y (s.link x y) (record { sync = k; message = Last b }) is (i.links x y)).0 in
      let from = last_taken (old.entry y) (is_locked s y) (receiving_at s y) s.config.max_receiving x took g in
      record_fits y b Active r (status_fits own s y b (Some (Receiving x)) Active from (sym (last_owns (sets_of s) (own b) old x y (s.link x y).epoch k (i.buckets b) head from))) e

  -- ---- calls

  runs_held : (g : Stage) → is_running g ≡ true → is_held g ≡ true
  runs_held g h = grind arith

  written : (c x : ℕ) (k : Call) (r : Recording) → next_call (s.client c) ≡ Some k → is_running (s.client c).present.stage ≡ true → (s.client c).present.set ≡ Some x → write_of (s.client c) c (Some k) (Some x) ≡ Some r → RecordFits own s r
  written c x k r called running at e =
      let held = held_at (s.client c).present x (runs_held (s.client c).present.stage running) at in
      by k.mode refl (i.clients c k x called held) e
    where
      by : (m : Mode) → k.mode ≡ m → HoldFits (s.bucket k.bucket) x k.mode (s.client c).present.writes → write_of (s.client c) c (Some (record k { mode = m })) (Some x) ≡ Some r → RecordFits own s r
      by Ro is h e = absurd cc
      by Rw is h e =
          let same : (let w : Recording = record { at = x; change = Write (call_id c (s.client c)) k.bucket k.ops } in w) ≡ r = cc in
          subst (RecordFits own s) same (subst (λ m. HoldFits (s.bucket k.bucket) x m (s.client c).present.writes) is h)

  -- ---- pins

  pinned_fits : (c : Option Command) (p : Pinning) → pinning_of c ≡ Some p → pinning_fault s p p.status ≡ None → FitsIn (sets_of s) (own p.bucket) (s.bucket p.bucket) p.at (SetStatus p.bucket p.status)
  pinned_fits (Some (command.Pin b x)) p named none =
      let q : Pinning = record { bucket = b; at = x; status = Pinned } in
      let same : q ≡ p = cc in
      let free : pin_fault s b x ≡ None = subst (λ (r : Pinning). pinning_fault s r r.status ≡ None) (sym same) none in
      let g1 = or_none (if_down s x) _ free in
      let g2 = or_none (unless_active ((s.bucket b).entry x)) _ g1.1 in
      subst (λ (r : Pinning). FitsIn (sets_of s) (own r.bucket) (s.bucket r.bucket) r.at (SetStatus r.bucket r.status)) same (status_fits own s x b (Some Active) Pinned (active_is _ g2.0) tt)
  pinned_fits (Some (command.Unpin b x)) p named none =
      let q : Pinning = record { bucket = b; at = x; status = Active } in
      let same : q ≡ p = cc in
      let free : unpin_fault s b x ≡ None = subst (λ (r : Pinning). pinning_fault s r r.status ≡ None) (sym same) none in
      let g1 = or_none (if_down s x) _ free in
      subst (λ (r : Pinning). FitsIn (sets_of s) (own r.bucket) (s.bucket r.bucket) r.at (SetStatus r.bucket r.status)) same (status_fits own s x b (Some Pinned) Active (pinned_is _ g1.1) tt)
  pinned_fits None p named none = absurd cc
  pinned_fits (Some (command.Send b x d)) p named none = absurd cc
  pinned_fits (Some (command.Close x y)) p named none = absurd cc
  pinned_fits (Some (command.Cut c k)) p named none = absurd cc
  pinned_fits (Some (command.Stop x)) p named none = absurd cc
  pinned_fits (Some (command.Restart x)) p named none = absurd cc
  pinned_fits (Some command.Balance) p named none = absurd cc

  pinned_recorded : (o : ℕ) (p : Pinning) (r : Recording) → pinning_of (next_command (s.operator o)) ≡ Some p → pin_recording s p ≡ Some r → RecordFits own s r
  pinned_recorded o p r named e = by (pinning_fault s p p.status) refl e
    where
      by : (f : Option CommandFault) → pinning_fault s p p.status ≡ f → (if is_some f then None else recording p.at (SetStatus p.bucket p.status)) ≡ Some r → RecordFits own s r
      by (Some f) g e = absurd cc
      by None g e = record_fits p.at p.bucket p.status r (pinned_fits (next_command (s.operator o)) p named g) e

  -- ---- every event that is recorded

  -- what is recorded of a transfer that stands
  moved_to : (x b : ℕ) (w : Transfer) (f : ℕ → Option Recording) (r : Recording) → (s.bucket b).transfer x ≡ Some w → option_and_then f (dest_at s x b) ≡ Some r → f w.dest ≡ Some r
  moved_to x b w f r at e = subst (λ o. option_and_then f (option_map (λ (t : Transfer). t.dest) o) ≡ Some r) at e

  pub recorded_fits : (e : Recorded) (t : State) (r : Recording) → recorded_step s e ≡ Ok t → recording_of s e ≡ Some r → RecordFits own s r
  recorded_fits (recorded.Act c) t r h e =
      let can = can_act s t c h in
      written c can.x can.k r can.called can.running can.set
      (subst (λ o. write_of (s.client c) c (Some can.k) o ≡ Some r) can.set (subst (λ o. write_of (s.client c) c o (s.client c).present.set ≡ Some r) can.called e))
  recorded_fits (recorded.Freeze x b) t r h e =
      let can = can_freeze s t x b h in
      let f = (i.buckets b).transfers x can.u can.there in
      let active : (s.bucket b).entry x ≡ Some Active = subst (PhaseFits can.u.dest ((s.bucket b).entry x)) can.draining f.phase in
      record_fits x b (Sending can.u.dest) r (status_fits own s x b (Some Active) (Sending can.u.dest) active (f.apart, f.within.0, f.within.1)) (moved_to x b can.u (λ d. recording x (SetStatus b (Sending d))) r can.there e)
  recorded_fits (recorded.Seal x b) t r h e =
      let can = can_seal s t x b h in
      let f = (i.buckets b).transfers x can.u can.there in
      let sends : (s.bucket b).entry x ≡ Some (Sending can.u.dest) = subst (PhaseFits can.u.dest ((s.bucket b).entry x)) can.copied f.phase in
      let copy = subst (CopyFits (s.bucket b).entry (s.bucket b).rows x can.u.dest) can.copied f.copy in
      record_fits x b (Sent can.u.dest) r (status_fits own s x b (Some (Sending can.u.dest)) (Sent can.u.dest) sends (refl, f.apart, copy.0, copy.1)) (moved_to x b can.u (λ d. recording x (SetStatus b (Sent d))) r can.there e)
  recorded_fits (recorded.Deliver x y) t r h e =
      let can = can_deliver s t x y h in
      let f : option_and_then (λ (m : link.Sent). message_recording s x y m.message) (Some can.sent) ≡ Some r = subst (λ o. option_and_then (λ (m : link.Sent). message_recording s x y m.message) o ≡ Some r) can.head e in
      by can.sent.sync can.sent.message (head_is (x == y) (s.link x y).calls can.sent can.head) (within_of (sets_of s) x can.from) f
    where
      by : (k : ℕ) (m : Message) → (s.link x y).calls ≡ (record { sync = k; message = m }) ∷ rest (s.link x y).calls → (1 ≤ x) × (x ≤ sets_of s) → message_recording s x y m ≡ Some r → RecordFits own s r
      by k (Chunk b page) is within g = rows_recorded x y k b page (received_at s x y b false) r within is refl g
      by k (Last b) is within g = last_recorded x y k b (received_at s x y b true) r is refl g
      by k (Stat b) is within g = absurd cc
  recorded_fits (recorded.Hear x y) t r h e =
      let can = can_hear s t x y h in
      let f : option_and_then (λ (q : Heard). reply_recording s x y q q.reply) (Some can.heard) ≡ Some r = subst (λ o. option_and_then (λ (q : Heard). reply_recording s x y q q.reply) o ≡ Some r) can.head e in
      heard_recorded x y can.heard.sync can.heard.bucket can.heard.reply r (head_is (x == y) (s.link x y).replies can.heard can.head) f
  recorded_fits (recorded.Condemn x b) t r h e = let can = can_condemn s t x b h in record_fits x b Garbage r (status_fits own s x b (Some (Sent can.d)) Garbage can.sent tt) e
  recorded_fits (recorded.Wipe x b) t r h e =
      let can = can_wipe s t x b h in
      let same : (let w : Recording = record { at = x; change = Wipe b (min 1000 (length ((s.bucket b).rows x))) } in w) ≡ r = cc in
      subst (RecordFits own s) same can.garbage
  recorded_fits (recorded.Forget x b) t r h e =
      let can = can_forget s t x b h in
      let same : (let w : Recording = record { at = x; change = Forget b } in w) ≡ r = cc in
      subst (RecordFits own s) same (can.garbage, null_is _ can.no_rows)
  recorded_fits (recorded.Pin o) t r h e =
      let can = can_pin s t o h in
      pinned_recorded o can.p r can.named (subst (λ q. option_and_then (pin_recording s) q ≡ Some r) can.named e)

-- ---- a set goes down

none_still : (moves : ℕ → Option Transfer) (x z : ℕ) → moves z ≡ None → put moves x None z ≡ None
none_still moves x z = put_each (λ q v. moves q ≡ None → v ≡ None) moves x None (λ _. refl) (λ q h. h) z

-- the transfer of a set is gone, or was
pub without_row : (n o : ℕ) (has : ℕ → Option Status) (moves : ℕ → Option Transfer) (rows : ℕ → RowMap) (x z : ℕ) (change : Change) → ChangeFits n o has moves rows z change → ChangeFits n o has (put moves x None) rows z change
without_row n o has moves rows x z (SetStatus b st) f = by (has z) st f
  where
    by : (e : Option Status) (st : Status) → StatusFits n o has moves rows z e st → StatusFits n o has (put moves x None) rows z e st
    by (Some Active) Pinned f = tt
    by (Some Pinned) Active f = tt
    by (Some Active) (Sending d) f = f
    by (Some (Sending d)) (Sent e) f = f
    by (Some (Sending d)) Active f = (none_still moves x z f.0, f.1)
    by (Some (Receiving y)) Active f = f
    by (Some (Receiving y)) Garbage f = (f.0, none_still moves x y f.1)
    by (Some (Sent d)) Garbage f = tt
    by e st f = absurd f
without_row n o has moves rows x z (AddRows b y r) f = record { within = f.within; free = f.free; sends = f.sends; stuck = put_each (λ q v. IsStuck (moves q) → IsStuck v) moves x None (λ _. tt) (λ q h. h) y f.stuck }
without_row n o has moves rows x z (Write id b ops) f = f
without_row n o has moves rows x z (Wipe b k) f = f
without_row n o has moves rows x z (Forget b) f = f

down_still : (s : State) (x y : ℕ) → IsDown s y → put s.up x false y ≡ false
down_still s x y h = put_each (λ q v. s.up q ≡ false → v ≡ false) s.up x false (λ _. refl) (λ q g. g) y h

gone_down_pends : (own : ℕ → ℕ) (s : State) (x : ℕ) → PendingFits own s → PendingFits own (gone_down s x)
gone_down_pends own s x p y change h =
    let f = p y change h in
    let old = s.bucket (bucket_of change) in
    (down_still s x y f.0, without_row (sets_of s) (own (bucket_of change)) old.entry old.transfer old.rows x y change f.1)

pub stop_pends : (own : ℕ → ℕ) (s t : State) (o : ℕ) → PendingFits own s → stop s o ≡ Ok t → PendingFits own t
stop_pends own s t o p e =
    let can = can_stop s t o e in
    subst (PendingFits own) can.gives (by can.x (s.up can.x))
  where
    by : (x : ℕ) (up : Bool) → PendingFits own (if up then put_operator (gone_down s x) o (answer (s.operator o) Done) else put_operator s o (answer (s.operator o) WasDown))
    by x true = gone_down_pends own s x p
    by x false = p

pub fault_pends : (own : ℕ → ℕ) (s t : State) (x n : ℕ) (e : Recorded) → Inner own s → AsksFit own s.bucket s.link → PendingFits own s → fault s x n e ≡ Ok t → PendingFits own t
fault_pends own s t x n e i a p h =
    let can = can_fault s t x n e h in
    subst (PendingFits own) can.gives (pends can.change (recorded_fits own s i a e can.next (record { at = x; change = can.change }) can.possible can.records))
  where
    pends : (change : Change) → FitsIn (sets_of s) (own (bucket_of change)) (s.bucket (bucket_of change)) x change → PendingFits own (after_fault s x n change)
    pends change f y w h = elim (put_split s.pending x (Some change) y (Some w) h) [
      | inl g ↦
          let same : change ≡ w = cc (g.1) in
          let old = s.bucket (bucket_of w) in
          let fits : FitsIn (sets_of s) (own (bucket_of w)) old y w = subst (λ q. FitsIn (sets_of s) (own (bucket_of w)) old q w) (sym g.0) (subst (λ c. FitsIn (sets_of s) (own (bucket_of c)) (s.bucket (bucket_of c)) x c) same f) in
          (subst (λ q. put s.up x false q ≡ false) (sym g.0) (put_here s.up x false), without_row (sets_of s) (own (bucket_of w)) old.entry old.transfer old.rows x y w fits)
      | inr g ↦ let k = p y w g.1 in let old = s.bucket (bucket_of w) in (down_still s x y k.0, without_row (sets_of s) (own (bucket_of w)) old.entry old.transfer old.rows x y w k.1)
    ]
