-- No two sets that are down are to take a bucket apart: kept by every event.
use Rattle.std.proofs.Common.{◌≡◌, ℕ, inl, inr, Bool, true, false, refl, sym, ap, subst, ◌∷◌, length, Option, Some, None, Result, Ok, Err}
use Rattle.std.specs.Prelude.{◌⊎◌, ◌==◌, min, All, if◌then◌else◌, is_some}
use Rattle.std.specs.Option.{option_and_then, option_map}
use Rattle.std.proofs.lemmas.List.Elements.{All-head}
use Rattle.vs_base.specs.declared.numbers.Mode.{Mode}
use Rattle.vs_base.specs.declared.numbers.Mode.TheVariants.{Ro, Rw}
use Rattle.vs_rows.specs.RowMap.{RowMap}
use Rattle.vs_event.specs.declared.event.Recorded.{Recorded}
use Rattle.vs_event.specs.declared.event.Recorded.TheVariants as recorded
use Rattle.vs_event.specs.declared.event.RestartBy.{RestartBy}
use Rattle.vs_space.specs.declared.reply.Reply.{Reply}
use Rattle.vs_space.specs.declared.reply.Reply.TheVariants as reply
use Rattle.vs_space.specs.declared.reply.RecvFault.{RecvFault}
use Rattle.vs_space.specs.declared.status.Status.{Status}
use Rattle.vs_space.specs.declared.status.Status.TheVariants.{Active, Pinned, Sending, Receiving, Sent, Garbage}
use Rattle.vs_link.specs.Connection.{Message, Chunk, Last, Stat, rest}
use Rattle.vs_link.specs.Connection as link
use Rattle.vs_link.specs.declared.message.Heard.{Heard}
use Rattle.vs_record.specs.Change.{Change, SetStatus, AddRows, Write, Wipe, Forget}
use Rattle.vs_recv.specs.declared.took.Took.{Took}
use Rattle.vs_recover.specs.declared.decision.Decision.{Decision}
use Rattle.vs_recover.specs.declared.decision.Decision.TheVariants.{Stay, ToActive, ToGarbage}
use Rattle.vs_script.specs.Calls.{Call}
use Rattle.vs_script.specs.declared.command.Command.{Command}
use Rattle.vs_script.specs.declared.command.Command.TheVariants as command
use Rattle.vs_send.specs.declared.transfer.Transfer.{Transfer}
use Rattle.vs_machine.specs.declared.outcome.CommandFault.{CommandFault}
use Rattle.vs_machine.specs.Tables.{put}
use Rattle.vs_machine.specs.State.{State, sets_of, call_id, is_locked, next_call, next_command}
use Rattle.vs_machine.specs.Kinds.Connections.{received_at, receiving_at, counts_at, decision_by, asked_set, is_ask, is_set_named}
use Rattle.vs_machine.specs.Kinds.Faults.{unpin_fault, if_down}
use Rattle.vs_machine.specs.Kinds.Pinning.{Pinning, pinning_of, pinning_fault}
use Rattle.vs_machine.specs.Kinds.Stops.{Recording, recording, write_of, dest_at, taking_of, message_recording, decision_recording, reply_recording, pin_recording, recording_of, recorded_step, fault, restart}
use Rattle.vs_machine.specs.Whole.{Inner}
use Rattle.vs_machine.specs.Inner.Asks.{AsksFit}
use Rattle.vs_machine.specs.Inner.Down.{IsUp, UpFits, IsStuck, IsWaiting, StatusFits, PendingFits, PairsFit}
use Rattle.vs_machine.proofs.Can.Others.{can_deliver, can_hear, can_condemn, can_pin}
use Rattle.vs_machine.proofs.Can.Sender.{can_freeze, can_seal}
use Rattle.vs_machine.proofs.Can.Stops.{can_fault}
use Rattle.vs_machine.proofs.Frame.{put_split}
use Rattle.vs_machine.proofs.Order.Stops.{restart_any}
use Rattle.vs_machine.proofs.Possible.{both_are}
use Rattle.vs_machine.proofs.Kept.Delivering.{head_is}
use Rattle.vs_machine.proofs.Kept.Pinning.{pinned_is}
use Rattle.vs_machine.proofs.Kept.Recovering.{named_is}
use Rattle.vs_machine.proofs.Kept.Sending.{or_none}
use Rattle.vs_machine.proofs.Kept.Taking.{last_taken}
use Rattle.vs_machine.proofs.Pends.Recording.{RecordFits, recorded_fits}

-- what is known of a change when a fault records it at set x
abbrev FreshAt : State → ℕ → Change → Type 0
FreshAt s x (SetStatus b (Sent d)) = IsStuck ((s.bucket b).transfer x) → ⊥
FreshAt s x (SetStatus b Active) = (w : ℕ) → (s.bucket b).entry x ≡ Some (Sending w) → IsUp s w
FreshAt s x (SetStatus b Garbage) = (w : ℕ) → (s.bucket b).entry x ≡ Some (Receiving w) → IsUp s w
FreshAt s x (AddRows b z page) = IsUp s z
FreshAt s x change = Unit {0}

abbrev Fresh : State → Recording → Type 0
Fresh s r = FreshAt s r.at r.change

module _ (s : State) (u : UpFits s) where
  fresh_at : (x : ℕ) (change : Change) (r : Recording) → FreshAt s x change → recording x change ≡ Some r → Fresh s r
  fresh_at x change r f e = let same : (let w : Recording = record { at = x; change = change } in w) ≡ r = cc in subst (Fresh s) same f

  -- ---- what is decided by an answer: the set that answered is up

  by_answer : (x y b : ℕ) (d : Decision) (r : Recording) → IsUp s y → asked_set ((s.bucket b).entry x) ≡ Some y → decision_recording x b d ≡ Some r → Fresh s r
  by_answer x y b Stay r up named e = absurd cc
  by_answer x y b ToActive r up named e = fresh_at x (SetStatus b Active) r (λ w to. let same : y ≡ w = cc (ap asked_set to, named) in subst (IsUp s) same up) e
  by_answer x y b ToGarbage r up named e = fresh_at x (SetStatus b Garbage) r (λ w from. let same : y ≡ w = cc (ap asked_set from, named) in subst (IsUp s) same up) e

  heard_fresh : (x y k b : ℕ) (q : Reply) (r : Recording) → (s.link x y).replies ≡ (record { sync = k; bucket = b; reply = q }) ∷ rest (s.link x y).replies → reply_recording s x y (record { sync = k; bucket = b; reply = q }) q ≡ Some r → Fresh s r
  heard_fresh x y k b reply.Took r is e = absurd cc
  heard_fresh x y k b (reply.Not f) r is e = absurd cc
  heard_fresh x y k b (reply.State st live) r is e = by (counts_at (s.bucket b) (s.link x y).epoch x y k) refl e
    where
      y_up : IsUp s y
      y_up = let P : Heard → Type 0 = λ v. IsUp s x × IsUp s y in (All-head P (record { sync = k; bucket = b; reply = reply.State st live }) (rest (s.link x y).replies) (subst (All P) is (u.replies x y))).1

      by : (t : Bool) → counts_at (s.bucket b) (s.link x y).epoch x y k ≡ t → (if t then decision_recording x b (decision_by ((s.bucket b).entry x) st live) else None) ≡ Some r → Fresh s r
      by false h e = absurd cc
      by true h e =
          let both = both_are (is_ask ((s.bucket b).ask x) (s.link x y).epoch k) (is_set_named (asked_set ((s.bucket b).entry x)) y) h in
          by_answer x y b (decision_by ((s.bucket b).entry x) st live) r y_up (named_is _ y both.1) e

  -- ---- what is taken

  rows_fresh : (x y k b : ℕ) (page : RowMap) (t : Result Took RecvFault) (r : Recording) → (s.link x y).calls ≡ (record { sync = k; message = Chunk b page }) ∷ rest (s.link x y).calls → taking_of x y (Chunk b page) t ≡ Some r → Fresh s r
  rows_fresh x y k b page (Err f) r is e = absurd cc
  rows_fresh x y k b page (Ok took) r is e =
      let P : link.Sent → Type 0 = λ v. IsUp s x × IsUp s y in
      let ups = All-head P (record { sync = k; message = Chunk b page }) (rest (s.link x y).calls) (subst (All P) is (u.messages x y)) in
      fresh_at y (AddRows b x page) r ups.0 e

  last_fresh : (x y b : ℕ) (t : Result Took RecvFault) (r : Recording) → received_at s x y b true ≡ t → taking_of x y (Last b) t ≡ Some r → Fresh s r
  last_fresh x y b (Err f) r g e = absurd cc
  last_fresh x y b (Ok took) r g e =
      let from = last_taken ((s.bucket b).entry y) (is_locked s y) (receiving_at s y) s.config.max_receiving x took g in
      fresh_at y (SetStatus b Active) r (λ w to. absurd (cc (to, from))) e

  -- ---- calls and pins

  written_fresh : (c : ℕ) (k : Option Call) (x : Option ℕ) (r : Recording) → write_of (s.client c) c k x ≡ Some r → Fresh s r
  written_fresh c None x r e = absurd cc
  written_fresh c (Some k) None r e = absurd cc
  written_fresh c (Some k) (Some x) r e = by k.mode e
    where
      by : (m : Mode) → write_of (s.client c) c (Some (record k { mode = m })) (Some x) ≡ Some r → Fresh s r
      by Ro e = absurd cc
      by Rw e = fresh_at x (Write (call_id c (s.client c)) k.bucket k.ops) r tt e

  pinned_fresh : (c : Option Command) (p : Pinning) (r : Recording) → pinning_of c ≡ Some p → pin_recording s p ≡ Some r → Fresh s r
  pinned_fresh c p r named e = by (pinning_fault s p p.status) refl e
    where
      of : (c : Option Command) → pinning_of c ≡ Some p → pinning_fault s p p.status ≡ None → FreshAt s p.at (SetStatus p.bucket p.status)
      of (Some (command.Pin b x)) h none =
          let q : Pinning = record { bucket = b; at = x; status = Pinned } in
          let same : q ≡ p = cc in
          subst (λ (r : Pinning). FreshAt s r.at (SetStatus r.bucket r.status)) same tt
      of (Some (command.Unpin b x)) h none =
          let q : Pinning = record { bucket = b; at = x; status = Active } in
          let same : q ≡ p = cc in
          let free : unpin_fault s b x ≡ None = subst (λ (r : Pinning). pinning_fault s r r.status ≡ None) (sym same) none in
          let at = pinned_is _ (or_none (if_down s x) _ free).1 in
          subst (λ (r : Pinning). FreshAt s r.at (SetStatus r.bucket r.status)) same (λ w to. absurd (cc (to, at)))
      of None h none = absurd cc
      of (Some (command.Send b x d)) h none = absurd cc
      of (Some (command.Close x y)) h none = absurd cc
      of (Some (command.Cut c k)) h none = absurd cc
      of (Some (command.Stop x)) h none = absurd cc
      of (Some (command.Restart x)) h none = absurd cc
      of (Some command.Balance) h none = absurd cc

      by : (f : Option CommandFault) → pinning_fault s p p.status ≡ f → (if is_some f then None else recording p.at (SetStatus p.bucket p.status)) ≡ Some r → Fresh s r
      by (Some f) g e = absurd cc
      by None g e = fresh_at p.at (SetStatus p.bucket p.status) r (of c named g) e

  -- ---- every event that is recorded

  moved_to : (x b : ℕ) (w : Transfer) (f : ℕ → Option Recording) (r : Recording) → (s.bucket b).transfer x ≡ Some w → option_and_then f (dest_at s x b) ≡ Some r → f w.dest ≡ Some r
  moved_to x b w f r at e = subst (λ o. option_and_then f (option_map (λ (t : Transfer). t.dest) o) ≡ Some r) at e

  recorded_fresh : (e : Recorded) (t : State) (r : Recording) → recorded_step s e ≡ Ok t → recording_of s e ≡ Some r → Fresh s r
  recorded_fresh (recorded.Act c) t r h e = written_fresh c (next_call (s.client c)) (s.client c).present.set r e
  recorded_fresh (recorded.Freeze x b) t r h e =
      let can = can_freeze s t x b h in
      fresh_at x (SetStatus b (Sending can.u.dest)) r tt (moved_to x b can.u (λ d. recording x (SetStatus b (Sending d))) r can.there e)
  recorded_fresh (recorded.Seal x b) t r h e =
      let can = can_seal s t x b h in
      fresh_at x (SetStatus b (Sent can.u.dest)) r (λ st. subst IsWaiting can.copied (subst IsStuck can.there st)) (moved_to x b can.u (λ d. recording x (SetStatus b (Sent d))) r can.there e)
  recorded_fresh (recorded.Deliver x y) t r h e =
      let can = can_deliver s t x y h in
      let f : option_and_then (λ (m : link.Sent). message_recording s x y m.message) (Some can.sent) ≡ Some r = subst (λ o. option_and_then (λ (m : link.Sent). message_recording s x y m.message) o ≡ Some r) can.head e in
      by can.sent.sync can.sent.message (head_is (x == y) (s.link x y).calls can.sent can.head) f
    where
      by : (k : ℕ) (m : Message) → (s.link x y).calls ≡ (record { sync = k; message = m }) ∷ rest (s.link x y).calls → message_recording s x y m ≡ Some r → Fresh s r
      by k (Chunk b page) is g = rows_fresh x y k b page (received_at s x y b false) r is g
      by k (Last b) is g = last_fresh x y b (received_at s x y b true) r refl g
      by k (Stat b) is g = absurd cc
  recorded_fresh (recorded.Hear x y) t r h e =
      let can = can_hear s t x y h in
      let f : option_and_then (λ (q : Heard). reply_recording s x y q q.reply) (Some can.heard) ≡ Some r = subst (λ o. option_and_then (λ (q : Heard). reply_recording s x y q q.reply) o ≡ Some r) can.head e in
      heard_fresh x y can.heard.sync can.heard.bucket can.heard.reply r (head_is (x == y) (s.link x y).replies can.heard can.head) f
  recorded_fresh (recorded.Condemn x b) t r h e = let can = can_condemn s t x b h in fresh_at x (SetStatus b Garbage) r (λ w from. absurd (cc (from, can.sent))) e
  recorded_fresh (recorded.Wipe x b) t r h e = fresh_at x (Wipe b (min 1000 (length ((s.bucket b).rows x)))) r tt e
  recorded_fresh (recorded.Forget x b) t r h e = fresh_at x (Forget b) r tt e
  recorded_fresh (recorded.Pin o) t r h e =
      let can = can_pin s t o h in
      pinned_fresh (next_command (s.operator o)) can.p r can.named (subst (λ q. option_and_then (pin_recording s) q ≡ Some r) can.named e)

-- ---- one more change is pending

-- a bucket that is to be thrown away is received, or was sent
thrown_from : (own : ℕ → ℕ) (s : State) (x b : ℕ) → (let old = s.bucket b in StatusFits (sets_of s) (own b) old.entry old.transfer old.rows x (old.entry x) Garbage)
    → ((w : ℕ) × ((s.bucket b).entry x ≡ Some (Receiving w)) × ((s.bucket b).transfer w ≡ None)) ⊎ ((w : ℕ) × ((s.bucket b).entry x ≡ Some (Sent w)))
thrown_from own s x b f = by ((s.bucket b).entry x) refl f
  where
    by : (e : Option Status) → (s.bucket b).entry x ≡ e → (let old = s.bucket b in StatusFits (sets_of s) (own b) old.entry old.transfer old.rows x e Garbage)
        → ((w : ℕ) × ((s.bucket b).entry x ≡ Some (Receiving w)) × ((s.bucket b).transfer w ≡ None)) ⊎ ((w : ℕ) × ((s.bucket b).entry x ≡ Some (Sent w)))
    by (Some (Receiving w)) at f = inl (w, at, f.1)
    by (Some (Sent w)) at f = inr (w, at)
    by None at f = absurd f
    by (Some Active) at f = absurd f
    by (Some Pinned) at f = absurd f
    by (Some (Sending d)) at f = absurd f
    by (Some Garbage) at f = absurd f

-- a bucket that is to be handed over to d is received there
handed_to : (own : ℕ → ℕ) (s : State) (x b d : ℕ) → (let old = s.bucket b in StatusFits (sets_of s) (own b) old.entry old.transfer old.rows x (old.entry x) (Sent d)) → (s.bucket b).entry d ≡ Some (Receiving x)
handed_to own s x b d f = by ((s.bucket b).entry x) f
  where
    by : (e : Option Status) → (let old = s.bucket b in StatusFits (sets_of s) (own b) old.entry old.transfer old.rows x e (Sent d)) → (s.bucket b).entry d ≡ Some (Receiving x)
    by (Some (Sending c)) f = subst (λ k. (s.bucket b).entry k ≡ Some (Receiving x)) (sym f.0) f.2
    by None f = absurd f
    by (Some Active) f = absurd f
    by (Some Pinned) f = absurd f
    by (Some (Receiving c)) f = absurd f
    by (Some (Sent c)) f = absurd f
    by (Some Garbage) f = absurd f

module _ (own : ℕ → ℕ) (s : State) (p : PendingFits own s) (pairs : PairsFit s.pending) where
  down_up : (x : ℕ) → s.up x ≡ false → IsUp s x → ⊥
  down_up x down up = absurd (cc (up, down))

  added_pairs : (x : ℕ) (change : Change) → FreshAt s x change → RecordFits own s (record { at = x; change = change }) → PairsFit (put s.pending x (Some change))
  added_pairs x change f fits = record {
    thrown = λ y z b hy hz. elim (put_split s.pending x (Some change) y _ hy) [
      | inl ey ↦ elim (put_split s.pending x (Some change) z _ hz) [
        | inl ez ↦ absurd (cc (ey.1, ez.1))
        | inr ez ↦
            let is : change ≡ SetStatus b Garbage = cc (ey.1) in
            let row = p z (SetStatus b (Sent y)) ez.1 in
            let there : (s.bucket b).entry x ≡ Some (Receiving z) = subst (λ q. (s.bucket b).entry q ≡ Some (Receiving z)) ey.0 (handed_to own s z b y row.1) in
            down_up z row.0 (fresh is there)
      ]
      | inr ey ↦ elim (put_split s.pending x (Some change) z _ hz) [
        | inl ez ↦
            let is : change ≡ SetStatus b (Sent y) = cc (ez.1) in
            let mine = subst (λ c. RecordFits own s (record { at = x; change = c })) is fits in
            let there : (s.bucket b).entry y ≡ Some (Receiving x) = handed_to own s x b y mine in
            let row = p y (SetStatus b Garbage) ey.1 in
            by_thrown b y x is there (thrown_from own s y b row.1)
        | inr ez ↦ pairs.thrown y z b ey.1 ez.1
      ]
    ];
    taken = λ y z b q hy hz. elim (put_split s.pending x (Some change) y _ hy) [
      | inl ey ↦ elim (put_split s.pending x (Some change) z _ hz) [
        | inl ez ↦ absurd (cc (ey.1, ez.1))
        | inr ez ↦
            let is : change ≡ SetStatus b Active = cc (ey.1) in
            let row = p z (AddRows b y q) ez.1 in
            let to : (s.bucket b).entry x ≡ Some (Sending z) = subst (λ w. (s.bucket b).entry w ≡ Some (Sending z)) ey.0 row.1.sends in
            down_up z row.0 (fresh_active is to)
      ]
      | inr ey ↦ elim (put_split s.pending x (Some change) z _ hz) [
        | inl ez ↦ let is : change ≡ AddRows b y q = cc (ez.1) in down_up y (p y (SetStatus b Active) ey.1).0 (fresh_rows is)
        | inr ez ↦ pairs.taken y z b q ey.1 ez.1
      ]
    ];
    handed = λ y z b q hy hz. elim (put_split s.pending x (Some change) y _ hy) [
      | inl ey ↦ elim (put_split s.pending x (Some change) z _ hz) [
        | inl ez ↦ absurd (cc (ey.1, ez.1))
        | inr ez ↦
            let is : change ≡ SetStatus b (Sent z) = cc (ey.1) in
            let row = p z (AddRows b y q) ez.1 in
            fresh_sent is (subst (λ w. IsStuck ((s.bucket b).transfer w)) ey.0 row.1.stuck)
      ]
      | inr ey ↦ elim (put_split s.pending x (Some change) z _ hz) [
        | inl ez ↦ let is : change ≡ AddRows b y q = cc (ez.1) in down_up y (p y (SetStatus b (Sent z)) ey.1).0 (fresh_rows is)
        | inr ez ↦ pairs.handed y z b q ey.1 ez.1
      ]
    ];
  }
    where
      fresh : {b w : ℕ} → change ≡ SetStatus b Garbage → (s.bucket b).entry x ≡ Some (Receiving w) → IsUp s w
      fresh {b} {w} is there = let g : FreshAt s x (SetStatus b Garbage) = subst (FreshAt s x) is f in g w there

      fresh_active : {b w : ℕ} → change ≡ SetStatus b Active → (s.bucket b).entry x ≡ Some (Sending w) → IsUp s w
      fresh_active {b} {w} is there = let g : FreshAt s x (SetStatus b Active) = subst (FreshAt s x) is f in g w there

      fresh_rows : {b z : ℕ} {q : RowMap} → change ≡ AddRows b z q → IsUp s z
      fresh_rows {b} {z} {q} is = subst (FreshAt s x) is f

      fresh_sent : {b d : ℕ} → change ≡ SetStatus b (Sent d) → IsStuck ((s.bucket b).transfer x) → ⊥
      fresh_sent {b} {d} is st = let g : FreshAt s x (SetStatus b (Sent d)) = subst (FreshAt s x) is f in g st

      by_thrown : (b y z : ℕ) → change ≡ SetStatus b (Sent y) → (s.bucket b).entry y ≡ Some (Receiving x) → ((w : ℕ) × ((s.bucket b).entry y ≡ Some (Receiving w)) × ((s.bucket b).transfer w ≡ None)) ⊎ ((w : ℕ) × ((s.bucket b).entry y ≡ Some (Sent w))) → ⊥
      by_thrown b y z is there (inl k) =
          let same : k.0 ≡ x = cc (there, k.1) in
          fresh_sent is (subst IsStuck (sym (subst (λ w. (s.bucket b).transfer w ≡ None) same k.2)) tt)
      by_thrown b y z is there (inr k) = absurd (cc (there, k.1))

pub fault_pairs : (own : ℕ → ℕ) (s t : State) (x n : ℕ) (e : Recorded) → Inner own s → UpFits s → AsksFit own s.bucket s.link → PendingFits own s → PairsFit s.pending → fault s x n e ≡ Ok t → PairsFit t.pending
fault_pairs own s t x n e i u a p pairs h =
    let can = can_fault s t x n e h in
    let r : Recording = record { at = x; change = can.change } in
    subst (λ (w : State). PairsFit w.pending) can.gives
    (added_pairs own s p pairs x can.change (recorded_fresh s u e can.next r can.possible can.records) (recorded_fits own s i a e can.next r can.possible can.records))

-- ---- fewer changes are pending

fewer : (f : ℕ → Option Change) (x : ℕ) → PairsFit f → PairsFit (put f x None)
fewer f x r = record {
  thrown = λ y z b hy hz. r.thrown y z b (still y _ hy) (still z _ hz);
  taken = λ y z b q hy hz. r.taken y z b q (still y _ hy) (still z _ hz);
  handed = λ y z b q hy hz. r.handed y z b q (still y _ hy) (still z _ hz);
}
  where
    still : (y : ℕ) (change : Change) → put f x None y ≡ Some change → f y ≡ Some change
    still y change h = elim (put_split f x None y (Some change) h) [ inl e ↦ absurd (cc (e.1)) | inr e ↦ e.1 ]

pub restart_pairs : (s t : State) (x : ℕ) (kept : Bool) (by : RestartBy) → PairsFit s.pending → restart s x kept by ≡ Ok t → PairsFit t.pending
restart_pairs s t x kept by r e = restart_any (λ (v : State). PairsFit v.pending) s t x kept by (λ v os h. h) r (fewer s.pending x r) (λ change is. fewer s.pending x r) e
