-- What an event that is recorded writes, by its kind.
use Rattle.std.proofs.Common.{◌≡◌, ℕ, ◌≤◌, arith, Bool, true, false, refl, sym, ap, subst, [], ◌∷◌, length, Option, Some, None, Result, Ok, Err}
use Rattle.std.specs.Prelude.{◌==◌, min, if◌then◌else◌, is_some, All}
use Rattle.std.specs.Option.{option_and_then, option_map}
use Rattle.std.proofs.lemmas.List.{drop_min}
use Rattle.std.proofs.lemmas.List.Elements.{All-head}
use Rattle.vs_base.specs.declared.numbers.Mode.{Mode}
use Rattle.vs_base.specs.declared.numbers.Mode.TheVariants.{Ro, Rw}
use Rattle.vs_rows.specs.RowMap.{RowMap}
use Rattle.vs_calls.specs.declared.stage.Stage.{Stage}
use Rattle.vs_calls.specs.Progress.{is_running}
use Rattle.vs_event.specs.declared.event.Recorded.{Recorded}
use Rattle.vs_event.specs.declared.event.Recorded.TheVariants as recorded
use Rattle.vs_link.specs.Connection.{Message, Chunk, Last, Stat, rest}
use Rattle.vs_link.specs.Connection as link
use Rattle.vs_link.specs.declared.message.Heard.{Heard}
use Rattle.vs_record.specs.Change.{Change, SetStatus, Write, Wipe, Forget}
use Rattle.vs_recover.specs.declared.decision.Decision.{Decision}
use Rattle.vs_recover.specs.declared.decision.Decision.TheVariants.{Stay, ToActive, ToGarbage}
use Rattle.vs_recv.specs.declared.took.Took.{Took}
use Rattle.vs_script.specs.Calls.{Call}
use Rattle.vs_send.specs.declared.transfer.Transfer.{Transfer}
use Rattle.vs_space.specs.declared.reply.Reply.{Reply}
use Rattle.vs_space.specs.declared.reply.Reply.TheVariants as reply
use Rattle.vs_space.specs.declared.reply.RecvFault.{RecvFault}
use Rattle.vs_space.specs.declared.status.Status.TheVariants.{Active, Sending, Sent, Garbage}
use Rattle.vs_machine.specs.declared.outcome.CommandFault.{CommandFault}
use Rattle.vs_machine.specs.History.{IsCallOf, scripts_of}
use Rattle.vs_machine.specs.Inner.Answers.{AnswersFit}
use Rattle.vs_machine.specs.Inner.Down.{has_begun, IsUp, UpFits}
use Rattle.vs_machine.specs.Inner.Once.{OnceFits}
use Rattle.vs_machine.specs.Journals.{durable_in, IsWritten, AreWritten}
use Rattle.vs_machine.specs.Kinds.Calls.{act, bucket_after}
use Rattle.vs_machine.specs.Kinds.Connections.{deliver, after_deliver, received_at, bucket_taking, hear, after_hear, counts_at, decision_by, decided, is_null}
use Rattle.vs_machine.specs.Kinds.Pinning.{Pinning, pinning_of, pinning_fault, pin, after_pin}
use Rattle.vs_machine.specs.Kinds.Sender.{freeze, after_freeze, seal, after_seal}
use Rattle.vs_machine.specs.Kinds.Stops.{Recording, recording, write_of, dest_at, taking_of, message_recording, decision_recording, reply_recording, pin_recording, recording_of, recorded_step}
use Rattle.vs_machine.specs.State.{State, Bucket, next_command, call_id}
use Rattle.vs_machine.specs.Tables.{put}
use Rattle.vs_machine.proofs.Can.Calls.{can_act}
use Rattle.vs_machine.proofs.Can.Others.{can_deliver, can_hear, can_condemn, can_wipe, can_forget, can_pin}
use Rattle.vs_machine.proofs.Can.Sender.{can_freeze, can_seal}
use Rattle.vs_machine.proofs.Kept.Delivering.{head_is}
use Rattle.vs_machine.proofs.Kept.Pinning.{may_pin}
use Rattle.vs_machine.proofs.Once.Steps.{of_script}
use Rattle.vs_machine.proofs.Recorded.Durables.{unwritten, status_written, forget_written, call_written, wipe_written, page_written}

-- so many rows may be wiped of these
pub record IsWipe (n : ℕ) (rows : RowMap) : Type 0 where
  pub some : 1 ≤ n
  pub most : n ≤ 1000
  pub within : n ≤ length rows

-- what the rules of the buckets don't say of a change of set x: a write is a call of its script, and a wipe finds its rows
abbrev pub IsCounted : State → ℕ → Change → Type 0
IsCounted s x (Write id b ops) = IsCallOf (scripts_of s) b Rw (record { id = id; ops = ops; answers = []; place = 0 })
IsCounted s x (Wipe b n) = IsWipe n ((s.bucket b).rows x)
IsCounted s x c = Unit {0}

-- the set is up, and its change takes effect
pub record IsMade (s : State) (later : ℕ → Bucket) (r : Recording) : Type 0 where
  pub up : IsUp s r.at
  pub writes : IsWritten s.bucket later r
  pub counted : IsCounted s r.at r.change

abbrev pub Makes : State → (ℕ → Bucket) → Option Recording → Type 0
Makes s later None = (x : ℕ) → durable_in later x ≡ durable_in s.bucket x
Makes s later (Some r) = IsMade s later r

pub made_written : (s : State) (later : ℕ → Bucket) (o : Option Recording) → Makes s later o → AreWritten s.bucket later o
made_written s later None h = h
made_written s later (Some r) h = h.writes

-- some rows are wiped
wipes : (rows : RowMap) → is_null rows ≡ false → IsWipe (min 1000 (length rows)) rows
wipes [] h = absurd cc
wipes (x ∷ rows) h = record { some = omega arith; most = omega arith; within = omega arith }

module _ (s : State) (u : UpFits s) (g : AnswersFit s) (i : OnceFits s) where
  act_makes : (t : State) (c : ℕ) → act s c ≡ Ok t → Makes s t.bucket (recording_of s (recorded.Act c))
  act_makes t c e =
      let p = can_act s t c e in
      let old = s.client c in
      let later : ℕ → Bucket = put s.bucket p.k.bucket (bucket_after (s.bucket p.k.bucket) p.x (call_id c old) p.k.mode p.k.ops) in
      subst (λ (v : State). Makes s v.bucket (recording_of s (recorded.Act c))) p.gives
      (subst (λ o. Makes s later (write_of old c o old.present.set)) (sym p.called)
      (subst (λ o. Makes s later (write_of old c (Some p.k) o)) (sym p.set)
      (by p.k p.x p.k.mode (u.calls c p.x (begun old.present.stage p.running) p.set) (of_script s c p.k p.running p.called g i))))
    where
      begun : (v : Stage) → is_running v ≡ true → has_begun v ≡ true
      begun v h = grind arith

      by : (k : Call) (x : ℕ) (m : Mode) → IsUp s x → IsCallOf (scripts_of s) k.bucket m (record { id = call_id c (s.client c); ops = k.ops; answers = []; place = 0 })
          → Makes s (put s.bucket k.bucket (bucket_after (s.bucket k.bucket) x (call_id c (s.client c)) m k.ops)) (write_of (s.client c) c (Some (record k { mode = m })) (Some x))
      by k x Ro up called = unwritten s.bucket k.bucket (bucket_after (s.bucket k.bucket) x (call_id c (s.client c)) Ro k.ops) refl refl
      by k x Rw up called = record { up = up; writes = call_written s.bucket k.bucket _ x (call_id c (s.client c)) k.ops refl refl; counted = called }

  -- what is written of a transfer that stands
  moved_makes : (x b : ℕ) (later : ℕ → Bucket) (w : Transfer) (f : ℕ → Option Recording) → (s.bucket b).transfer x ≡ Some w → Makes s later (f w.dest) → Makes s later (option_and_then f (dest_at s x b))
  moved_makes x b later w f at h = subst (λ o. Makes s later (option_and_then f (option_map (λ (t : Transfer). t.dest) o))) (sym at) h

  freeze_makes : (t : State) (x b : ℕ) → freeze s x b ≡ Ok t → Makes s t.bucket (recording_of s (recorded.Freeze x b))
  freeze_makes t x b e =
      let p = can_freeze s t x b e in
      subst (λ (v : State). Makes s v.bucket (recording_of s (recorded.Freeze x b))) p.gives
      (moved_makes x b (after_freeze s x b p.u).bucket p.u (λ d. recording x (SetStatus b (Sending d))) p.there
      (record { up = u.transfers b x p.u p.there; writes = status_written s.bucket b _ x (Sending p.u.dest) refl refl; counted = tt }))

  seal_makes : (t : State) (x b : ℕ) → seal s x b ≡ Ok t → Makes s t.bucket (recording_of s (recorded.Seal x b))
  seal_makes t x b e =
      let p = can_seal s t x b e in
      subst (λ (v : State). Makes s v.bucket (recording_of s (recorded.Seal x b))) p.gives
      (moved_makes x b (after_seal s x b p.u).bucket p.u (λ d. recording x (SetStatus b (Sent d))) p.there
      (record { up = u.transfers b x p.u p.there; writes = status_written s.bucket b _ x (Sent p.u.dest) refl refl; counted = tt }))

  deliver_makes : (t : State) (x y : ℕ) → deliver s x y ≡ Ok t → Makes s t.bucket (recording_of s (recorded.Deliver x y))
  deliver_makes t x y e =
      let p = can_deliver s t x y e in
      subst (λ (v : State). Makes s v.bucket (recording_of s (recorded.Deliver x y))) p.gives
      (subst (λ o. Makes s (after_deliver s x y p.sent p.sent.message).bucket (option_and_then (λ (m : link.Sent). message_recording s x y m.message) o)) (sym p.head)
      (by_message p.sent.sync p.sent.message (y_up p.sent (head_is (x == y) (s.link x y).calls p.sent p.head))))
    where
      y_up : (m : link.Sent) → (s.link x y).calls ≡ m ∷ rest (s.link x y).calls → IsUp s y
      y_up m is = let P : link.Sent → Type 0 = λ v. IsUp s x × IsUp s y in (All-head P m (rest (s.link x y).calls) (subst (All P) is (u.messages x y))).1

      by_rows : (b : ℕ) (page : RowMap) (r : Result Took RecvFault) → IsUp s y → Makes s (put s.bucket b (bucket_taking (s.bucket b) x y (Chunk b page) r)) (taking_of x y (Chunk b page) r)
      by_rows b page (Err f) up = unwritten s.bucket b (s.bucket b) refl refl
      by_rows b page (Ok took) up = record { up = up; writes = page_written s.bucket b _ y x page refl refl; counted = tt }

      by_last : (b : ℕ) (r : Result Took RecvFault) → IsUp s y → Makes s (put s.bucket b (bucket_taking (s.bucket b) x y (Last b) r)) (taking_of x y (Last b) r)
      by_last b (Err f) up = unwritten s.bucket b (s.bucket b) refl refl
      by_last b (Ok took) up = record { up = up; writes = status_written s.bucket b _ y Active refl refl; counted = tt }

      by_message : (k : ℕ) (m : Message) → IsUp s y → Makes s (after_deliver s x y (record { sync = k; message = m }) m).bucket (message_recording s x y m)
      by_message k (Chunk b page) up = by_rows b page (received_at s x y b false) up
      by_message k (Last b) up = by_last b (received_at s x y b true) up
      by_message k (Stat b) up = λ z. refl

  hear_makes : (t : State) (x y : ℕ) → hear s x y ≡ Ok t → Makes s t.bucket (recording_of s (recorded.Hear x y))
  hear_makes t x y e =
      let p = can_hear s t x y e in
      subst (λ (v : State). Makes s v.bucket (recording_of s (recorded.Hear x y))) p.gives
      (subst (λ o. Makes s (after_hear s x y p.heard).bucket (option_and_then (λ (q : Heard). reply_recording s x y q q.reply) o)) (sym p.head)
      (by_reply p.heard.sync p.heard.bucket p.heard.reply (x_up p.heard (head_is (x == y) (s.link x y).replies p.heard p.head))))
    where
      x_up : (r : Heard) → (s.link x y).replies ≡ r ∷ rest (s.link x y).replies → IsUp s x
      x_up r is = let P : Heard → Type 0 = λ v. IsUp s x × IsUp s y in (All-head P r (rest (s.link x y).replies) (subst (All P) is (u.replies x y))).0

      decides : (b : ℕ) (d : Decision) → IsUp s x → Makes s (put s.bucket b (decided (s.bucket b) x d)) (decision_recording x b d)
      decides b Stay up = unwritten s.bucket b (decided (s.bucket b) x Stay) refl refl
      decides b ToActive up = record { up = up; writes = status_written s.bucket b _ x Active refl refl; counted = tt }
      decides b ToGarbage up = record { up = up; writes = status_written s.bucket b _ x Garbage refl refl; counted = tt }

      by_test : (b : ℕ) (d : Decision) (t : Bool) → IsUp s x → Makes s (put s.bucket b (if t then decided (s.bucket b) x d else s.bucket b)) (if t then decision_recording x b d else None)
      by_test b d false up = unwritten s.bucket b (s.bucket b) refl refl
      by_test b d true up = decides b d up

      by_reply : (k b : ℕ) (r : Reply) → IsUp s x → Makes s (after_hear s x y (record { sync = k; bucket = b; reply = r })).bucket (reply_recording s x y (record { sync = k; bucket = b; reply = r }) r)
      by_reply k b reply.Took up = unwritten s.bucket b _ refl refl
      by_reply k b (reply.Not f) up = unwritten s.bucket b _ refl refl
      by_reply k b (reply.State st live) up = by_test b (decision_by ((s.bucket b).entry x) st live) (counts_at (s.bucket b) (s.link x y).epoch x y k) up

  pin_makes : (t : State) (o : ℕ) → pin s o ≡ Ok t → Makes s t.bucket (recording_of s (recorded.Pin o))
  pin_makes t o e =
      let p = can_pin s t o e in
      subst (λ (v : State). Makes s v.bucket (recording_of s (recorded.Pin o))) p.gives
      (subst (λ q. Makes s (after_pin s o p.p (pinning_fault s p.p p.p.status)).bucket (option_and_then (pin_recording s) q)) (sym p.named)
      (by p.p p.named (pinning_fault s p.p p.p.status) refl))
    where
      by : (p : Pinning) → pinning_of (next_command (s.operator o)) ≡ Some p → (f : Option CommandFault) → pinning_fault s p p.status ≡ f
          → Makes s (after_pin s o p f).bucket (if is_some f then None else recording p.at (SetStatus p.bucket p.status))
      by p named (Some f) is = λ x. refl
      by p named None is = record { up = (may_pin s (next_command (s.operator o)) p named is).x_up; writes = status_written s.bucket p.bucket _ p.at p.status refl refl; counted = tt }

  pub recorded_makes : (e : Recorded) (t : State) → recorded_step s e ≡ Ok t → Makes s t.bucket (recording_of s e)
  recorded_makes (recorded.Act c) t e = act_makes t c e
  recorded_makes (recorded.Freeze x b) t e = freeze_makes t x b e
  recorded_makes (recorded.Seal x b) t e = seal_makes t x b e
  recorded_makes (recorded.Deliver x y) t e = deliver_makes t x y e
  recorded_makes (recorded.Hear x y) t e = hear_makes t x y e
  recorded_makes (recorded.Condemn x b) t e =
      let p = can_condemn s t x b e in
      subst (λ (v : State). Makes s v.bucket (recording x (SetStatus b Garbage))) p.gives (record { up = p.x_up; writes = status_written s.bucket b _ x Garbage refl refl; counted = tt })
  recorded_makes (recorded.Wipe x b) t e =
      let p = can_wipe s t x b e in
      let old = s.bucket b in
      let n = min 1000 (length (old.rows x)) in
      subst (λ (v : State). Makes s v.bucket (recording x (Wipe b n))) p.gives
      (record { up = p.x_up; writes = wipe_written s.bucket b _ x n refl (ap (λ m. put old.rows x m) (sym (drop_min 1000 (old.rows x)))); counted = wipes (old.rows x) p.some_rows })
  recorded_makes (recorded.Forget x b) t e =
      let p = can_forget s t x b e in
      subst (λ (v : State). Makes s v.bucket (recording x (Forget b))) p.gives (record { up = p.x_up; writes = forget_written s.bucket b _ x refl refl; counted = tt })
  recorded_makes (recorded.Pin o) t e = pin_makes t o e
