-- A set goes down: its transfers, its calls and its connections are gone.
use Rattle.std.proofs.Common.{◌≡◌, ℕ, inl, inr, Bool, true, false, refl, subst, Option, Some, None, Ok}
use Rattle.std.specs.Prelude.{◌≢◌, ◌==◌, ◌||◌, ◌&&◌, if◌then◌else◌}
use Rattle.std.proofs.lemmas.Bool.{eqb-false}
use Rattle.std.proofs.lemmas.List.Elements.{All-nil, All-weaker}
use Rattle.vs_base.specs.declared.numbers.Mode.{Mode}
use Rattle.vs_base.specs.declared.numbers.Mode.TheVariants.{Ro, Rw}
use Rattle.vs_event.specs.declared.event.Recorded.{Recorded}
use Rattle.vs_space.specs.declared.reply.Reply.{Reply}
use Rattle.vs_space.specs.declared.reply.Reply.TheVariants as reply
use Rattle.vs_calls.specs.declared.stage.Stage.{Stage}
use Rattle.vs_calls.specs.declared.stage.Stage.TheVariants as stage
use Rattle.vs_calls.specs.Progress.{is_at_set, is_idle, lost}
use Rattle.vs_link.specs.Connection.{Message, Chunk, Last, Stat, bucket_of, unused, closed}
use Rattle.vs_record.specs.Change.{Change}
use Rattle.vs_send.specs.declared.abort.AbortCause.TheVariants.{Stopped}
use Rattle.vs_machine.specs.declared.outcome.CommandOutcome.TheVariants.{Done, WasDown, Aborted}
use Rattle.vs_machine.specs.Tables.{put}
use Rattle.vs_machine.specs.State.{State, Bucket, Client, Operator, sets_of, is_link, answer, is_set, next_command, with_progress, put_operator}
use Rattle.vs_machine.specs.Kinds.Sender.{move_of}
use Rattle.vs_machine.specs.Kinds.Stops.{lost_at, without_work, is_move_from, stopped_move, gone_down, stop, fault}
use Rattle.vs_machine.specs.Whole.{Inner, OperatorFits}
use Rattle.vs_machine.specs.Inner.Buckets.{BucketFits}
use Rattle.vs_machine.specs.Inner.Calls.{HoldFits, ClientFits}
use Rattle.vs_machine.specs.Inner.Lines.{MessageFits, ReplyFits, LinkFits}
use Rattle.vs_machine.proofs.Can.Stops.{can_stop, can_fault}
use Rattle.vs_machine.proofs.Kept.Calls.{operator_moves, answer_moves, unheld_fits}
use Rattle.vs_machine.proofs.Kept.Closing.{closed_fits}
use Rattle.vs_machine.proofs.Kept.Moving.{in_stays, moved_fits}

-- which sets are up, what is pending and how many faults there were, is nothing to it
pub repend : (own : ℕ → ℕ) (s : State) (u : ℕ → Bool) (p : ℕ → Option Change) (f : ℕ → ℕ) → Inner own s → Inner own (record s { up = u; pending = p; last_fault = f })
repend own s u p f i = record { buckets = i.buckets; clients = i.clients; absent = i.absent; links = i.links; real = i.real; operators = i.operators }

-- ---- one bucket

bucket_left : (n o : ℕ) (b : Bucket) (x : ℕ) → BucketFits n o b → BucketFits n o (without_work x b)
bucket_left n o b x f =
    let m = moved_fits n o b x None f (λ t h. absurd cc) in
    record { placed = m.placed; named = m.named; stored = m.stored; owned = m.owned; transfers = m.transfers; replayed = m.replayed }

holds_left : (b : Bucket) (x y posted : ℕ) (mode : Mode) → HoldFits b y mode posted → HoldFits (without_work x b) y mode posted
holds_left b x y posted Ro h = h
holds_left b x y posted Rw h = h

-- what lies between other sets stays
module _ (b : Bucket) (x p q : ℕ) (ne : p ≢ x) where
  calls_stay : (e n : ℕ) (m : Message) → MessageFits e b p q n m → MessageFits e (without_work x b) p q n m
  calls_stay e n (Chunk d page) h = (in_stays b.transfer x None p q _ ne h.0, h.1)
  calls_stay e n (Last d) h = in_stays b.transfer x None p q _ ne h
  calls_stay e n (Stat d) h = tt

  replies_stay : (e n : ℕ) (r : Reply) → ReplyFits e b p q n r → ReplyFits e (without_work x b) p q n r
  replies_stay e n reply.Took (inl h) = inl (in_stays b.transfer x None p q _ ne h)
  replies_stay e n reply.Took (inr h) = inr (record { key = h.key; waits = in_stays b.transfer x None p q _ ne h.waits; received = h.received })
  replies_stay e n (reply.Not f) (inl h) = inl (in_stays b.transfer x None p q _ ne h)
  replies_stay e n (reply.Not f) (inr h) = inr (record { key = h.key; waits = in_stays b.transfer x None p q _ ne h.waits })
  replies_stay e n (reply.State st live) h = tt

-- ---- the whole

client_left : (bs : ℕ → Bucket) (x : ℕ) (c : Client) → ClientFits bs c → ClientFits (λ b. without_work x (bs b)) (lost_at x c)
client_left bs x c fits = by (is_at_set c.present.stage && is_set c.present.set x)
  where
    by : (t : Bool) → ClientFits (λ b. without_work x (bs b)) (if t then with_progress c (lost c.present) else c)
    by true = unheld_fits (λ b. without_work x (bs b)) (with_progress c (lost c.present)) refl
    by false = λ k y called held. holds_left (bs k.bucket) x y c.present.writes k.mode (fits k y called held)

nowhere : (g : Stage) → is_idle g ≡ true → is_at_set g ≡ true → ⊥
nowhere stage.Idle a h = absurd (cc h)
nowhere stage.Posted a h = absurd (cc a)
nowhere stage.Running a h = absurd (cc a)
nowhere stage.Acted a h = absurd (cc a)
nowhere stage.Ended a h = absurd (cc a)
nowhere stage.Refused a h = absurd (cc a)
nowhere stage.Lost a h = absurd (cc a)

idle_left : (x : ℕ) (c : Client) → is_idle c.present.stage ≡ true → is_idle (lost_at x c).present.stage ≡ true
idle_left x c idle = by (is_at_set c.present.stage) (is_set c.present.set x) refl
  where
    by : (at here : Bool) → is_at_set c.present.stage ≡ at → is_idle (if at && here then with_progress c (lost c.present) else c).present.stage ≡ true
    by true true e = absurd (nowhere c.present.stage idle e)
    by true false e = idle
    by false here e = idle

operator_left : (m n x : ℕ) (o : Operator) → OperatorFits m n o → OperatorFits m n (stopped_move x o)
operator_left m n x o f = by (o.moving && is_move_from x (move_of (next_command o)))
  where
    by : (t : Bool) → OperatorFits m n (if t then answer o (Aborted Stopped) else o)
    by true = record { lawful = f.lawful; apart = All-nil _ }
    by false = f

pub gone_down_keeps : (own : ℕ → ℕ) (s : State) (x : ℕ) → Inner own s → Inner own (gone_down s x)
gone_down_keeps own s x i = record {
  buckets = λ b. bucket_left (sets_of s) (own b) (s.bucket b) x (i.buckets b);
  clients = λ c. client_left s.bucket x (s.client c) (i.clients c);
  absent = λ c none. idle_left x (s.client c) (i.absent c none);
  links = λ p q. link p q (is_link s p q) (p == x) refl (q == x) (i.links p q);
  real = i.real;
  operators = λ o. operator_left s.config.bucket_count (sets_of s) x (s.operator o) (i.operators o);
}
  where
    next : ℕ → Bucket
    next = λ b. without_work x (s.bucket b)

    link : (p q : ℕ) (there a : Bool) → (p == x) ≡ a → (d : Bool) → LinkFits s.bucket p q (s.link p q) → LinkFits next p q (if there then (if a || d then closed (s.link p q) else s.link p q) else unused)
    link p q false a ea d f = record { calls = All-nil _; replies = All-nil _; distinct = tt; below = All-nil _ }
    link p q true true ea d f = closed_fits next p q (s.link p q)
    link p q true false ea true f = closed_fits next p q (s.link p q)
    link p q true false ea false f =
        let ne : p ≢ x = eqb-false p x ea in
        record {
          calls = All-weaker _ _ (λ m. calls_stay (s.bucket (bucket_of m.message)) x p q ne (s.link p q).epoch m.sync m.message) (s.link p q).calls f.calls;
          replies = All-weaker _ _ (λ r. replies_stay (s.bucket r.bucket) x p q ne (s.link p q).epoch r.sync r.reply) (s.link p q).replies f.replies;
          distinct = f.distinct;
          below = f.below;
        }

pub stop_keeps : (own : ℕ → ℕ) (s t : State) (o : ℕ) → Inner own s → stop s o ≡ Ok t → Inner own t
stop_keeps own s t o i e =
    let p = can_stop s t o e in
    subst (Inner own) p.gives (by p.x (s.up p.x))
  where
    by : (x : ℕ) (up : Bool) → Inner own (if up then put_operator (gone_down s x) o (answer (s.operator o) Done) else put_operator s o (answer (s.operator o) WasDown))
    by x true = operator_moves own (gone_down s x) o (answer (s.operator o) Done) (gone_down_keeps own s x i) (record { lawful = (i.operators o).lawful; apart = All-nil _ })
    by x false = answer_moves own s o WasDown i

pub fault_keeps : (own : ℕ → ℕ) (s t : State) (x n : ℕ) (e : Recorded) → Inner own s → fault s x n e ≡ Ok t → Inner own t
fault_keeps own s t x n e i h =
    let p = can_fault s t x n e h in
    let down = gone_down s x in
    subst (Inner own) p.gives (repend own down down.up (put s.pending x (Some p.change)) (put s.last_fault x n) (gone_down_keeps own s x i))
