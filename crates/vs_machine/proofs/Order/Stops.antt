-- What a fault and a restart make of a state: the change that is recorded, and the one that takes effect.
use Rattle.std.proofs.Common.{◌≡◌, ℕ, inl, inr, Bool, true, false, refl, ap, subst, ◌∙◌, List, Option, Some, None, Result, Ok, Err}
use Rattle.std.specs.Prelude.{if◌then◌else◌, is_some}
use Rattle.std.specs.Option.{option_and_then}
use Rattle.vs_base.specs.declared.numbers.CallId.{CallId}
use Rattle.vs_base.specs.declared.numbers.Mode.{Mode}
use Rattle.vs_base.specs.declared.numbers.Mode.TheVariants.{Ro, Rw}
use Rattle.vs_rows.specs.declared.op.Op.{Op}
use Rattle.vs_space.specs.declared.reply.Reply.{Reply}
use Rattle.vs_space.specs.declared.reply.Reply.TheVariants as reply
use Rattle.vs_space.specs.declared.reply.RecvFault.{RecvFault}
use Rattle.vs_space.specs.declared.status.Status.TheVariants.{Sending, Sent}
use Rattle.vs_calls.specs.Progress.{is_running}
use Rattle.vs_event.specs.declared.event.Recorded.{Recorded}
use Rattle.vs_event.specs.declared.event.Recorded.TheVariants as recorded
use Rattle.vs_event.specs.declared.event.RestartBy.{RestartBy}
use Rattle.vs_event.specs.declared.event.RestartBy.TheVariants.{Line, Service}
use Rattle.vs_link.specs.Connection.{Message, Chunk, Last, Stat}
use Rattle.vs_link.specs.Connection as link
use Rattle.vs_link.specs.declared.message.Heard.{Heard}
use Rattle.vs_recv.specs.declared.took.Took.{Took}
use Rattle.vs_recover.specs.declared.decision.Decision.{Decision}
use Rattle.vs_recover.specs.declared.decision.Decision.TheVariants.{Stay, ToActive, ToGarbage}
use Rattle.vs_record.specs.Change as changes
use Rattle.vs_record.specs.Change.{Change, Write}
use Rattle.vs_script.specs.Calls.{Call}
use Rattle.vs_machine.specs.declared.outcome.CommandOutcome.TheVariants.{Done, WasUp}
use Rattle.vs_machine.specs.State.{State, Client, Operator, next_call, next_command, call_id, answer, put_operator}
use Rattle.vs_machine.specs.Kinds.Connections.{first_call, first_reply, received_at, counts_at, decision_by}
use Rattle.vs_machine.specs.Kinds.Pinning.{Pinning, pinning_of, pinning_fault}
use Rattle.vs_machine.specs.Kinds.Stops.{Recording, recording, write_of, dest_at, taking_of, message_recording, decision_recording, reply_recording, pin_recording, recording_of, recorded_step, fault, after_fault, restart, restarted, up_again, kept_at}
use Rattle.vs_machine.proofs.Frame.{put_split}
use Rattle.vs_machine.proofs.Can.Calls.{can_act}
use Rattle.vs_machine.proofs.Can.Stops.{can_fault, can_restart, can_restart_line}
use Rattle.vs_machine.proofs.Order.Calm.{Calm, IsNoWrite, down_calm}

-- ---- what is recorded

abbrev RecordsNoWrite : Option Recording → Type 0
RecordsNoWrite None = Unit {0}
RecordsNoWrite (Some r) = IsNoWrite r.change

-- the call of a client that runs at the set, and writes
pub record Wrote (s : State) (x : ℕ) (id : CallId) (b : ℕ) (ops : List Op) : Type 0 where
  pub c : ℕ
  pub k : Call
  pub running : is_running (s.client c).present.stage ≡ true
  pub called : next_call (s.client c) ≡ Some k
  pub set : (s.client c).present.set ≡ Some x
  pub id_is : call_id c (s.client c) ≡ id
  pub call_is : k ≡ record { mode = Rw; bucket = b; ops = ops }

same_change : (y x : ℕ) (a b : Change) → recording y a ≡ Some (record { at = x; change = b }) → (y ≡ x) × (a ≡ b)
same_change y x a b h =
    let r : Recording = record { at = y; change = a } in
    let q : Recording = record { at = x; change = b } in
    let one : r ≡ q = cc in
    (ap (λ (u : Recording). u.at) one, ap (λ (u : Recording). u.change) one)

write_is : (client : Client) (c y x : ℕ) (mode : Mode) (q : ℕ) (more : List Op) (id : CallId) (b : ℕ) (ops : List Op)
    → write_of client c (Some (record { mode = mode; bucket = q; ops = more })) (Some y) ≡ Some (record { at = x; change = Write id b ops })
    → (mode ≡ Rw) × (y ≡ x) × (call_id c client ≡ id) × (q ≡ b) × (more ≡ ops)
write_is client c y x Ro q more id b ops h = absurd cc
write_is client c y x Rw q more id b ops h =
    let e = same_change y x (Write (call_id c client) q more) (Write id b ops) h in
    (refl, e.0, first e.1, second e.1, third e.1)
  where
    first : Write (call_id c client) q more ≡ Write id b ops → call_id c client ≡ id
    first e = cc

    second : Write (call_id c client) q more ≡ Write id b ops → q ≡ b
    second e = cc

    third : Write (call_id c client) q more ≡ Write id b ops → more ≡ ops
    third e = cc

module _ (s : State) where
  by_dest : (x b : ℕ) (f : ℕ → Change) → ((d : ℕ) → IsNoWrite (f d)) → (o : Option ℕ) → RecordsNoWrite (option_and_then (λ d. recording x (f d)) o)
  by_dest x b f h None = tt
  by_dest x b f h (Some d) = h d

  by_taking : (x y : ℕ) (m : Message) (r : Result Took RecvFault) → RecordsNoWrite (taking_of x y m r)
  by_taking x y (Chunk b page) (Ok took) = tt
  by_taking x y (Chunk b page) (Err f) = tt
  by_taking x y (Last b) (Ok took) = tt
  by_taking x y (Last b) (Err f) = tt
  by_taking x y (Stat b) (Ok took) = tt
  by_taking x y (Stat b) (Err f) = tt

  by_message : (x y : ℕ) (m : Message) → RecordsNoWrite (message_recording s x y m)
  by_message x y (Chunk b page) = by_taking x y (Chunk b page) (received_at s x y b false)
  by_message x y (Last b) = by_taking x y (Last b) (received_at s x y b true)
  by_message x y (Stat b) = tt

  by_sent : (x y : ℕ) (o : Option link.Sent) → RecordsNoWrite (option_and_then (λ sent. message_recording s x y sent.message) o)
  by_sent x y None = tt
  by_sent x y (Some sent) = by_message x y sent.message

  by_decision : (x b : ℕ) (d : Decision) → RecordsNoWrite (decision_recording x b d)
  by_decision x b Stay = tt
  by_decision x b ToActive = tt
  by_decision x b ToGarbage = tt

  by_test : (x b : ℕ) (d : Decision) (t : Bool) → RecordsNoWrite (if t then decision_recording x b d else None)
  by_test x b d true = by_decision x b d
  by_test x b d false = tt

  by_reply : (x y : ℕ) (heard : Heard) (r : Reply) → RecordsNoWrite (reply_recording s x y heard r)
  by_reply x y heard (reply.State remote live) =
      let b = s.bucket heard.bucket in by_test x heard.bucket (decision_by (b.entry x) remote live) (counts_at b (s.link x y).epoch x y heard.sync)
  by_reply x y heard reply.Took = tt
  by_reply x y heard (reply.Not f) = tt

  by_heard : (x y : ℕ) (o : Option Heard) → RecordsNoWrite (option_and_then (λ heard. reply_recording s x y heard heard.reply) o)
  by_heard x y None = tt
  by_heard x y (Some heard) = by_reply x y heard heard.reply

  by_fault : (p : Pinning) (t : Bool) → RecordsNoWrite (if t then None else recording p.at (changes.SetStatus p.bucket p.status))
  by_fault p true = tt
  by_fault p false = tt

  by_pinning : (o : Option Pinning) → RecordsNoWrite (option_and_then (pin_recording s) o)
  by_pinning None = tt
  by_pinning (Some p) = by_fault p (is_some (pinning_fault s p p.status))

  -- a write that is recorded is that of a call
  pub records_write : (x : ℕ) (e : Recorded) (next : State) (id : CallId) (b : ℕ) (ops : List Op) → recorded_step s e ≡ Ok next → recording_of s e ≡ Some (record { at = x; change = Write id b ops }) → Wrote s x id b ops
  records_write x (recorded.Act c) next id b ops h e =
      let p = can_act s next c h in
      let old = s.client c in
      let found : write_of old c (Some p.k) (Some p.x) ≡ Some (record { at = x; change = Write id b ops }) =
      subst (λ o. write_of old c (Some p.k) o ≡ Some (record { at = x; change = Write id b ops })) p.set (subst (λ o. write_of old c o old.present.set ≡ Some (record { at = x; change = Write id b ops })) p.called e) in
      let w = write_is old c p.x x p.k.mode p.k.bucket p.k.ops id b ops found in
      record {
        c = c;
        k = p.k;
        running = p.running;
        called = p.called;
        set = p.set ∙ ap (λ z. Some z) w.1;
        id_is = w.2;
        call_is = joined p.k.mode p.k.bucket p.k.ops w.0 w.3 w.4;
      }
    where
      made : Mode → ℕ → List Op → Call
      made m q more = record { mode = m; bucket = q; ops = more }

      joined : (m : Mode) (q : ℕ) (more : List Op) → m ≡ Rw → q ≡ b → more ≡ ops → made m q more ≡ made Rw b ops
      joined m q more f g h = cc (f, g, h)
  records_write x (recorded.Freeze y q) next id b ops h e = absurd (subst RecordsNoWrite e (by_dest y q (λ d. changes.SetStatus q (Sending d)) (λ d. tt) (dest_at s y q)))
  records_write x (recorded.Seal y q) next id b ops h e = absurd (subst RecordsNoWrite e (by_dest y q (λ d. changes.SetStatus q (Sent d)) (λ d. tt) (dest_at s y q)))
  records_write x (recorded.Deliver z y) next id b ops h e = absurd (subst RecordsNoWrite e (by_sent z y (first_call s z y)))
  records_write x (recorded.Hear z y) next id b ops h e = absurd (subst RecordsNoWrite e (by_heard z y (first_reply s z y)))
  records_write x (recorded.Condemn y q) next id b ops h e = absurd (subst RecordsNoWrite e tt)
  records_write x (recorded.Wipe y q) next id b ops h e = absurd (subst RecordsNoWrite e tt)
  records_write x (recorded.Forget y q) next id b ops h e = absurd (subst RecordsNoWrite e tt)
  records_write x (recorded.Pin o) next id b ops h e = absurd (subst RecordsNoWrite e (by_pinning (pinning_of (next_command (s.operator o)))))

-- ---- fault

-- what holds after a fault, by what it records
pub fault_any : (P : State → Type 0) (s t : State) (x n : ℕ) (e : Recorded) → ((change : Change) → IsNoWrite change → P (after_fault s x n change))
    → ((id : CallId) (b : ℕ) (ops : List Op) → Wrote s x id b ops → P (after_fault s x n (Write id b ops))) → fault s x n e ≡ Ok t → P t
fault_any P s t x n e other written h =
    let p = can_fault s t x n e h in
    subst P p.gives (by p.change (λ id b ops is. records_write s x e p.next id b ops p.possible (p.records ∙ ap (λ (c : Change). Some (made c)) is)))
  where
    made : Change → Recording
    made c = record { at = x; change = c }

    by : (change : Change) → ((id : CallId) (b : ℕ) (ops : List Op) → change ≡ Write id b ops → Wrote s x id b ops) → P (after_fault s x n change)
    by (changes.SetStatus b st) w = other (changes.SetStatus b st) tt
    by (changes.AddRows b z page) w = other (changes.AddRows b z page) tt
    by (Write id b ops) w = written id b ops (w id b ops refl)
    by (changes.Wipe b k) w = other (changes.Wipe b k) tt
    by (changes.Forget b) w = other (changes.Forget b) tt

pub fault_calm : (s : State) (x n : ℕ) (change : Change) → IsNoWrite change → Calm s (after_fault s x n change)
fault_calm s x n change none = let d = down_calm s x in record {
  histories = d.histories;
  clients = d.clients;
  pendings = λ z b id ops h. elim (put_split s.pending x (Some change) z (Some (Write id b ops)) h) [ inl e ↦ let is : change ≡ Write id b ops = cc (e.1) in absurd (subst IsNoWrite is none) | inr e ↦ e.1 ];
}

-- ---- restart

-- what holds after a restart, by what took effect
pub restart_any : (P : State → Type 0) (s t : State) (x : ℕ) (kept : Bool) (by : RestartBy) → ((u : State) (os : ℕ → Operator) → P u → P (record u { operator = os })) → P s → P (up_again s x)
    → ((change : Change) → s.pending x ≡ Some change → P (kept_at s x change)) → restart s x kept by ≡ Ok t → P t
restart_any P s t x kept by others same bare keeps e = by_line by e
  where
    again : (k : Bool) (o : Option Change) → s.pending x ≡ o → P (restarted s x k o)
    again true (Some change) is = keeps change is
    again true None is = bare
    again false (Some change) is = bare
    again false None is = bare

    by_up : (o : ℕ) (up : Bool) → P (if up then put_operator s o (answer (s.operator o) WasUp) else put_operator (restarted s x kept (s.pending x)) o (answer (s.operator o) Done))
    by_up o true = others s _ same
    by_up o false = others (restarted s x kept (s.pending x)) _ (again kept (s.pending x) refl)

    by_line : (r : RestartBy) → restart s x kept r ≡ Ok t → P t
    by_line (Line o) h = subst P (can_restart_line s t x o kept h).gives (by_up o (s.up x))
    by_line Service h = subst P (can_restart s t x kept h).gives (again kept (s.pending x) refl)
