-- Freeze: the owner's entry changes from active to sending.
use Rattle.std.proofs.Common.{◌≡◌, ℕ, Ok, inl, inr, true, false, refl, sym, ap, subst, arith, List, [], Option, Some, None}
use Rattle.std.specs.Prelude.{◌≢◌, ◌==◌, ◌≤◌}
use Rattle.std.proofs.lemmas.Bool.{cases_eq, eq-eqb}
use Rattle.vs_base.specs.declared.numbers.Mode.{Mode}
use Rattle.vs_base.specs.declared.numbers.Mode.TheVariants.{Ro, Rw}
use Rattle.vs_space.specs.declared.reply.Reply.{Reply}
use Rattle.vs_space.specs.declared.reply.Reply.TheVariants as reply
use Rattle.vs_space.specs.declared.status.Status.{Status}
use Rattle.vs_space.specs.declared.status.Status.TheVariants.{Active, Pinned, Sending, Receiving, Sent, Garbage}
use Rattle.vs_calls.specs.declared.stage.Stage.{Stage}
use Rattle.vs_calls.specs.Progress.{is_held, is_idle}
use Rattle.vs_link.specs.Connection.{Message, Chunk, Last, Stat}
use Rattle.vs_script.specs.Calls.{Call}
use Rattle.vs_send.specs.declared.transfer.Phase.{Phase}
use Rattle.vs_send.specs.declared.transfer.Phase.TheVariants.{Draining, Ready, Waiting, Copied, Sealed, WaitingLast, Refused, Done}
use Rattle.vs_send.specs.declared.transfer.Transfer.{Transfer}
use Rattle.vs_machine.specs.Tables.{put}
use Rattle.vs_machine.specs.State.{State, Bucket, sets_of, has_client, next_call, holds, references, is_set, is_mode}
use Rattle.vs_machine.specs.Coherence.{IsServing, names}
use Rattle.vs_machine.specs.Kinds.Sender.{freeze, after_freeze, in_phase}
use Rattle.vs_machine.specs.Whole.{Inner}
use Rattle.vs_machine.specs.Inner.Owner.{IsPlaced, Owns, Beside, AreNamed}
use Rattle.vs_machine.specs.Inner.Phases.{PhaseFits}
use Rattle.vs_machine.specs.Inner.Copying.{CopyFits}
use Rattle.vs_machine.specs.Inner.Buckets.{BucketFits, TransferFits}
use Rattle.vs_machine.specs.Inner.Calls.{ReadFits, HoldFits, ClientFits, is_held_at}
use Rattle.vs_machine.specs.Inner.Lines.{MessageFits, ReplyFits, IsIn}
use Rattle.vs_machine.proofs.Frame.{put_each, put_here, put_there, put_split}
use Rattle.vs_machine.proofs.Keeping.{KeepsLines, client_kept_at, link_kept}
use Rattle.vs_machine.proofs.Possible.{both_are}
use Rattle.vs_machine.proofs.Owners.{active_owns, serving_alone, phase_of}
use Rattle.vs_machine.proofs.Counts.{none_counted}
use Rattle.vs_machine.proofs.Can.Sender.{can_freeze}
use Rattle.vs_machine.proofs.Kept.Calls.{among}
use Rattle.vs_machine.proofs.Kept.Moving.{IsCalm, IsQuiet, ends_stays}

-- the owner x of a bucket is active, and then sending to d; its transfer is v from then on
module _ (n : ℕ) (b : Bucket) (x d : ℕ) (f : BucketFits n x b) (active : b.entry x ≡ Some Active) (apart : d ≢ x) (within : (1 ≤ d) × (d ≤ n)) (v : Option Transfer)
    (ready : (t : Transfer) → v ≡ Some t → (t.dest ≡ d) × (t.phase ≡ Ready None)) (quiet : IsQuiet (b.transfer x)) where
  abbrev pub cold : Bucket
  cold = record b { entry = put b.entry x (Some (Sending d)); transfer = put b.transfer x v }

  serving : IsServing (b.entry x)
  serving = subst IsServing (sym active) tt

  elsewhere : (y : ℕ) → y ≢ x → cold.entry y ≡ b.entry y
  elsewhere y ne = put_there b.entry x _ y ne

  at_source : cold.entry x ≡ Some (Sending d)
  at_source = put_here b.entry x _

  beside_cold : (y : ℕ) (e : Option Status) → Beside x (b.entry x) y e → Beside x (Some (Sending d)) y e
  beside_cold y None h = tt
  beside_cold y (Some Garbage) h = tt
  beside_cold y (Some (Sent z)) h = λ g. absurd cc
  beside_cold y (Some (Receiving z)) h = absurd (cc (h.1, active))
  beside_cold y (Some Active) h = h
  beside_cold y (Some Pinned) h = h
  beside_cold y (Some (Sending z)) h = h

  cold_placed : IsPlaced x cold.entry
  cold_placed = record {
    owner = subst (Owns x) (sym at_source) apart;
    beside = λ y ne. subst (λ e. Beside x e y (cold.entry y)) (sym at_source) (subst (Beside x (Some (Sending d)) y) (sym (elsewhere y ne)) (beside_cold y (b.entry y) (f.placed.beside y ne)));
  }

  cold_named : AreNamed n cold.entry
  cold_named = put_each (λ q (e : Option Status). (y : ℕ) → names e ≡ Some y → (y ≢ q) × (1 ≤ y) × (y ≤ n)) b.entry x (Some (Sending d))
      (λ y h. let same : d ≡ y = cc in subst (λ z. (z ≢ x) × (1 ≤ z) × (z ≤ n)) same (apart, within.0, within.1)) f.named

  not_receiving : b.entry d ≢ Some (Receiving x)
  not_receiving h = let g = subst (Beside x (b.entry x) d) h (f.placed.beside d apart) in absurd (cc (g.1, active))

  phases : (z e : ℕ) (p : Phase) → z ≢ x → PhaseFits e (b.entry z) p → PhaseFits e (cold.entry z) p
  phases z e p ne = subst (λ u. PhaseFits e u p) (sym (elsewhere z ne))

  copies : (z e : ℕ) (p : Phase) → PhaseFits e (b.entry z) p → CopyFits cold.entry b.rows z e p
  copies z e (Ready k) ph = absurd (serving_alone x b.entry x z e f.placed serving ph)
  copies z e Copied ph = absurd (serving_alone x b.entry x z e f.placed serving ph)
  copies z e (Draining t) ph = tt
  copies z e (Waiting g t k) ph = tt
  copies z e Sealed ph = tt
  copies z e (WaitingLast g t) ph = tt
  copies z e (Refused r) ph = tt
  copies z e Done ph = tt

  its_own : (t : Transfer) → v ≡ Some t → TransferFits n cold.entry b.rows x t
  its_own t e =
      let is = ready t e in
      record {
        apart = subst (λ z. z ≢ x) (sym is.0) apart;
        within = subst (λ z. (1 ≤ z) × (z ≤ n)) (sym is.0) within;
        phase = subst (PhaseFits t.dest (cold.entry x)) (sym is.1) (subst (λ z. cold.entry x ≡ Some (Sending z)) (sym is.0) at_source);
        copy = subst (CopyFits cold.entry b.rows x t.dest) (sym is.1) (subst (λ z. cold.entry z ≢ Some (Receiving x)) (sym is.0) (subst (λ u. u ≢ Some (Receiving x)) (sym (elsewhere d apart)) not_receiving));
      }

  pub cold_fits : BucketFits n x cold
  cold_fits = record {
    placed = cold_placed;
    named = cold_named;
    stored = record {
      empty = put_each (λ q (e : Option Status). e ≡ None → b.rows q ≡ []) b.entry x (Some (Sending d)) (λ e. absurd cc) f.stored.empty;
      rising = f.stored.rising;
    };
    owned = f.owned;
    transfers = λ z t h. elim (put_split b.transfer x v z (Some t) h) [
      | inl e ↦ subst (λ q. TransferFits n cold.entry b.rows q t) (sym e.0) (its_own t e.1)
      | inr e ↦ let old = f.transfers z t e.1 in record { apart = old.apart; within = old.within; phase = phases z t.dest t.phase e.0 old.phase; copy = copies z t.dest t.phase old.phase }
    ];
    replayed = f.replayed;
  }

  -- reads stay, and so does what is known of writes at other sets
  pub cold_reads : (y posted : ℕ) → HoldFits b y Ro posted → HoldFits cold y Ro posted
  cold_reads y posted h = elim (cases_eq y x) [
    | inl e ↦ subst (λ q. HoldFits cold q Ro posted) (sym e) (subst (λ u. ReadFits u (b.rows x) b.history (b.kept x) posted) (sym at_source) tt)
    | inr ne ↦ subst (λ u. ReadFits u (b.rows y) b.history (b.kept y) posted) (sym (elsewhere y ne)) h
  ]

  pub cold_lines : KeepsLines b cold
  cold_lines = record { calls = calls; replies = replies }
    where
      never : (z y e t : ℕ) (k : Option (List ℕ)) → IsIn b.transfer z y (Waiting e t k) → ⊥
      never z y e t k h = serving_alone x b.entry x z y f.placed serving (phase_of n x b z y (Waiting e t k) f h)

      calls : (e z y t : ℕ) (m : Message) → MessageFits e b z y t m → MessageFits e cold z y t m
      calls e z y t (Chunk q page) h = absurd (never z y e t _ h.0)
      calls e z y t (Last q) h = ends_stays b.transfer x v z y e t quiet h
      calls e z y t (Stat q) h = tt

      replies : (e z y t : ℕ) (r : Reply) → ReplyFits e b z y t r → ReplyFits e cold z y t r
      replies e z y t reply.Took (inl h) = inl (ends_stays b.transfer x v z y e t quiet h)
      replies e z y t reply.Took (inr h) = absurd (never z y e t h.key h.waits)
      replies e z y t (reply.Not r) (inl h) = inl (ends_stays b.transfer x v z y e t quiet h)
      replies e z y t (reply.Not r) (inr h) = absurd (never z y e t h.key h.waits)
      replies e z y t (reply.State st live) h = tt

-- no client holds the bucket at x in this mode, where their count is 0
pub unheld : (s : State) (mode : Mode) (x b c : ℕ) (k : Call) → references s mode x b ≡ 0 → has_client s c ≡ true → next_call (s.client c) ≡ Some k → k.bucket ≡ b → k.mode ≡ mode
    → is_held_at (s.client c).present x ≡ true → ⊥
unheld s mode x b c k none within called of in_mode held =
    none_counted (λ q. holds mode x b (s.client q)) s.clients none c within
    (let parts = both_are (is_held (s.client c).present.stage) (is_set (s.client c).present.set x) held in
    let same : is_mode k.mode mode ≡ true = mode_same k.mode mode in_mode in
    let here : (k.bucket == b) ≡ true = eq-eqb k.bucket b of in
    rw (parts.0, parts.1, called, same, here) refl)
  where
    mode_same : (p q : Mode) → p ≡ q → is_mode p q ≡ true
    mode_same Ro Ro e = refl
    mode_same Rw Rw e = refl
    mode_same Ro Rw e = absurd cc
    mode_same Rw Ro e = absurd cc

-- a call that holds a reference was posted
pub held_busy : (st : Stage) → is_held st ≡ true → is_idle st ≡ false
held_busy st h = grind arith

-- a set with no write running on the bucket gets another entry: what clients hold is kept where reads are
pub unwritten_kept : (own : ℕ → ℕ) (s : State) (x b : ℕ) (new : Bucket) → Inner own s → references s Rw x b ≡ 0
    → ((y posted : ℕ) → HoldFits (s.bucket b) y Ro posted → HoldFits new y Ro posted)
    → ((y posted : ℕ) → y ≢ x → HoldFits (s.bucket b) y Rw posted → HoldFits new y Rw posted)
    → (c : ℕ) → ClientFits (put s.bucket b new) (s.client c)
unwritten_kept own s x b new i none reads writes c =
    client_kept_at s.bucket b new (s.client c) (λ k y called of held. by_mode k y called of held k.mode refl) (i.clients c)
  where
    by_mode : (k : Call) (y : ℕ) → next_call (s.client c) ≡ Some k → k.bucket ≡ b → is_held_at (s.client c).present y ≡ true → (m : Mode) → k.mode ≡ m
        → HoldFits (s.bucket b) y m (s.client c).present.writes → HoldFits new y m (s.client c).present.writes
    by_mode k y called of held Ro is h = reads y (s.client c).present.writes h
    by_mode k y called of held Rw is h = elim (cases_eq y x) [
      | inl e ↦
          let parts = both_are (is_held (s.client c).present.stage) (is_set (s.client c).present.set y) held in
          absurd (unheld s Rw x b c k none (among own s c i (held_busy (s.client c).present.stage parts.0)) called of is (subst (λ q. is_held_at (s.client c).present q ≡ true) e held))
      | inr ne ↦ writes y (s.client c).present.writes ne h
    ]

pub freeze_keeps : (own : ℕ → ℕ) (s t : State) (x b : ℕ) → Inner own s → freeze s x b ≡ Ok t → Inner own t
freeze_keeps own s t x b i e =
    let p = can_freeze s t x b e in
    let n = sets_of s in
    let old = s.bucket b in
    let u = p.u in
    let fits = (i.buckets b).transfers x u p.there in
    let active : old.entry x ≡ Some Active = subst (PhaseFits u.dest (old.entry x)) p.draining fits.phase in
    let is : own b ≡ x = sym (active_owns (own b) old.entry x (i.buckets b).placed active) in
    let f : BucketFits n x old = subst (λ o. BucketFits n o old) is (i.buckets b) in
    let w : Transfer = in_phase u (Ready None) in
    let ready : (t : Transfer) → Some w ≡ Some t → (t.dest ≡ u.dest) × (t.phase ≡ Ready None) = λ t e. let same : w ≡ t = cc in (ap (λ (q : Transfer). q.dest) (sym same), ap (λ (q : Transfer). q.phase) (sym same)) in
    let quiet : IsQuiet (old.transfer x) = subst IsQuiet (sym p.there) (subst IsCalm (sym p.draining) tt) in
    let new : Bucket = cold n old x u.dest f active fits.apart fits.within (Some w) ready quiet in
    let kept : Inner own (after_freeze s x b u) = record {
      buckets = put_each (λ r. BucketFits n (own r)) s.bucket b new (subst (λ o. BucketFits n o new) (sym is) (cold_fits n old x u.dest f active fits.apart fits.within (Some w) ready quiet)) i.buckets;
      clients = unwritten_kept own s x b new i p.unheld (cold_reads n old x u.dest f active fits.apart fits.within (Some w) ready quiet)
          (λ y posted ne h. subst IsServing (sym (put_there old.entry x _ y ne)) h);
      absent = i.absent;
      links = λ q r. link_kept s.bucket b new q r (s.link q r) (cold_lines n old x u.dest f active fits.apart fits.within (Some w) ready quiet) (i.links q r);
      real = i.real;
      operators = i.operators;
    } in
    subst (Inner own) p.gives kept
