-- Seal: the owner x is sending to d, which has all rows, and d is the owner from then on.
use Rattle.std.proofs.Common.{◌≡◌, ℕ, Ok, inl, inr, ◌≤◌, true, false, refl, sym, ap, subst, ◌∙◌, arith, List, [], Option, Some, None}
use Rattle.std.specs.Prelude.{◌≢◌}
use Rattle.std.proofs.lemmas.Bool.{cases_eq}
use Rattle.vs_base.specs.declared.numbers.Mode.{Mode}
use Rattle.vs_base.specs.declared.numbers.Mode.TheVariants.{Ro, Rw}
use Rattle.vs_space.specs.declared.reply.Reply.{Reply}
use Rattle.vs_space.specs.declared.reply.Reply.TheVariants as reply
use Rattle.vs_space.specs.declared.status.Status.{Status}
use Rattle.vs_space.specs.declared.status.Status.TheVariants.{Active, Pinned, Sending, Receiving, Sent, Garbage}
use Rattle.vs_history.specs.History.{rows_at, write_count}
use Rattle.vs_link.specs.Connection.{Message, Chunk, Last, Stat}
use Rattle.vs_send.specs.declared.transfer.Phase.{Phase}
use Rattle.vs_send.specs.declared.transfer.Phase.TheVariants.{Draining, Ready, Waiting, Copied, Sealed, WaitingLast, Refused, Done}
use Rattle.vs_send.specs.declared.transfer.Transfer.{Transfer}
use Rattle.vs_machine.specs.Tables.{put}
use Rattle.vs_machine.specs.State.{State, Bucket, sets_of, has_bucket, next_call, is_set}
use Rattle.vs_calls.specs.Progress.{is_held, is_idle}
use Rattle.vs_script.specs.Calls.{Call}
use Rattle.vs_machine.specs.Coherence.{names, dest_or}
use Rattle.vs_machine.specs.Kinds.Sender.{seal, after_seal, in_phase}
use Rattle.vs_machine.specs.Whole.{Inner}
use Rattle.vs_machine.specs.Inner.Owner.{IsPlaced, Owns, Beside, AreNamed}
use Rattle.vs_machine.specs.Inner.Phases.{PhaseFits}
use Rattle.vs_machine.specs.Inner.Copying.{CopyFits}
use Rattle.vs_machine.specs.Inner.Buckets.{BucketFits, TransferFits}
use Rattle.vs_machine.specs.Inner.Calls.{ReadFits, HoldFits, IsCopy, ClientFits, is_held_at}
use Rattle.vs_machine.specs.Inner.Lines.{MessageFits, ReplyFits, IsIn}
use Rattle.vs_machine.proofs.Frame.{put_each, put_both, put_here, put_there, put_split}
use Rattle.vs_machine.proofs.Keeping.{KeepsLines, client_kept_at, link_kept}
use Rattle.vs_machine.proofs.Histories.{rows_at-all}
use Rattle.vs_machine.proofs.Owners.{sending_owns, serving_alone, phase_of}
use Rattle.vs_machine.proofs.Possible.{both_are}
use Rattle.vs_machine.proofs.Can.Sender.{can_seal}
use Rattle.vs_machine.proofs.Kept.Freezing.{held_busy}
use Rattle.vs_machine.proofs.Kept.Moving.{IsCalm, IsQuiet, not_quiet, ends_stays}

-- its transfer is v from then on; one that waited for a message isn't there
module _ (n : ℕ) (b : Bucket) (x d : ℕ) (f : BucketFits n x b) (sending : b.entry x ≡ Some (Sending d)) (apart : d ≢ x) (within : (1 ≤ d) × (d ≤ n)) (there : b.entry d ≡ Some (Receiving x)) (whole_rows : b.rows d ≡ b.rows x)
    (v : Option Transfer) (ready : (t : Transfer) → v ≡ Some t → (t.dest ≡ d) × (t.phase ≡ Sealed)) (quiet : IsQuiet (b.transfer x)) where
  abbrev pub over : Bucket
  over = record b { entry = put b.entry x (Some (Sent d)); kept = put b.kept x (write_count b.history); transfer = put b.transfer x v }

  elsewhere : (y : ℕ) → y ≢ x → over.entry y ≡ b.entry y
  elsewhere y ne = put_there b.entry x _ y ne

  at_dest : over.entry d ≡ Some (Receiving x)
  at_dest = elsewhere d apart ∙ there

  at_source : over.entry x ≡ Some (Sent d)
  at_source = put_here b.entry x _

  beside_over : (y : ℕ) → y ≢ d → y ≢ x → (e : Option Status) → Beside x (b.entry x) y e → Beside d (Some (Receiving x)) y e
  beside_over y nd nx None h = tt
  beside_over y nd nx (Some Garbage) h = tt
  beside_over y nd nx (Some (Sent z)) h = λ g. let same : x ≡ y = cc in absurd (nx (sym same))
  beside_over y nd nx (Some (Receiving z)) h = let same : d ≡ y = cc (h.1, sending) in absurd (nd (sym same))
  beside_over y nd nx (Some Active) h = h
  beside_over y nd nx (Some Pinned) h = h
  beside_over y nd nx (Some (Sending z)) h = h

  over_placed : IsPlaced d over.entry
  over_placed = record {
    owner = subst (Owns d) (sym at_dest) (λ e. apart (sym e));
    beside = λ y ne. subst (λ e. Beside d e y (over.entry y)) (sym at_dest) (elim (cases_eq y x) [
      | inl e ↦ subst (λ q. Beside d (Some (Receiving x)) q (over.entry q)) (sym e) (subst (Beside d (Some (Receiving x)) x) (sym at_source) (λ _. refl))
      | inr nx ↦ subst (Beside d (Some (Receiving x)) y) (sym (elsewhere y nx)) (beside_over y ne nx (b.entry y) (f.placed.beside y nx))
    ]);
  }

  over_named : AreNamed n over.entry
  over_named = put_each (λ q (e : Option Status). (y : ℕ) → names e ≡ Some y → (y ≢ q) × (1 ≤ y) × (y ≤ n)) b.entry x (Some (Sent d))
      (λ y h. let same : d ≡ y = cc in subst (λ z. (z ≢ x) × (1 ≤ z) × (z ≤ n)) same (apart, within.0, within.1)) f.named

  phases : (z e : ℕ) (p : Phase) → z ≢ x → PhaseFits e (b.entry z) p → PhaseFits e (over.entry z) p
  phases z e p ne = subst (λ u. PhaseFits e u p) (sym (elsewhere z ne))

  copies : (z e : ℕ) (p : Phase) → z ≢ x → PhaseFits e (b.entry z) p → CopyFits over.entry b.rows z e p
  copies z e (Ready k) ne ph = absurd (ne (sending_owns x b.entry z e f.placed ph))
  copies z e Copied ne ph = absurd (ne (sending_owns x b.entry z e f.placed ph))
  copies z e (Draining t) ne ph = tt
  copies z e (Waiting g t k) ne ph = tt
  copies z e Sealed ne ph = tt
  copies z e (WaitingLast g t) ne ph = tt
  copies z e (Refused r) ne ph = tt
  copies z e Done ne ph = tt

  its_own : (t : Transfer) → v ≡ Some t → TransferFits n over.entry b.rows x t
  its_own t e =
      let is = ready t e in
      record {
        apart = subst (λ z. z ≢ x) (sym is.0) apart;
        within = subst (λ z. (1 ≤ z) × (z ≤ n)) (sym is.0) within;
        phase = subst (PhaseFits t.dest (over.entry x)) (sym is.1) (subst (λ z. over.entry x ≡ Some (Sent z)) (sym is.0) at_source);
        copy = subst (CopyFits over.entry b.rows x t.dest) (sym is.1) tt;
      }

  pub over_fits : BucketFits n d over
  over_fits = record {
    placed = over_placed;
    named = over_named;
    stored = record {
      empty = put_each (λ q (e : Option Status). e ≡ None → b.rows q ≡ []) b.entry x (Some (Sent d)) (λ e. absurd cc) f.stored.empty;
      rising = f.stored.rising;
    };
    owned = whole_rows ∙ f.owned;
    transfers = λ z t h. elim (put_split b.transfer x v z (Some t) h) [
      | inl e ↦ subst (λ q. TransferFits n over.entry b.rows q t) (sym e.0) (its_own t e.1)
      | inr e ↦ let old = f.transfers z t e.1 in record { apart = old.apart; within = old.within; phase = phases z t.dest t.phase e.0 old.phase; copy = copies z t.dest t.phase e.0 old.phase }
    ];
    replayed = f.replayed;
  }

  -- a read that is held has the rows of the place that is kept now
  kept_rows : (posted : ℕ) → posted ≤ write_count b.history → IsCopy (b.rows x) b.history (over.kept x) posted
  kept_rows posted le =
      let here : over.kept x ≡ write_count b.history = put_here b.kept x _ in
      record {
        rows_are = f.owned ∙ sym (rows_at-all b.history) ∙ ap (rows_at b.history) (sym here);
        fresh = subst (λ k. posted ≤ k) (sym here) le;
        within = subst (λ k. k ≤ write_count b.history) (sym here) (omega arith);
      }

  pub over_reads : (y posted : ℕ) → posted ≤ write_count b.history → HoldFits b y Ro posted → HoldFits over y Ro posted
  over_reads y posted le h = elim (cases_eq y x) [
    | inl e ↦ subst (λ q. HoldFits over q Ro posted) (sym e) (subst (λ u. ReadFits u (b.rows x) b.history (over.kept x) posted) (sym at_source) (kept_rows posted le))
    | inr ne ↦ subst (λ u. ReadFits u (b.rows y) b.history (over.kept y) posted) (sym (elsewhere y ne)) (subst (λ k. ReadFits (b.entry y) (b.rows y) b.history k posted) (sym (put_there b.kept x _ y ne)) h)
  ]

  pub over_writes : (y posted : ℕ) → HoldFits b y Rw posted → HoldFits over y Rw posted
  over_writes y posted h = absurd (serving_alone x b.entry y x d f.placed h sending)

  pub over_lines : KeepsLines b over
  over_lines = record { calls = calls; replies = replies }
    where
      never : (z y e t : ℕ) (k : Option (List ℕ)) → IsIn b.transfer z y (Waiting e t k) → ⊥
      never z y e t k h =
          let same : z ≡ x = sending_owns x b.entry z y f.placed (phase_of n x b z y (Waiting e t k) f h) in
          not_quiet b.transfer x y (Waiting e t k) quiet (subst (λ q. IsIn b.transfer q y (Waiting e t k)) same h)

      calls : (e z y t : ℕ) (m : Message) → MessageFits e b z y t m → MessageFits e over z y t m
      calls e z y t (Chunk q page) h = absurd (never z y e t _ h.0)
      calls e z y t (Last q) h = ends_stays b.transfer x v z y e t quiet h
      calls e z y t (Stat q) h = tt

      replies : (e z y t : ℕ) (r : Reply) → ReplyFits e b z y t r → ReplyFits e over z y t r
      replies e z y t reply.Took (inl h) = inl (ends_stays b.transfer x v z y e t quiet h)
      replies e z y t reply.Took (inr h) = absurd (never z y e t h.key h.waits)
      replies e z y t (reply.Not r) (inl h) = inl (ends_stays b.transfer x v z y e t quiet h)
      replies e z y t (reply.Not r) (inr h) = absurd (never z y e t h.key h.waits)
      replies e z y t (reply.State st live) h = tt

-- a call that was posted was so after no more writes than there are
abbrev pub ArePosted : State → Type 0
ArePosted s = (c : ℕ) (k : Call) → next_call (s.client c) ≡ Some k → is_idle (s.client c).present.stage ≡ false → (s.client c).present.writes ≤ write_count (s.bucket k.bucket).history

-- what clients hold is kept by a bucket that keeps what its reads and its writes hold, for a post that isn't later than its writes
pub posted_kept : (own : ℕ → ℕ) (s : State) (b : ℕ) (new : Bucket) → Inner own s → ArePosted s
    → ((y posted : ℕ) → posted ≤ write_count (s.bucket b).history → HoldFits (s.bucket b) y Ro posted → HoldFits new y Ro posted)
    → ((y posted : ℕ) → HoldFits (s.bucket b) y Rw posted → HoldFits new y Rw posted)
    → (c : ℕ) → ClientFits (put s.bucket b new) (s.client c)
posted_kept own s b new i posted reads writes c =
    client_kept_at s.bucket b new (s.client c) (λ k y called of held. by_mode k y called of held k.mode) (i.clients c)
  where
    by_mode : (k : Call) (y : ℕ) → next_call (s.client c) ≡ Some k → k.bucket ≡ b → is_held_at (s.client c).present y ≡ true → (m : Mode)
        → HoldFits (s.bucket b) y m (s.client c).present.writes → HoldFits new y m (s.client c).present.writes
    by_mode k y called of held Rw h = writes y (s.client c).present.writes h
    by_mode k y called of held Ro h =
        let parts = both_are (is_held (s.client c).present.stage) (is_set (s.client c).present.set y) held in
        let le = posted c k called (held_busy (s.client c).present.stage parts.0) in
        reads y (s.client c).present.writes (subst (λ q. (s.client c).present.writes ≤ write_count (s.bucket q).history) of le) h

pub seal_keeps : (own : ℕ → ℕ) (s t : State) (x b : ℕ) → Inner own s → ArePosted s → seal s x b ≡ Ok t → Inner (put own b (dest_or (own b) ((s.bucket b).transfer x))) t
seal_keeps own s t x b i posted e =
    let p = can_seal s t x b e in
    let n = sets_of s in
    let old = s.bucket b in
    let u = p.u in
    let fits = (i.buckets b).transfers x u p.there in
    let sends : old.entry x ≡ Some (Sending u.dest) = subst (PhaseFits u.dest (old.entry x)) p.copied fits.phase in
    let copy = subst (CopyFits old.entry old.rows x u.dest) p.copied fits.copy in
    let is : own b ≡ x = sym (sending_owns (own b) old.entry x u.dest (i.buckets b).placed sends) in
    let f : BucketFits n x old = subst (λ o. BucketFits n o old) is (i.buckets b) in
    let w : Transfer = in_phase u Sealed in
    let ready : (t : Transfer) → Some w ≡ Some t → (t.dest ≡ u.dest) × (t.phase ≡ Sealed) = λ t e. let same : w ≡ t = cc in (ap (λ (q : Transfer). q.dest) (sym same), ap (λ (q : Transfer). q.phase) (sym same)) in
    let quiet : IsQuiet (old.transfer x) = subst IsQuiet (sym p.there) (subst IsCalm (sym p.copied) tt) in
    let new : Bucket = over n old x u.dest f sends fits.apart fits.within copy.0 copy.1 (Some w) ready quiet in
    let kept : Inner (put own b u.dest) (after_seal s x b u) = record {
      buckets = put_both (λ r. BucketFits n) own s.bucket b u.dest new (over_fits n old x u.dest f sends fits.apart fits.within copy.0 copy.1 (Some w) ready quiet) i.buckets;
      clients = posted_kept own s b new i posted (over_reads n old x u.dest f sends fits.apart fits.within copy.0 copy.1 (Some w) ready quiet) (over_writes n old x u.dest f sends fits.apart fits.within copy.0 copy.1 (Some w) ready quiet);
      absent = i.absent;
      links = λ q r. link_kept s.bucket b new q r (s.link q r) (over_lines n old x u.dest f sends fits.apart fits.within copy.0 copy.1 (Some w) ready quiet) (i.links q r);
      real = put_each (λ q o. has_bucket s q ≡ true → 1 ≤ o) own b u.dest (λ _. fits.within.0) i.real;
      operators = i.operators;
    } in
    subst (λ o. Inner (put own b (dest_or (own b) o)) t) (sym p.there) (subst (Inner (put own b u.dest)) p.gives kept)
