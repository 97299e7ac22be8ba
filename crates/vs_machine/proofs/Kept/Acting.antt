-- The operations of a call run: what holds inside is kept.
use Rattle.std.proofs.Common.{◌≡◌, ℕ, Ok, inl, inr, true, false, refl, sym, ap, subst, ◌∙◌, arith, Option, Some, None, List}
use Rattle.std.specs.Prelude.{◌≢◌}
use Rattle.std.proofs.lemmas.List.{length-append}
use Rattle.std.proofs.lemmas.Bool.{eq-eqb}
use Rattle.vs_base.specs.declared.numbers.CallId.{CallId}
use Rattle.vs_base.specs.declared.numbers.Mode.{Mode}
use Rattle.vs_base.specs.declared.numbers.Mode.TheVariants.{Ro, Rw}
use Rattle.vs_rows.specs.RowMap.{IsRising}
use Rattle.vs_rows.specs.Operations.{answers_to, rows_after}
use Rattle.vs_rows.specs.declared.op.Op.{Op}
use Rattle.vs_space.specs.declared.reply.Reply.{Reply}
use Rattle.vs_space.specs.declared.reply.Reply.TheVariants as reply
use Rattle.vs_space.specs.declared.status.Status.{Status}
use Rattle.vs_space.specs.declared.status.Status.TheVariants.{Active, Pinned, Sending, Receiving, Sent, Garbage}
use Rattle.vs_calls.specs.declared.stage.Stage.{Stage}
use Rattle.vs_calls.specs.Progress.{Progress, acted, is_running, is_held, is_idle}
use Rattle.vs_history.specs.History.{Entry, rows_now}
use Rattle.vs_link.specs.Connection.{Message, Chunk, Last, Stat}
use Rattle.vs_script.specs.Calls.{Call}
use Rattle.vs_send.specs.declared.transfer.Phase.{Phase}
use Rattle.vs_send.specs.declared.transfer.Phase.TheVariants.{Draining, Ready, Waiting, Copied, Sealed, WaitingLast, Refused, Done}
use Rattle.vs_machine.specs.Tables.{put}
use Rattle.vs_machine.specs.State.{State, Bucket, Client, has_client, call_id, with_progress}
use Rattle.vs_machine.specs.Coherence.{IsServing}
use Rattle.vs_machine.specs.Kinds.Calls.{act, after_act, bucket_after, place_of}
use Rattle.vs_machine.specs.Whole.{Inner}
use Rattle.vs_machine.specs.Inner.Buckets.{BucketFits}
use Rattle.vs_machine.specs.Inner.Calls.{ReadFits, HoldFits, ClientFits, is_held_at}
use Rattle.vs_machine.specs.Inner.Copying.{CopyFits}
use Rattle.vs_machine.specs.Inner.Lines.{MessageFits, ReplyFits, IsIn}
use Rattle.vs_machine.specs.Inner.Phases.{PhaseFits}
use Rattle.vs_machine.proofs.Frame.{put_each, put_here, put_there}
use Rattle.vs_machine.proofs.Keeping.{KeepsHolds, KeepsLines, client_kept, link_kept}
use Rattle.vs_machine.proofs.Histories.{replayed_write, replayed_read, rows_at-with_write, replay-append}
use Rattle.vs_machine.proofs.Owners.{serving_owns, serving_alone, phase_of, rows_read}
use Rattle.vs_machine.proofs.Rising.{rising_after}
use Rattle.vs_machine.proofs.Can.Calls.{can_act}
use Rattle.vs_machine.proofs.Kept.Calls.{one_set}

-- ---- a write

module _ (n o : ℕ) (b : Bucket) (x : ℕ) (id : CallId) (ops : List Op) (f : BucketFits n o b) (at : IsServing (b.entry x)) where
  abbrev pub written : Bucket
  written = bucket_after b x id Rw ops

  same : x ≡ o
  same = serving_owns o b.entry x f.placed at

  here : b.rows x ≡ rows_now b.history
  here = ap b.rows same ∙ f.owned

  copies : (z d : ℕ) (p : Phase) → PhaseFits d (b.entry z) p → CopyFits b.entry b.rows z d p → CopyFits written.entry written.rows z d p
  copies z d (Ready k) ph cp = absurd (serving_alone o b.entry x z d f.placed at ph)
  copies z d Copied ph cp = absurd (serving_alone o b.entry x z d f.placed at ph)
  copies z d (Draining t) ph cp = tt
  copies z d (Waiting e t k) ph cp = tt
  copies z d Sealed ph cp = tt
  copies z d (WaitingLast e t) ph cp = tt
  copies z d (Refused r) ph cp = tt
  copies z d Done ph cp = tt

  pub written_fits : BucketFits n o written
  written_fits = record {
    placed = f.placed;
    named = f.named;
    stored = record {
      empty = λ y none. put_there b.rows x _ y (λ e. subst IsServing (ap b.entry (sym e) ∙ none) at) ∙ f.stored.empty y none;
      rising = put_each (λ y. IsRising) b.rows x (rows_after (b.rows x) ops) (rising_after (b.rows x) ops (f.stored.rising x)) f.stored.rising;
    };
    owned = subst (λ q. put b.rows x (rows_after (b.rows x) ops) q ≡ rows_now written.history) same
        (put_here b.rows x _ ∙ ap (λ m. rows_after m ops) here ∙ sym (replay-append b.history.base b.history.writes _));
    transfers = λ z t h. let old = f.transfers z t h in record { apart = old.apart; within = old.within; phase = old.phase; copy = copies z t.dest t.phase old.phase old.copy };
    replayed = replayed_write b.history id ops _ f.replayed (ap (λ m. answers_to m ops) here);
  }

  reads : (y posted : ℕ) (e : Option Status) → b.entry y ≡ e → ReadFits e (b.rows y) b.history (b.kept y) posted → ReadFits e (written.rows y) written.history (written.kept y) posted
  reads y posted (Some (Sent d)) is h =
      let apart : y ≢ x = λ e. subst IsServing (ap b.entry (sym e) ∙ is) at in
      record {
        rows_are = put_there b.rows x _ y apart ∙ h.rows_are ∙ sym (rows_at-with_write b.history id ops _ (b.kept y) h.within);
        fresh = h.fresh;
        within = omega (arith, h.within, length-append {A = Entry});
      }
  reads y posted (Some Active) is h = tt
  reads y posted (Some Pinned) is h = tt
  reads y posted (Some (Sending d)) is h = tt
  reads y posted (Some (Receiving z)) is h = h
  reads y posted (Some Garbage) is h = h
  reads y posted None is h = h

  pub written_holds : KeepsHolds b written
  written_holds y posted Rw h = h
  written_holds y posted Ro h = reads y posted (b.entry y) refl h

  waits : (z y e t : ℕ) (k : Option (List ℕ)) → IsIn b.transfer z y (Waiting e t k) → ⊥
  waits z y e t k h = serving_alone o b.entry x z y f.placed at (phase_of n o b z y (Waiting e t k) f h)

  calls : (e z y t : ℕ) (m : Message) → MessageFits e b z y t m → MessageFits e written z y t m
  calls e z y t (Chunk q page) h = absurd (waits z y e t _ h.0)
  calls e z y t (Last q) h = h
  calls e z y t (Stat q) h = tt

  replies : (e z y t : ℕ) (r : Reply) → ReplyFits e b z y t r → ReplyFits e written z y t r
  replies e z y t reply.Took (inl h) = inl h
  replies e z y t reply.Took (inr h) = absurd (waits z y e t _ h.waits)
  replies e z y t (reply.Not r) (inl h) = inl h
  replies e z y t (reply.Not r) (inr h) = absurd (waits z y e t _ h.waits)
  replies e z y t (reply.State st live) h = tt

  pub written_lines : KeepsLines b written
  written_lines = record { calls = calls; replies = replies }

-- ---- a read

module _ (n o : ℕ) (b : Bucket) (x at : ℕ) (id : CallId) (ops : List Op) (f : BucketFits n o b) (reads : ReadFits (b.entry x) (b.rows x) b.history (b.kept x) at) where
  abbrev pub seen : Bucket
  seen = bucket_after b x id Ro ops

  pub read_fits : BucketFits n o seen
  read_fits =
      let found = rows_read n o b x at f reads in
      record {
        placed = f.placed;
        named = f.named;
        stored = f.stored;
        owned = f.owned;
        transfers = f.transfers;
        replayed = replayed_read b.history id ops _ (place_of b x Ro) f.replayed found.0 (ap (λ m. answers_to m ops) found.1);
      }

  kept : (y posted : ℕ) (e : Option Status) → ReadFits e (b.rows y) b.history (b.kept y) posted → ReadFits e (b.rows y) seen.history (b.kept y) posted
  kept y posted (Some (Sent d)) h = record { rows_are = h.rows_are; fresh = h.fresh; within = h.within }
  kept y posted (Some Active) h = tt
  kept y posted (Some Pinned) h = tt
  kept y posted (Some (Sending d)) h = tt
  kept y posted (Some (Receiving z)) h = h
  kept y posted (Some Garbage) h = h
  kept y posted None h = h

  pub read_holds : KeepsHolds b seen
  read_holds y posted Rw h = h
  read_holds y posted Ro h = kept y posted (b.entry y) h

  sent : (e z y t : ℕ) (m : Message) → MessageFits e b z y t m → MessageFits e seen z y t m
  sent e z y t (Chunk q page) h = h
  sent e z y t (Last q) h = h
  sent e z y t (Stat q) h = tt

  heard : (e z y t : ℕ) (r : Reply) → ReplyFits e b z y t r → ReplyFits e seen z y t r
  heard e z y t reply.Took (inl h) = inl h
  heard e z y t reply.Took (inr h) = inr (record { key = h.key; waits = h.waits; received = h.received })
  heard e z y t (reply.Not r) (inl h) = inl h
  heard e z y t (reply.Not r) (inr h) = inr (record { key = h.key; waits = h.waits })
  heard e z y t (reply.State st live) h = tt

  pub read_lines : KeepsLines b seen
  read_lines = record { calls = sent; replies = heard }

-- ---- either

pub record Acts (n o : ℕ) (old new : Bucket) : Type 0 where
  pub fits : BucketFits n o new
  pub holds : KeepsHolds old new
  pub lines : KeepsLines old new

acts : (n o : ℕ) (b : Bucket) (x at : ℕ) (id : CallId) (mode : Mode) (ops : List Op) → BucketFits n o b → HoldFits b x mode at → Acts n o b (bucket_after b x id mode ops)
acts n o b x at id Rw ops f h = record { fits = written_fits n o b x id ops f h; holds = written_holds n o b x id ops f h; lines = written_lines n o b x id ops f h }
acts n o b x at id Ro ops f h = record { fits = read_fits n o b x at id ops f h; holds = read_holds n o b x at id ops f h; lines = read_lines n o b x at id ops f h }

-- a call that is running is held at its set
pub held_at : (p : Progress) (x : ℕ) → is_held p.stage ≡ true → p.set ≡ Some x → is_held_at p x ≡ true
held_at p x held at = rw (held, at, eq-eqb x x refl) refl

runs_held : (st : Stage) → is_running st ≡ true → is_held st ≡ true
runs_held st h = grind arith

pub runs_busy : (st : Stage) → is_running st ≡ true → is_idle st ≡ false
runs_busy st h = grind arith

pub act_keeps : (own : ℕ → ℕ) (s t : State) (c : ℕ) → Inner own s → act s c ≡ Ok t → Inner own t
act_keeps own s t c i e =
    let p = can_act s t c e in
    let old = s.client c in
    let q = p.k.bucket in
    let b = s.bucket q in
    let fits : HoldFits b p.x p.k.mode old.present.writes = i.clients c p.k p.x p.called (held_at old.present p.x (runs_held old.present.stage p.running) p.set) in
    let next : Bucket = bucket_after b p.x (call_id c old) p.k.mode p.k.ops in
    let both = acts _ (own q) b p.x old.present.writes (call_id c old) p.k.mode p.k.ops (i.buckets q) fits in
    let new : Client = with_progress old (acted old.present (place_of b p.x p.k.mode) (answers_to (b.rows p.x) p.k.ops)) in
    let holds : ClientFits s.bucket new = λ k y called held.
    let one : p.k ≡ k = cc (p.called, called) in
    let here : p.x ≡ y = one_set old.present.set p.x y p.set held in
    subst (λ (j : Call). HoldFits (s.bucket j.bucket) y j.mode old.present.writes) one (subst (λ z. HoldFits b z p.k.mode old.present.writes) here fits) in
    let kept : Inner own (after_act s c p.k p.x) = record {
      buckets = put_each (λ r. BucketFits _ (own r)) s.bucket q next both.fits i.buckets;
      clients = put_each (λ r. ClientFits (put s.bucket q next)) s.client c new (client_kept s.bucket q next new both.holds holds) (λ r. client_kept s.bucket q next (s.client r) both.holds (i.clients r));
      absent = put_each (λ r (u : Client). has_client s r ≡ false → is_idle u.present.stage ≡ true) s.client c new (λ out. absurd (cc (p.client, out))) i.absent;
      links = λ x y. link_kept s.bucket q next x y (s.link x y) both.lines (i.links x y);
      real = i.real;
      operators = i.operators;
    } in
    subst (Inner own) p.gives kept
