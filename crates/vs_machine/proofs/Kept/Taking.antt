-- What a set takes: rows of a bucket that is sent to it, and the last message.
use Rattle.std.proofs.Common.{◌≡◌, ℕ, inl, inr, ◌≤◌, Bool, true, false, refl, sym, ap, subst, ◌∙◌, arith, List, [], ◌∷◌, Option, Some, None, Ok}
use Rattle.std.specs.Prelude.{◌≢◌, ◌⊎◌, ◌==◌}
use Rattle.std.proofs.lemmas.Bool.{cases_eq, eqb-true}
use Rattle.vs_base.specs.declared.numbers.Mode.TheVariants.{Ro, Rw}
use Rattle.vs_rows.specs.RowMap.{RowMap, IsRising, with_rows}
use Rattle.vs_space.specs.declared.reply.Reply.{Reply}
use Rattle.vs_space.specs.declared.reply.Reply.TheVariants as reply
use Rattle.vs_space.specs.declared.status.Status.{Status}
use Rattle.vs_space.specs.declared.status.Status.TheVariants.{Active, Pinned, Sending, Receiving, Sent, Garbage}
use Rattle.vs_link.specs.Connection.{Message, Chunk, Last, Stat}
use Rattle.vs_recv.specs.Receive.{received}
use Rattle.vs_recv.specs.declared.took.Took.{Took}
use Rattle.vs_send.specs.declared.transfer.Phase.{Phase}
use Rattle.vs_send.specs.declared.transfer.Phase.TheVariants.{Draining, Ready, Waiting, Copied, Sealed, WaitingLast, Refused, Done}
use Rattle.vs_send.specs.declared.transfer.Transfer.{Transfer}
use Rattle.vs_machine.specs.State.{Bucket}
use Rattle.vs_machine.specs.Coherence.{names, IsServing}
use Rattle.vs_machine.specs.Kinds.Sender.{next_page, last_key}
use Rattle.vs_machine.specs.Kinds.Connections.{with_page, with_last}
use Rattle.vs_machine.specs.Inner.Owner.{IsPlaced, Owns, Beside}
use Rattle.vs_machine.specs.Inner.Phases.{PhaseFits}
use Rattle.vs_machine.specs.Inner.Copying.{CopyFits, IsNext, HasTaken, HasReceived, rows_to}
use Rattle.vs_machine.specs.Inner.Buckets.{BucketFits}
use Rattle.vs_machine.specs.Inner.Calls.{ReadFits, HoldFits}
use Rattle.vs_machine.specs.Inner.Down.{IsStuck, IsWaiting}
use Rattle.vs_machine.specs.Inner.Lines.{MessageFits, ReplyFits, IsIn}
use Rattle.vs_machine.proofs.Frame.{put_each, put_here, put_there}
use Rattle.vs_machine.proofs.Keeping.{KeepsHolds}
use Rattle.vs_machine.proofs.Owners.{sending_owns, phase_of}
use Rattle.vs_machine.proofs.Pages.{page_joins, no_more, end_of}
use Rattle.vs_machine.proofs.Rising.{rising_rows}

-- ---- what the receiver's table takes

pub data_taken : (e : Option Status) (locked : Bool) (n most x : ℕ) (took : Took) → received e locked n most x false ≡ Ok took → (e ≡ None) ⊎ (e ≡ Some (Receiving x))
data_taken None locked n most x took h = inl refl
data_taken (Some (Receiving z)) locked n most x took h = inr (by (z == x) refl h)
  where
    by : (t : Bool) → (z == x) ≡ t → received (Some (Receiving z)) locked n most x false ≡ Ok took → Some (Receiving z) ≡ Some (Receiving x)
    by true e h = ap (λ u. Some (Receiving u)) (eqb-true z x e)
    by false e h = absurd (grind (arith, e, h))
data_taken (Some Active) locked n most x took h = absurd cc
data_taken (Some Pinned) locked n most x took h = absurd cc
data_taken (Some (Sending d)) locked n most x took h = absurd cc
data_taken (Some (Sent d)) locked n most x took h = absurd cc
data_taken (Some Garbage) locked n most x took h = absurd cc

pub last_taken : (e : Option Status) (locked : Bool) (n most x : ℕ) (took : Took) → received e locked n most x true ≡ Ok took → e ≡ Some (Receiving x)
last_taken None locked n most x took h = absurd cc
last_taken (Some (Receiving z)) locked n most x took h = by (z == x) refl h
  where
    by : (t : Bool) → (z == x) ≡ t → received (Some (Receiving z)) locked n most x true ≡ Ok took → Some (Receiving z) ≡ Some (Receiving x)
    by true e h = ap (λ u. Some (Receiving u)) (eqb-true z x e)
    by false e h = absurd (grind (arith, e, h))
last_taken (Some Active) locked n most x took h = absurd cc
last_taken (Some Pinned) locked n most x took h = absurd cc
last_taken (Some (Sending d)) locked n most x took h = absurd cc
last_taken (Some (Sent d)) locked n most x took h = absurd cc
last_taken (Some Garbage) locked n most x took h = absurd cc

-- a set that takes rows has no entry yet, or is receiving them
abbrev pub IsOpenTo : ℕ → Option Status → Type 0
IsOpenTo x e = (e ≡ None) ⊎ (e ≡ Some (Receiving x))

-- such an entry holds no call and has no transfer
unheld_open : (x : ℕ) (e : Option Status) (P : Option Status → Type 0) → (P None → ⊥) → (P (Some (Receiving x)) → ⊥) → IsOpenTo x e → P e → ⊥
unheld_open x e P none from (inl is) h = none (subst P is h)
unheld_open x e P none from (inr is) h = from (subst P is h)

pub no_phase : (d : ℕ) (e : Option Status) (p : Phase) → (e ≡ Some Active → ⊥) → (e ≡ Some (Sending d) → ⊥) → (e ≡ Some (Sent d) → ⊥) → PhaseFits d e p → ⊥
no_phase d e (Draining t) a s g h = a h
no_phase d e (Ready k) a s g h = s h
no_phase d e (Waiting t n k) a s g h = s h
no_phase d e Copied a s g h = s h
no_phase d e Sealed a s g h = g h
no_phase d e (WaitingLast t n) a s g h = g h
no_phase d e Done a s g h = g h
no_phase d e (Refused r) a s g (inl h) = s h
no_phase d e (Refused r) a s g (inr h) = g h

-- ---- rows of the bucket, which x sends to y, are taken

module _ (n : ℕ) (b : Bucket) (x y : ℕ) (page : RowMap) (f : BucketFits n x b) (sends : b.entry x ≡ Some (Sending y)) (apart : y ≢ x) (within : (1 ≤ x) × (x ≤ n)) (free : IsOpenTo x (b.entry y))
    (stuck : IsStuck (b.transfer x)) where
  abbrev pub paged : Bucket
  paged = with_page b x y page

  elsewhere : (z : ℕ) → z ≢ y → paged.entry z ≡ b.entry z
  elsewhere z ne = put_there b.entry y _ z ne

  at_source : paged.entry x ≡ Some (Sending y)
  at_source = elsewhere x (λ e. apart (sym e)) ∙ sends

  rows_elsewhere : (z : ℕ) → z ≢ y → paged.rows z ≡ b.rows z
  rows_elsewhere z ne = put_there b.rows y _ z ne

  paged_placed : IsPlaced x paged.entry
  paged_placed = record {
    owner = subst (Owns x) (sym at_source) apart;
    beside = λ z ne. elim (cases_eq z y) [
      | inl is ↦ subst (λ q. Beside x (paged.entry x) q (paged.entry q)) (sym is) (subst (Beside x (paged.entry x) y) (sym (put_here b.entry y _)) (refl, at_source))
      | inr nz ↦ subst (λ o. Beside x o z (paged.entry z)) (sym (elsewhere x (λ e. apart (sym e)))) (subst (Beside x (b.entry x) z) (sym (elsewhere z nz)) (f.placed.beside z ne))
    ];
  }

  -- a transfer of the bucket that copies is that of x, which waits
  its_wait : (z : ℕ) (w : Transfer) → b.transfer z ≡ Some w → b.entry z ≡ Some (Sending w.dest) → IsWaiting w.phase
  its_wait z w h moving =
      let same : z ≡ x = sending_owns x b.entry z w.dest f.placed moving in
      subst IsStuck (ap b.transfer (sym same) ∙ h) stuck

  copies : (z : ℕ) (w : Transfer) → b.transfer z ≡ Some w → (p : Phase) → w.phase ≡ p → PhaseFits w.dest (b.entry z) p → CopyFits paged.entry paged.rows z w.dest p
  copies z w h (Ready k) is ph = absurd (subst IsWaiting is (its_wait z w h ph))
  copies z w h Copied is ph = absurd (subst IsWaiting is (its_wait z w h ph))
  copies z w h (Draining g) is ph = tt
  copies z w h (Waiting g k l) is ph = tt
  copies z w h Sealed is ph = tt
  copies z w h (WaitingLast g k) is ph = tt
  copies z w h (Refused r) is ph = tt
  copies z w h Done is ph = tt

  -- y has no transfer of the bucket
  no_transfer : (w : Transfer) → b.transfer y ≡ Some w → ⊥
  no_transfer w h = no_phase w.dest (b.entry y) w.phase (λ e. absurd (elim free [ inl is ↦ cc (is, e) | inr is ↦ cc (is, e) ])) (λ e. absurd (elim free [ inl is ↦ cc (is, e) | inr is ↦ cc (is, e) ]))
      (λ e. absurd (elim free [ inl is ↦ cc (is, e) | inr is ↦ cc (is, e) ])) (f.transfers y w h).phase

  pub paged_fits : BucketFits n x paged
  paged_fits = record {
    placed = paged_placed;
    named = put_each (λ q (o : Option Status). (z : ℕ) → names o ≡ Some z → (z ≢ q) × (1 ≤ z) × (z ≤ n)) b.entry y (Some (Receiving x))
        (λ z h. let same : x ≡ z = cc in subst (λ k. (k ≢ y) × (1 ≤ k) × (k ≤ n)) same ((λ e. apart (sym e)), within.0, within.1)) f.named;
    stored = record {
      empty = λ z none. elim (cases_eq z y) [
        | inl is ↦ absurd (cc (ap paged.entry is, none, put_here b.entry y (Some (Receiving x))))
        | inr nz ↦ rows_elsewhere z nz ∙ f.stored.empty z (sym (elsewhere z nz) ∙ none)
      ];
      rising = put_each (λ q. IsRising) b.rows y (with_rows (b.rows y) page) (rising_rows (b.rows y) page (f.stored.rising y)) f.stored.rising;
    };
    owned = rows_elsewhere x (λ e. apart (sym e)) ∙ f.owned;
    transfers = λ z w h.
        let nz : z ≢ y = λ is. no_transfer w (ap b.transfer (sym is) ∙ h) in
        let old = f.transfers z w h in
        record { apart = old.apart; within = old.within; phase = subst (λ o. PhaseFits w.dest o w.phase) (sym (elsewhere z nz)) old.phase; copy = copies z w h w.phase refl old.phase };
    replayed = f.replayed;
  }

  pub paged_holds : KeepsHolds b paged
  paged_holds z posted Ro h = elim (cases_eq z y) [
    | inl is ↦ absurd (unheld_open x (b.entry y) (λ o. ReadFits o (b.rows y) b.history (b.kept y) posted) (λ g. g) (λ g. g) free (subst (λ q. HoldFits b q Ro posted) is h))
    | inr nz ↦ subst (λ o. ReadFits o (paged.rows z) b.history (b.kept z) posted) (sym (elsewhere z nz)) (subst (λ m. ReadFits (b.entry z) m b.history (b.kept z) posted) (sym (rows_elsewhere z nz)) h)
  ]
  paged_holds z posted Rw h = elim (cases_eq z y) [
    | inl is ↦ absurd (unheld_open x (b.entry y) IsServing (λ g. g) (λ g. g) free (subst (λ q. IsServing (b.entry q)) is h))
    | inr nz ↦ subst IsServing (sym (elsewhere z nz)) h
  ]

  -- any message or answer but one that waits for rows stays
  pub paged_calls : (g z w k : ℕ) (m : Message) → ((l : Option (List ℕ)) → IsIn b.transfer z w (Waiting g k l) → ⊥) → MessageFits g b z w k m → MessageFits g paged z w k m
  paged_calls g z w k (Chunk q rows) other h = absurd (other _ h.0)
  paged_calls g z w k (Last q) other h = h
  paged_calls g z w k (Stat q) other h = tt

  pub paged_replies : (g z w k : ℕ) (r : Reply) → ((l : Option (List ℕ)) → IsIn b.transfer z w (Waiting g k l) → ⊥) → ReplyFits g b z w k r → ReplyFits g paged z w k r
  paged_replies g z w k reply.Took other (inl h) = inl h
  paged_replies g z w k reply.Took other (inr h) = absurd (other h.key h.waits)
  paged_replies g z w k (reply.Not r) other (inl h) = inl h
  paged_replies g z w k (reply.Not r) other (inr h) = inr (record { key = h.key; waits = h.waits })
  paged_replies g z w k (reply.State st live) other h = tt

  -- ---- y has the rows up to the last key of the page

  before : (from : Option (List ℕ)) → HasTaken b.entry b.rows x y from → b.rows y ≡ rows_to (b.rows x) from
  before None h = elim free [ inl is ↦ f.stored.empty y is | inr is ↦ absurd (h is) ]
  before (Some k) h = h.1

  nonempty : (from : Option (List ℕ)) → HasTaken b.entry b.rows x y from → [] ≡ next_page (b.rows x) from → b.rows x ≡ []
  nonempty None h is = no_more (b.rows x) None (sym is)
  nonempty (Some k) h is = absurd (h.2 (no_more (b.rows x) (Some k) (sym is)))

  joined : IsNext b.entry b.rows x y page → (p : RowMap) → page ≡ p → HasReceived paged.entry paged.rows x y (last_key p)
  joined next [] is =
      let none : b.rows x ≡ [] = nonempty next.from next.taken (sym is ∙ next.page_is) in
      let base : b.rows y ≡ [] = before next.from next.taken ∙ ap (λ m. rows_to m next.from) none ∙ nothing next.from in
      (put_here b.entry y _, put_here b.rows y _ ∙ ap (λ p. with_rows (b.rows y) p) is ∙ base, rows_elsewhere x (λ e. apart (sym e)) ∙ none)
    where
      nothing : (j : Option (List ℕ)) → rows_to [] j ≡ []
      nothing None = refl
      nothing (Some k) = refl
  joined next (row ∷ rows) is =
      let some : page ≢ [] = λ e. absurd (cc (is, e)) in
      let now : paged.rows y ≡ rows_to (b.rows x) (last_key page) =
      put_here b.rows y _ ∙ ap (λ m. with_rows m page) (before next.from next.taken) ∙ page_joins (b.rows x) next.from page (f.stored.rising x) next.page_is some in
      of_key (last_key (row ∷ rows)) (some_key row rows) (put_here b.entry y _) (now ∙ ap (λ p. rows_to (b.rows x) (last_key p)) is ∙ ap (λ m. rows_to m (last_key (row ∷ rows))) (sym (rows_elsewhere x (λ e. apart (sym e)))))
    where
      some_key : (r : List ℕ × List ℕ) (rs : RowMap) → last_key (r ∷ rs) ≡ None → ⊥
      some_key r rs e = absurd (cc (e, (end_of r rs).key))

      of_key : (k : Option (List ℕ)) → (k ≡ None → ⊥) → paged.entry y ≡ Some (Receiving x) → paged.rows y ≡ rows_to (paged.rows x) k → HasReceived paged.entry paged.rows x y k
      of_key None some at now = absurd (some refl)
      of_key (Some k) some at now = (at, now)

  pub paged_reply : (e t : ℕ) → IsIn b.transfer x y (Waiting e t (last_key page)) → IsNext b.entry b.rows x y page → ReplyFits e paged x y t reply.Took
  paged_reply e t waits next = inr (record { key = last_key page; waits = waits; received = joined next page refl })

-- one transfer of a bucket copies: a message or an answer that waits for rows is the one that is known
pub one_wait : (n x : ℕ) (b : Bucket) (y e t : ℕ) (j : Option (List ℕ)) → BucketFits n x b → IsIn b.transfer x y (Waiting e t j) → (z w g k : ℕ) (l : Option (List ℕ)) → IsIn b.transfer z w (Waiting g k l) → (z ≡ x) × (y ≡ w) × (t ≡ k)
one_wait n x b y e t j f at z w g k l h =
    let same : z ≡ x = sending_owns x b.entry z w f.placed (phase_of n x b z w (Waiting g k l) f h) in
    let one : at.it ≡ h.it = cc (ap b.transfer same, at.there, h.there) in
    let phases : Waiting e t j ≡ Waiting g k l = sym at.phase_is ∙ ap (λ (q : Transfer). q.phase) one ∙ h.phase_is in
    (same, sym at.to ∙ ap (λ (q : Transfer). q.dest) one ∙ h.to, number phases)
  where
    number : Waiting e t j ≡ Waiting g k l → t ≡ k
    number q = cc

-- ---- the last message is taken: y is the owner, and active from then on

module _ (n : ℕ) (b : Bucket) (x y : ℕ) (f : BucketFits n y b) (from : b.entry y ≡ Some (Receiving x)) where
  abbrev pub whole : Bucket
  whole = with_last b y

  beyond : (z : ℕ) → z ≢ y → whole.entry z ≡ b.entry z
  beyond z ne = put_there b.entry y _ z ne

  beside_whole : (z : ℕ) (e : Option Status) → Beside y (b.entry y) z e → Beside y (Some Active) z e
  beside_whole z None h = tt
  beside_whole z (Some Garbage) h = tt
  beside_whole z (Some (Sent d)) h = λ g. absurd cc
  beside_whole z (Some (Receiving w)) h = absurd (cc (h.1, from))
  beside_whole z (Some Active) h = h
  beside_whole z (Some Pinned) h = h
  beside_whole z (Some (Sending d)) h = h

  whole_placed : IsPlaced y whole.entry
  whole_placed = record {
    owner = subst (Owns y) (sym (put_here b.entry y _)) tt;
    beside = λ z ne. subst (λ o. Beside y o z (whole.entry z)) (sym (put_here b.entry y _)) (subst (Beside y (Some Active) z) (sym (beyond z ne)) (beside_whole z (b.entry z) (f.placed.beside z ne)));
  }

  never_sends : (z d : ℕ) → b.entry z ≡ Some (Sending d) → ⊥
  never_sends z d h = let same : z ≡ y = sending_owns y b.entry z d f.placed h in absurd (cc (ap b.entry same, h, from))

  no_move : (w : Transfer) → b.transfer y ≡ Some w → ⊥
  no_move w h = no_phase w.dest (b.entry y) w.phase (λ e. absurd (cc (from, e))) (λ e. absurd (cc (from, e))) (λ e. absurd (cc (from, e))) (f.transfers y w h).phase

  whole_copies : (z d : ℕ) (p : Phase) → PhaseFits d (b.entry z) p → CopyFits whole.entry b.rows z d p
  whole_copies z d (Ready k) ph = absurd (never_sends z d ph)
  whole_copies z d Copied ph = absurd (never_sends z d ph)
  whole_copies z d (Draining g) ph = tt
  whole_copies z d (Waiting g k l) ph = tt
  whole_copies z d Sealed ph = tt
  whole_copies z d (WaitingLast g k) ph = tt
  whole_copies z d (Refused r) ph = tt
  whole_copies z d Done ph = tt

  pub whole_fits : BucketFits n y whole
  whole_fits = record {
    placed = whole_placed;
    named = put_each (λ q (o : Option Status). (z : ℕ) → names o ≡ Some z → (z ≢ q) × (1 ≤ z) × (z ≤ n)) b.entry y (Some Active) (λ z h. absurd cc) f.named;
    stored = record {
      empty = put_each (λ q (o : Option Status). o ≡ None → b.rows q ≡ []) b.entry y (Some Active) (λ e. absurd cc) f.stored.empty;
      rising = f.stored.rising;
    };
    owned = f.owned;
    transfers = λ z w h.
        let nz : z ≢ y = λ is. no_move w (ap b.transfer (sym is) ∙ h) in
        let old = f.transfers z w h in
        record { apart = old.apart; within = old.within; phase = subst (λ o. PhaseFits w.dest o w.phase) (sym (beyond z nz)) old.phase; copy = whole_copies z w.dest w.phase old.phase };
    replayed = f.replayed;
  }

  pub whole_holds : KeepsHolds b whole
  whole_holds z posted Ro h = elim (cases_eq z y) [
    | inl is ↦ absurd (subst (λ o. ReadFits o (b.rows y) b.history (b.kept y) posted) from (subst (λ q. HoldFits b q Ro posted) is h))
    | inr nz ↦ subst (λ o. ReadFits o (b.rows z) b.history (b.kept z) posted) (sym (beyond z nz)) h
  ]
  whole_holds z posted Rw h = elim (cases_eq z y) [
    | inl is ↦ absurd (subst IsServing from (subst (λ q. IsServing (b.entry q)) is h))
    | inr nz ↦ subst IsServing (sym (beyond z nz)) h
  ]

  no_wait : (z w g k : ℕ) (l : Option (List ℕ)) → IsIn b.transfer z w (Waiting g k l) → ⊥
  no_wait z w g k l h = never_sends z w (phase_of n y b z w (Waiting g k l) f h)

  pub whole_calls : (g z w k : ℕ) (m : Message) → MessageFits g b z w k m → MessageFits g whole z w k m
  whole_calls g z w k (Chunk q rows) h = absurd (no_wait z w g k _ h.0)
  whole_calls g z w k (Last q) h = h
  whole_calls g z w k (Stat q) h = tt

  pub whole_replies : (g z w k : ℕ) (r : Reply) → ReplyFits g b z w k r → ReplyFits g whole z w k r
  whole_replies g z w k reply.Took (inl h) = inl h
  whole_replies g z w k reply.Took (inr h) = absurd (no_wait z w g k h.key h.waits)
  whole_replies g z w k (reply.Not r) (inl h) = inl h
  whole_replies g z w k (reply.Not r) (inr h) = absurd (no_wait z w g k h.key h.waits)
  whole_replies g z w k (reply.State st live) h = tt
