-- What is left of a bucket that was sent is deleted.
use Rattle.std.proofs.Common.{◌≡◌, ℕ, Ok, inl, inr, ◌≤◌, true, refl, sym, ap, subst, ◌∙◌, List, [], ◌∷◌, drop, Option, Some, None}
use Rattle.std.specs.Prelude.{◌≢◌, ◌⊎◌}
use Rattle.std.proofs.lemmas.Bool.{cases_eq}
use Rattle.vs_base.specs.declared.numbers.Mode.{Mode}
use Rattle.vs_base.specs.declared.numbers.Mode.TheVariants.{Ro, Rw}
use Rattle.vs_rows.specs.RowMap.{RowMap, IsRising, rows_above}
use Rattle.vs_rows.proofs.Rising.{rising_drop}
use Rattle.vs_space.specs.declared.reply.Reply.{Reply}
use Rattle.vs_space.specs.declared.reply.Reply.TheVariants as reply
use Rattle.vs_space.specs.declared.status.Status.{Status}
use Rattle.vs_space.specs.declared.status.Status.TheVariants.{Active, Pinned, Sending, Receiving, Sent, Garbage}
use Rattle.vs_calls.specs.Progress.{is_held}
use Rattle.vs_link.specs.Connection.{Message, Chunk, Last, Stat}
use Rattle.vs_script.specs.Calls.{Call}
use Rattle.vs_send.specs.declared.transfer.Phase.{Phase}
use Rattle.vs_send.specs.declared.transfer.Phase.TheVariants.{Draining, Ready, Waiting, Copied, Sealed, WaitingLast, Refused, Done}
use Rattle.vs_send.specs.declared.transfer.Transfer.{Transfer}
use Rattle.vs_machine.specs.Tables.{put}
use Rattle.vs_machine.specs.State.{State, Bucket, sets_of, next_call, is_set, references, put_bucket, with_entry, put_rows}
use Rattle.vs_machine.specs.Coherence.{IsServing, names}
use Rattle.vs_machine.specs.Kinds.Sender.{next_page}
use Rattle.vs_machine.specs.Kinds.Connections.{is_null}
use Rattle.vs_machine.specs.Kinds.Collection.{condemn, wipe, forget}
use Rattle.vs_machine.specs.Whole.{Inner}
use Rattle.vs_machine.specs.Inner.Owner.{Owns, Beside}
use Rattle.vs_machine.specs.Inner.Phases.{PhaseFits}
use Rattle.vs_machine.specs.Inner.Copying.{CopyFits, HasTaken, HasReceived, rows_to}
use Rattle.vs_machine.specs.Inner.Buckets.{BucketFits}
use Rattle.vs_machine.specs.Inner.Calls.{ReadFits, HoldFits, is_held_at}
use Rattle.vs_machine.specs.Inner.Lines.{MessageFits, ReplyFits}
use Rattle.vs_machine.proofs.Frame.{put_each, put_here, put_there, put_same}
use Rattle.vs_machine.proofs.Keeping.{KeepsLines, client_kept_at, link_kept}
use Rattle.vs_machine.proofs.Possible.{both_are}
use Rattle.vs_machine.proofs.Can.Others.{can_condemn, can_wipe, can_forget}
use Rattle.vs_machine.proofs.Kept.Calls.{among}
use Rattle.vs_machine.proofs.Kept.Freezing.{unheld, held_busy}
use Rattle.vs_machine.proofs.Kept.Taking.{no_phase}

-- what may be collected
abbrev pub IsLeft : Option Status → Type 0
IsLeft (Some (Sent d)) = Unit {0}
IsLeft (Some Garbage) = Unit {0}
IsLeft entry = ⊥

-- what is there once it was
abbrev pub IsSpent : Option Status → Type 0
IsSpent (Some Garbage) = Unit {0}
IsSpent None = Unit {0}
IsSpent entry = ⊥

spent_beside : (o : ℕ) (h : Option Status) (x : ℕ) (e : Option Status) → IsSpent e → Beside o h x e
spent_beside o h x None k = tt
spent_beside o h x (Some Garbage) k = tt
spent_beside o h x (Some Active) k = absurd k
spent_beside o h x (Some Pinned) k = absurd k
spent_beside o h x (Some (Sending d)) k = absurd k
spent_beside o h x (Some (Receiving d)) k = absurd k
spent_beside o h x (Some (Sent d)) k = absurd k

left_unowned : (o : ℕ) (e : Option Status) → IsLeft e → Owns o e → ⊥
left_unowned o None k h = k
left_unowned o (Some Garbage) k h = h
left_unowned o (Some Active) k h = k
left_unowned o (Some Pinned) k h = k
left_unowned o (Some (Sending d)) k h = k
left_unowned o (Some (Receiving d)) k h = k
left_unowned o (Some (Sent d)) k h = h

spent_unnamed : (e : Option Status) (y : ℕ) → IsSpent e → names e ≡ Some y → ⊥
spent_unnamed None y k h = absurd cc
spent_unnamed (Some Garbage) y k h = absurd cc
spent_unnamed (Some Active) y k h = k
spent_unnamed (Some Pinned) y k h = k
spent_unnamed (Some (Sending d)) y k h = k
spent_unnamed (Some (Receiving d)) y k h = k
spent_unnamed (Some (Sent d)) y k h = k

module _ (n o : ℕ) (b : Bucket) (x : ℕ) (f : BucketFits n o b) (left : IsLeft (b.entry x)) (free : (t : Transfer) → b.transfer x ≢ Some t)
    (e : Option Status) (m : RowMap) (spent : IsSpent e) (empty : e ≡ None → m ≡ []) (rising : IsRising m) where
  abbrev pub bare : Bucket
  bare = record b { entry = put b.entry x e; rows = put b.rows x m }

  here : bare.entry x ≡ e
  here = put_here b.entry x e

  entries : (y : ℕ) → y ≢ x → bare.entry y ≡ b.entry y
  entries y ne = put_there b.entry x e y ne

  others : (y : ℕ) → y ≢ x → bare.rows y ≡ b.rows y
  others y ne = put_there b.rows x m y ne

  apart : o ≢ x
  apart is = left_unowned o (b.entry x) left (subst (λ q. Owns o (b.entry q)) is f.placed.owner)

  from_there : (d z : ℕ) → b.entry d ≡ Some (Receiving z) → d ≢ x
  from_there d z h is = subst IsLeft (ap b.entry (sym is) ∙ h) left

  moves : (z : ℕ) (t : Transfer) → b.transfer z ≡ Some t → z ≢ x
  moves z t h is = free t (ap b.transfer (sym is) ∙ h)

  unreceived : (d z : ℕ) → b.entry d ≢ Some (Receiving z) → bare.entry d ≢ Some (Receiving z)
  unreceived d z ne = elim (cases_eq d x) [
    | inl is ↦ (λ g. subst IsSpent (sym here ∙ ap bare.entry (sym is) ∙ g) spent)
    | inr other ↦ subst (λ u. u ≢ Some (Receiving z)) (sym (entries d other)) ne
  ]

  taken : (z d : ℕ) (k : Option (List ℕ)) → z ≢ x → HasTaken b.entry b.rows z d k → HasTaken bare.entry bare.rows z d k
  taken z d None ne h = unreceived d z h
  taken z d (Some k) ne h =
      let nd = from_there d z h.0 in
      (entries d nd ∙ h.0, others d nd ∙ h.1 ∙ ap (λ r. rows_to r (Some k)) (sym (others z ne)), subst (λ r. rows_above r (Some k) ≢ []) (sym (others z ne)) h.2)

  received : (z d : ℕ) (k : Option (List ℕ)) → z ≢ x → HasReceived b.entry b.rows z d k → HasReceived bare.entry bare.rows z d k
  received z d None ne h = let nd = from_there d z h.0 in (entries d nd ∙ h.0, others d nd ∙ h.1, others z ne ∙ h.2)
  received z d (Some k) ne h = let nd = from_there d z h.0 in (entries d nd ∙ h.0, others d nd ∙ h.1 ∙ ap (λ r. rows_to r (Some k)) (sym (others z ne)))

  copies : (z d : ℕ) (p : Phase) → z ≢ x → CopyFits b.entry b.rows z d p → CopyFits bare.entry bare.rows z d p
  copies z d (Ready k) ne cp = taken z d k ne cp
  copies z d Copied ne cp = let nd = from_there d z cp.0 in (entries d nd ∙ cp.0, others d nd ∙ cp.1 ∙ sym (others z ne))
  copies z d (Draining g) ne cp = tt
  copies z d (Waiting g k l) ne cp = tt
  copies z d Sealed ne cp = tt
  copies z d (WaitingLast g k) ne cp = tt
  copies z d (Refused r) ne cp = tt
  copies z d Done ne cp = tt

  pub bare_fits : BucketFits n o bare
  bare_fits = record {
    placed = record {
      owner = subst (Owns o) (sym (entries o apart)) f.placed.owner;
      beside = λ v ne. subst (λ u. Beside o u v (bare.entry v)) (sym (entries o apart)) (elim (cases_eq v x) [
        | inl is ↦ subst (λ q. Beside o (b.entry o) q (bare.entry q)) (sym is) (subst (Beside o (b.entry o) x) (sym here) (spent_beside o (b.entry o) x e spent))
        | inr other ↦ subst (Beside o (b.entry o) v) (sym (entries v other)) (f.placed.beside v ne)
      ]);
    };
    named = put_each (λ q (u : Option Status). (z : ℕ) → names u ≡ Some z → (z ≢ q) × (1 ≤ z) × (z ≤ n)) b.entry x e (λ z h. absurd (spent_unnamed e z spent h)) f.named;
    stored = record {
      empty = λ v none. elim (cases_eq v x) [
        | inl is ↦ subst (λ q. bare.rows q ≡ []) (sym is) (put_here b.rows x m ∙ empty (sym here ∙ ap bare.entry (sym is) ∙ none))
        | inr other ↦ others v other ∙ f.stored.empty v (sym (entries v other) ∙ none)
      ];
      rising = put_each (λ q. IsRising) b.rows x m rising f.stored.rising;
    };
    owned = others o apart ∙ f.owned;
    transfers = λ z t h. let old = f.transfers z t h in let ne = moves z t h in record { apart = old.apart; within = old.within; phase = subst (λ u. PhaseFits t.dest u t.phase) (sym (entries z ne)) old.phase; copy = copies z t.dest t.phase ne old.copy };
    replayed = f.replayed;
  }

  pub bare_holds : (y posted : ℕ) (w : Mode) → y ≢ x → HoldFits b y w posted → HoldFits bare y w posted
  bare_holds y posted Rw ne h = subst IsServing (sym (entries y ne)) h
  bare_holds y posted Ro ne h = subst (λ u. ReadFits u (bare.rows y) b.history (b.kept y) posted) (sym (entries y ne)) (subst (λ r. ReadFits (b.entry y) r b.history (b.kept y) posted) (sym (others y ne)) h)

  pub bare_lines : KeepsLines b bare
  bare_lines = record { calls = calls; replies = replies }
    where
      calls : (g z w k : ℕ) (u : Message) → MessageFits g b z w k u → MessageFits g bare z w k u
      calls g z w k (Chunk q page) h =
          let ne = moves z h.0.it h.0.there in
          (h.0, record { from = h.1.from; taken = taken z w h.1.from ne h.1.taken; page_is = h.1.page_is ∙ ap (λ r. next_page r h.1.from) (sym (others z ne)) })
      calls g z w k (Last q) h = h
      calls g z w k (Stat q) h = tt

      replies : (g z w k : ℕ) (r : Reply) → ReplyFits g b z w k r → ReplyFits g bare z w k r
      replies g z w k reply.Took (inl h) = inl h
      replies g z w k reply.Took (inr h) = inr (record { key = h.key; waits = h.waits; received = received z w h.key (moves z h.waits.it h.waits.there) h.received })
      replies g z w k (reply.Not r) (inl h) = inl h
      replies g z w k (reply.Not r) (inr h) = inr (record { key = h.key; waits = h.waits })
      replies g z w k (reply.State st live) h = tt

-- ---- nobody holds what is collected

-- garbage holds no call, and nothing that is left holds a write
unheld_left : (own : ℕ → ℕ) (s : State) (x b : ℕ) → Inner own s → IsLeft ((s.bucket b).entry x) → ((s.bucket b).entry x ≡ Some Garbage) ⊎ (references s Ro x b ≡ 0)
    → (c : ℕ) (k : Call) (y posted : ℕ) → next_call (s.client c) ≡ Some k → k.bucket ≡ b → is_held_at (s.client c).present y ≡ true → (m : Mode) → k.mode ≡ m → HoldFits (s.bucket b) y m posted → y ≢ x
unheld_left own s x b i left free c k y posted called of held Rw is h e = serves ((s.bucket b).entry x) left (subst (λ q. IsServing ((s.bucket b).entry q)) e h)
  where
    serves : (u : Option Status) → IsLeft u → IsServing u → ⊥
    serves None l g = l
    serves (Some Garbage) l g = g
    serves (Some Active) l g = l
    serves (Some Pinned) l g = l
    serves (Some (Sending d)) l g = l
    serves (Some (Receiving d)) l g = l
    serves (Some (Sent d)) l g = g
unheld_left own s x b i left (inl at) c k y posted called of held Ro is h e =
    let old = s.bucket b in
    subst (λ u. ReadFits u (old.rows y) old.history (old.kept y) posted) (ap old.entry e ∙ at) h
unheld_left own s x b i left (inr none) c k y posted called of held Ro is h e =
    let parts = both_are (is_held (s.client c).present.stage) (is_set (s.client c).present.set y) held in
    unheld s Ro x b c k none (among own s c i (held_busy (s.client c).present.stage parts.0)) called of is (subst (λ q. is_held_at (s.client c).present q ≡ true) e held)

-- garbage has no transfer
pub garbage_free : (n o : ℕ) (b : Bucket) (x : ℕ) → BucketFits n o b → b.entry x ≡ Some Garbage → (t : Transfer) → b.transfer x ≢ Some t
garbage_free n o b x f at t h = no_phase t.dest (b.entry x) t.phase (λ e. absurd (cc (at, e))) (λ e. absurd (cc (at, e))) (λ e. absurd (cc (at, e))) (f.transfers x t h).phase

bare_keeps : (own : ℕ → ℕ) (s : State) (x b : ℕ) (e : Option Status) (m : RowMap) → Inner own s → IsLeft ((s.bucket b).entry x) → ((t : Transfer) → (s.bucket b).transfer x ≢ Some t)
    → ((s.bucket b).entry x ≡ Some Garbage) ⊎ (references s Ro x b ≡ 0) → IsSpent e → (e ≡ None → m ≡ []) → IsRising m
    → Inner own (put_bucket s b (let old = s.bucket b in record old { entry = put old.entry x e; rows = put old.rows x m }))
bare_keeps own s x b e m i left free none spent empty rising =
    let n = sets_of s in
    let old = s.bucket b in
    let f = i.buckets b in
    let new : Bucket = bare n (own b) old x f left free e m spent empty rising in
    record {
      buckets = put_each (λ r. BucketFits n (own r)) s.bucket b new (bare_fits n (own b) old x f left free e m spent empty rising) i.buckets;
      clients = λ c. client_kept_at s.bucket b new (s.client c) (λ k y called of held h.
          bare_holds n (own b) old x f left free e m spent empty rising y (s.client c).present.writes k.mode (unheld_left own s x b i left none c k y (s.client c).present.writes called of held k.mode refl h) h) (i.clients c);
      absent = i.absent;
      links = λ p q. link_kept s.bucket b new p q (s.link p q) (bare_lines n (own b) old x f left free e m spent empty rising) (i.links p q);
      real = i.real;
      operators = i.operators;
    }

-- rows that are left as they are, and an entry that is
condemned_keeps : (own : ℕ → ℕ) (s : State) (x b : ℕ) (e : Option Status) → Inner own s → IsLeft ((s.bucket b).entry x) → ((t : Transfer) → (s.bucket b).transfer x ≢ Some t)
    → ((s.bucket b).entry x ≡ Some Garbage) ⊎ (references s Ro x b ≡ 0) → IsSpent e → (e ≡ None → (s.bucket b).rows x ≡ []) → Inner own (put_bucket s b (with_entry (s.bucket b) x e))
condemned_keeps own s x b e i left free none spent empty =
    let old = s.bucket b in
    let same : (let q : Bucket = record old { entry = put old.entry x e; rows = put old.rows x (old.rows x) } in q) ≡ with_entry old x e = λ j. record old { entry = put old.entry x e; rows = put_same old.rows x j } in
    subst (λ (q : Bucket). Inner own (put_bucket s b q)) same (bare_keeps own s x b e (old.rows x) i left free none spent empty ((i.buckets b).stored.rising x))

pub condemn_keeps : (own : ℕ → ℕ) (s t : State) (x b : ℕ) → Inner own s → condemn s x b ≡ Ok t → Inner own t
condemn_keeps own s t x b i h =
    let p = can_condemn s t x b h in
    subst (Inner own) p.gives (condemned_keeps own s x b (Some Garbage) i (subst IsLeft (sym p.sent) tt) (λ t g. absurd (cc (p.free, g))) (inr p.unheld) tt (λ e. absurd cc))

pub wiped_keeps : (own : ℕ → ℕ) (s : State) (x b k : ℕ) → Inner own s → (s.bucket b).entry x ≡ Some Garbage → Inner own (put_bucket s b (put_rows (s.bucket b) x (drop k ((s.bucket b).rows x))))
wiped_keeps own s x b k i at =
    let old = s.bucket b in
    let m = drop k (old.rows x) in
    let same : (let q : Bucket = record old { entry = put old.entry x (old.entry x); rows = put old.rows x m } in q) ≡ put_rows old x m = λ j. record old { entry = put_same old.entry x j; rows = put old.rows x m } in
    subst (λ (q : Bucket). Inner own (put_bucket s b q)) same
    (bare_keeps own s x b (old.entry x) m i (subst IsLeft (sym at) tt) (garbage_free (sets_of s) (own b) old x (i.buckets b) at) (inl at) (subst IsSpent (sym at) tt) (λ e. absurd (cc (e, at))) (rising_drop (old.rows x) k ((i.buckets b).stored.rising x)))

pub wipe_keeps : (own : ℕ → ℕ) (s t : State) (x b : ℕ) → Inner own s → wipe s x b ≡ Ok t → Inner own t
wipe_keeps own s t x b i h =
    let p = can_wipe s t x b h in
    subst (Inner own) p.gives (wiped_keeps own s x b 1000 i p.garbage)

pub null_is : {A : Type 0} (xs : List A) → is_null xs ≡ true → xs ≡ []
null_is [] e = refl
null_is (x ∷ xs) e = absurd cc

pub forgotten_keeps : (own : ℕ → ℕ) (s : State) (x b : ℕ) → Inner own s → (s.bucket b).entry x ≡ Some Garbage → (s.bucket b).rows x ≡ [] → Inner own (put_bucket s b (with_entry (s.bucket b) x None))
forgotten_keeps own s x b i at none =
    condemned_keeps own s x b None i (subst IsLeft (sym at) tt) (garbage_free (sets_of s) (own b) (s.bucket b) x (i.buckets b) at) (inl at) tt (λ _. none)

pub forget_keeps : (own : ℕ → ℕ) (s t : State) (x b : ℕ) → Inner own s → forget s x b ≡ Ok t → Inner own t
forget_keeps own s t x b i h =
    let p = can_forget s t x b h in
    subst (Inner own) p.gives (forgotten_keeps own s x b i p.garbage (null_is _ p.no_rows))

-- what was sent is condemned by a change that was pending: no call holds it at a set that is down
pub sent_condemned : (own : ℕ → ℕ) (s : State) (x b d : ℕ) → Inner own s → (s.bucket b).entry x ≡ Some (Sent d) → (s.bucket b).transfer x ≡ None → references s Ro x b ≡ 0 → Inner own (put_bucket s b (with_entry (s.bucket b) x (Some Garbage)))
sent_condemned own s x b d i at free none =
    condemned_keeps own s x b (Some Garbage) i (subst IsLeft (sym at) tt) (λ t g. absurd (cc (free, g))) (inr none) tt (λ e. absurd cc)
