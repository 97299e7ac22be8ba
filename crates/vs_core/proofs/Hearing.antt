-- What a reply that is heard makes of a bucket.
use Rattle.std.proofs.Common.{◌≡◌, ℕ, ◌==◌, Bool, true, false, List, [], ◌∷◌, Option, Some, None, Result, Ok, Err, inl, inr, length, OnOk, refl, sym, ap, subst, ◌∙◌, arith}
use Rattle.std.specs.Prelude.{◌≢◌, ◌⊎◌, ◌↔◌, ◌<◌, not, ◌&&◌, if◌then◌else◌, is_some, IsSome, IsTrue, IsErr, OnErr, All}
use Rattle.std.proofs.lemmas.Bool.{eqb-true, eqb-false}
use Rattle.std.proofs.lemmas.Bool.Decides.{nat_tests}
use Rattle.std.proofs.lemmas.List.Elements.{All-head}
use Rattle.vs_link.specs.Connection.{first, rest, without_reply}
use Rattle.vs_link.specs.Links.{Links, Becomes, connection_of}
use Rattle.vs_link.specs.declared.message.Empty.{Empty}
use Rattle.vs_link.specs.declared.message.Heard.{Heard}
use Rattle.vs_refs.specs.declared.counts.Counts.{Counts}
use Rattle.vs_refs.specs.Refs.{counts_of}
use Rattle.vs_rows.specs.RowMap.{RowMap}
use Rattle.vs_send.specs.Phases.{heard_phase, replied_phase, taken_phase}
use Rattle.vs_send.specs.declared.transfer.Phase.{Phase}
use Rattle.vs_send.specs.declared.transfer.Phase.TheVariants.{Draining, Ready, Waiting, Copied, Sealed, WaitingLast, Refused, Done}
use Rattle.vs_send.specs.declared.transfer.Transfer.{Transfer}
use Rattle.vs_space.specs.Status.{MayChange}
use Rattle.vs_space.specs.declared.reply.RecvFault.{RecvFault}
use Rattle.vs_space.specs.declared.reply.Reply.{Reply}
use Rattle.vs_space.specs.declared.reply.Reply.TheVariants as reply
use Rattle.vs_space.specs.declared.status.Status.{Status}
use Rattle.vs_space.specs.declared.status.Status.TheVariants.{Active, Pinned, Sending, Receiving, Sent, Garbage}
use Rattle.vs_machine.specs.State as machine
use Rattle.vs_machine.specs.Tables.{put, count_to}
use Rattle.vs_machine.specs.Inner.Down.{IsUp}
use Rattle.vs_machine.specs.Kinds.Collection.{is_garbage}
use Rattle.vs_machine.specs.Kinds.Connections.{bucket_hearing, heard_by, has_more, is_null, first_reply, hear, after_hear, asked_set, is_ask, is_set_named, counts_at, decision_by}
use Rattle.vs_machine.specs.Kinds.Rebalancing.{is_haul}
use Rattle.vs_machine.specs.Kinds.Sender.{in_phase}
use Rattle.vs_machine.proofs.Can.Others.{can_hear}
use Rattle.vs_machine.proofs.Kept.Delivering.{head_is}
use Rattle.vs_machine.proofs.Kept.Recovering.{named_is}
use Rattle.vs_machine.proofs.Linked.{has_entry}
use Rattle.vs_machine.proofs.Possible.{both_are}
use Rattle.vs_state.specs.declared.state.State.{State}
use Rattle.vs_state.specs.declared.tables.SetTables.{SetTables}
use Rattle.vs_state.specs.Agrees.{Agrees}
use Rattle.vs_state.specs.Guard.{verdict}
use Rattle.vs_state.specs.Plain.{plain, entry_in, transfer_in}
use Rattle.vs_core.specs.Cells.{Cell, cell, cell_at, with_cell, HasCell, SameRefs}
use Rattle.vs_core.specs.Hearing.{MayTake, LocksReads}
use Rattle.vs_core.specs.Keeps.{IsKnown, IsSound}
use Rattle.vs_core.proofs.Agrees.{count_same}
use Rattle.vs_core.proofs.Follows.{agrees_tables, had_locks, had_hauls, sound_kept}
use Rattle.vs_core.proofs.Frame.{put_same}
use Rattle.vs_core.proofs.Sender.{fits, goes_on}
use Rattle.vs_core.proofs.Sets.{IsSlot, written, cell_written, sound_written, has_tables, sized_written, with_transfer_is}

-- ---- the line of replies

-- where no reply was taken there was none
pub reply_dropped : (old new : Links) (x y : ℕ) (r : Result Heard Empty) → (IsErr r ↔ ((connection_of old x y).replies ≡ [])) → OnOk r (Becomes old new x y (without_reply (connection_of old x y))) → OnErr r (new ≡ old)
    → Becomes old new x y (without_reply (connection_of old x y))
reply_dropped old new x y (Ok h) empty ok err = ok
reply_dropped old new x y (Err e) empty ok err =
    let none : (connection_of old x y).replies ≡ [] = empty.0 refl in
    subst (λ new. Becomes old new x y (without_reply (connection_of old x y))) (sym err) (record {
      sets = refl;
      here = λ i. record (connection_of old x y) { replies = (none ∙ sym (ap rest none)) i };
      others = λ p q ne. refl;
    })

-- ---- the phase of a transfer

taken_still : (p : Phase) (more : Bool) → machine.is_draining_in p ≡ false → machine.is_draining_in (taken_phase p more) ≡ false
taken_still (Draining n) more still = still
taken_still (Ready k) more still = refl
taken_still (Waiting e n k) true still = refl
taken_still (Waiting e n k) false still = refl
taken_still Copied more still = refl
taken_still Sealed more still = refl
taken_still (WaitingLast e n) more still = refl
taken_still (Refused f) more still = refl
taken_still Done more still = refl

replied_still : (p : Phase) (r : Reply) (more : Bool) → machine.is_draining_in p ≡ false → machine.is_draining_in (replied_phase p r more) ≡ false
replied_still p reply.Took more still = taken_still p more still
replied_still p (reply.Not f) more still = refl
replied_still p (reply.State st live) more still = still

either_still : (p q : Phase) (t : Bool) → machine.is_draining_in p ≡ false → machine.is_draining_in q ≡ false → machine.is_draining_in (if t then p else q) ≡ false
either_still p q true h g = h
either_still p q false h g = g

-- a transfer that waits for a reply doesn't drain, before and after
heard_drains : (p : Phase) (n : ℕ) (r : Reply) (more : Bool) → machine.is_draining_in (heard_phase p n r more) ≡ machine.is_draining_in p
heard_drains (Draining m) n r more = refl
heard_drains (Ready k) n r more = refl
heard_drains (Waiting e m k) n r more = either_still (replied_phase (Waiting e m k) r more) (Waiting e m k) (m == n) (replied_still (Waiting e m k) r more refl) refl
heard_drains Copied n r more = refl
heard_drains Sealed n r more = refl
heard_drains (WaitingLast e m) n r more = either_still (replied_phase (WaitingLast e m) r more) (WaitingLast e m) (m == n) (replied_still (WaitingLast e m) r more refl) refl
heard_drains (Refused f) n r more = refl
heard_drains Done n r more = refl

drains_by : (m : Option Transfer) (rows : RowMap) (y : ℕ) (heard : Heard) → machine.is_draining (heard_by m rows y heard) ≡ machine.is_draining m
drains_by None rows y heard = refl
drains_by (Some t) rows y heard = by (t.dest == y)
  where
    by : (e : Bool) → machine.is_draining (Some (if e then in_phase t (heard_phase t.phase heard.sync heard.reply (has_more rows t.phase)) else t)) ≡ machine.is_draining_in t.phase
    by true = heard_drains t.phase heard.sync heard.reply (has_more rows t.phase)
    by false = refl

hauls_by : (m : Option Transfer) (rows : RowMap) (y : ℕ) (heard : Heard) → is_haul (heard_by m rows y heard) ≡ is_haul m
hauls_by None rows y heard = refl
hauls_by (Some t) rows y heard = by (t.dest == y)
  where
    by : (e : Bool) → is_haul (Some (if e then in_phase t (heard_phase t.phase heard.sync heard.reply (has_more rows t.phase)) else t)) ≡ is_haul (Some t)
    by true = refl
    by false = refl

-- whether rows are left
pub is_left : {A : Type 0} (xs : List A) (r : Bool) → (IsTrue r ↔ (0 < length xs)) → r ≡ not (is_null xs)
is_left [] true h = absurd (omega (arith, h.0 refl))
is_left [] false h = refl
is_left (x ∷ xs) true h = refl
is_left (x ∷ xs) false h = absurd (cc (h.1 (omega arith)))

-- ---- what was decided

-- a bucket may become what was decided of it
pub decision_may : (e : Option Status) (remote : Option Status) (live : Bool) → MayTake e (decision_by e remote live)
decision_may None remote live = tt
decision_may (Some Active) remote live = tt
decision_may (Some Pinned) remote live = tt
decision_may (Some (Sent d)) remote live = tt
decision_may (Some Garbage) remote live = tt
decision_may (Some (Sending d)) None live = tt
decision_may (Some (Sending d)) (Some Active) live = tt
decision_may (Some (Sending d)) (Some Pinned) live = tt
decision_may (Some (Sending d)) (Some (Sending z)) live = tt
decision_may (Some (Sending d)) (Some (Receiving z)) live = tt
decision_may (Some (Sending d)) (Some (Sent z)) live = tt
decision_may (Some (Sending d)) (Some Garbage) live = tt
decision_may (Some (Receiving d)) remote true = tt
decision_may (Some (Receiving d)) None false = tt
decision_may (Some (Receiving d)) (Some Active) false = tt
decision_may (Some (Receiving d)) (Some Pinned) false = tt
decision_may (Some (Receiving d)) (Some (Sending z)) false = tt
decision_may (Some (Receiving d)) (Some (Receiving z)) false = tt
decision_may (Some (Receiving d)) (Some (Sent z)) false = tt
decision_may (Some (Receiving d)) (Some Garbage) false = tt

-- what becomes active has an entry, and isn't garbage
pub active_there : (e : Option Status) → MayChange e (Some Active) → e ≢ None
active_there None may none = may
active_there (Some st) may none = absurd (cc none)

active_kept : (e : Option Status) → MayChange e (Some Active) → is_garbage e ≡ false
active_kept None may = refl
active_kept (Some Active) may = refl
active_kept (Some Pinned) may = refl
active_kept (Some (Sending d)) may = refl
active_kept (Some (Receiving d)) may = refl
active_kept (Some (Sent d)) may = refl
active_kept (Some Garbage) may = absurd may

-- ---- the tables of a set

with_settled_is : (b : machine.Bucket) (x : ℕ) (e : Option Status) → with_cell b x (record (cell_at b x) { entry = e; ask = None }) ≡ record b { entry = put b.entry x e; ask = put b.ask x None }
with_settled_is b x e = λ i. record b { entry = put b.entry x e; rows = put_same b.rows x i; kept = put_same b.kept x i; transfer = put_same b.transfer x i; ask = put b.ask x None }

module _ (s : State) (x k : ℕ) (t u : SetTables) (o : IsSlot s x k t) where
  -- a reply was heard
  module _ (y : ℕ) (heard : Heard) (h : HasCell t u heard.bucket (record (cell t heard.bucket) { transfer = heard_by (transfer_in t heard.bucket) (cell t heard.bucket).rows y heard })) where
    pub heard_written : plain (written s k u)
        ≡ machine.put_bucket (plain s) heard.bucket (machine.with_transfer ((plain s).bucket heard.bucket) x (heard_by (((plain s).bucket heard.bucket).transfer x) (((plain s).bucket heard.bucket).rows x) y heard))
    heard_written = cell_written s x k t u o heard.bucket (λ v. record v { transfer = heard_by v.transfer v.rows y heard }) h
        ∙ ap (machine.put_bucket (plain s) heard.bucket) (with_transfer_is ((plain s).bucket heard.bucket) x (heard_by (((plain s).bucket heard.bucket).transfer x) (((plain s).bucket heard.bucket).rows x) y heard))

    pub sound_heard : SameRefs t u → (IsSome (transfer_in t heard.bucket) → machine.has_bucket (plain s) heard.bucket ≡ true) → IsSound s → IsSound (written s k u)
    sound_heard r has i = by (transfer_in t heard.bucket) refl
      where
        by : (m : Option Transfer) → transfer_in t heard.bucket ≡ m → IsSound (written s k u)
        by None is = sound_written s x k t u o heard.bucket _ h r refl (ap (λ m. heard_by m (cell t heard.bucket).rows y heard) is ∙ sym is) i
        by (Some w) is = sound_kept s x k t u o heard.bucket _ h i.agrees i r refl (drains_by (transfer_in t heard.bucket) (cell t heard.bucket).rows y heard) (hauls_by (transfer_in t heard.bucket) (cell t heard.bucket).rows y heard)
            (has (ap (λ m. is_some m) is))

  -- an ask has ended
  module _ (b : ℕ) (e : Option Status) (h : HasCell t u b (record (cell t b) { entry = e; ask = None })) where
    pub settled_written : plain (written s k u) ≡ machine.put_bucket (plain s) b (record ((plain s).bucket b) { entry = put ((plain s).bucket b).entry x e; ask = put ((plain s).bucket b).ask x None })
    settled_written = cell_written s x k t u o b (λ v. record v { entry = e; ask = None }) h ∙ ap (machine.put_bucket (plain s) b) (with_settled_is ((plain s).bucket b) x e)

    pub sound_settled : SameRefs t u → is_garbage e ≡ is_garbage (entry_in t b) → machine.has_bucket (plain s) b ≡ true → IsSound s → IsSound (written s k u)
    sound_settled r garbage has i = sound_kept s x k t u o b (record (cell t b) { entry = e; ask = None }) h i.agrees i r garbage refl refl has

  pub active_sound : (b : ℕ) → HasCell t u b (record (cell t b) { entry = Some Active; ask = None }) → SameRefs t u → MayChange (entry_in t b) (Some Active) → machine.has_bucket (plain s) b ≡ true → IsSound s → IsSound (written s k u)
  active_sound b h r may has i = sound_settled b (Some Active) h r (sym (active_kept (entry_in t b) may)) has i

  -- a bucket is garbage at a set that is up, and its reads are locked
  module _ (b : ℕ) (h : HasCell t u b (record (cell t b) { entry = Some Garbage; ask = None })) (l : LocksReads t u b) (a : Agrees s) (up : t.is_up ≡ true) where
    same_transfer : (q : ℕ) (e : Bool) → (q == b) ≡ e → transfer_in u q ≡ transfer_in t q
    same_transfer q true e = subst (λ j. transfer_in u j ≡ transfer_in t j) (sym (eqb-true q b e)) (ap (λ (c : Cell). c.transfer) h.here)
    same_transfer q false e = ap (λ (c : Cell). c.transfer) (h.others q (eqb-false q b e))

    locks : (q : ℕ) (e : Bool) → (q == b) ≡ e → (if e then record (counts_of t.refs.items q) { ro_lock = true } else counts_of t.refs.items q)
        ≡ record (counts_of t.refs.items q) { ro_lock = u.is_up && is_garbage (entry_in u q); rw_lock = machine.is_draining (transfer_in u q) }
    locks q true e = λ i. record (counts_of t.refs.items q) {
      ro_lock = (sym (ap (λ r. r && is_garbage (entry_in u q)) (h.up ∙ up) ∙ subst (λ j. is_garbage (entry_in u j) ≡ true) (sym (eqb-true q b e)) (ap (λ (c : Cell). is_garbage c.entry) h.here))) i;
      rw_lock = (ap (λ (c : Counts). c.rw_lock) (had_locks s x k t t o a q) ∙ ap machine.is_draining (sym (same_transfer q true e))) i;
    }
    locks q false e =
        let there : cell u q ≡ cell t q = h.others q (eqb-false q b e) in
        had_locks s x k t t o a q ∙ (λ i. record (counts_of t.refs.items q) { ro_lock = sym h.up i && is_garbage (sym there i).entry; rw_lock = machine.is_draining (sym there i).transfer })

    hauls : u.hauls ≡ count_to (λ q. is_haul (transfer_in u q)) s.config.bucket_count
    hauls = l.hauls ∙ had_hauls s x k t t o a ∙ count_same (λ q. is_haul (transfer_in u q)) (λ q. is_haul (transfer_in t q)) s.config.bucket_count (λ q. ap is_haul (sym (same_transfer q (q == b) refl)))

    pub sound_garbage : IsSound s → IsSound (written s k u)
    sound_garbage i = record { sized = sized_written s k t u o.within o.is i.sized; agrees = agrees_tables s x k t u o (λ q. l.locks q ∙ locks q (q == b) refl) hauls a }

  pub up_is : t.is_up ≡ (plain s).up x
  up_is = subst (λ x. t.is_up ≡ (plain s).up x) o.at (sym (has_tables s k t u o.within o.is (λ t. t.is_up) true))

-- ---- what is known of a reply

-- a set has a transfer of buckets of the cluster alone
pub moved_bucket : (s : machine.State) → IsKnown s → (x b : ℕ) → IsSome ((s.bucket b).transfer x) → machine.has_bucket s b ≡ true
moved_bucket s known x b some = by ((s.bucket b).transfer x) refl some
  where
    by : (m : Option Transfer) → (s.bucket b).transfer x ≡ m → IsSome m → machine.has_bucket s b ≡ true
    by None is some = absurd (cc some)
    by (Some t) is some = known.whole.known b x (has_entry t.dest ((s.bucket b).entry x) t.phase (fits s known x b t is).phase)

module _ (s : machine.State) (x y : ℕ) where
  pub hear_to : verdict (hear s x y) ≡ Ok tt → machine.has_set s x ≡ true
  hear_to h = let after = goes_on (hear s x y) h in (can_hear s after.0 x y after.1).to

  pub hear_link : verdict (hear s x y) ≡ Ok tt → machine.is_link s x y ≡ true
  hear_link h =
      let after = goes_on (hear s x y) h in
      let can = can_hear s after.0 x y after.1 in
      by (x == y) refl can.to can.from can.head
    where
      by : (e : Bool) → (x == y) ≡ e → machine.has_set s x ≡ true → machine.has_set s y ≡ true → {heard : Heard} → (if e then None else first (s.link x y).replies) ≡ Some heard → machine.is_link s x y ≡ true
      by true is to from head = absurd (cc head)
      by false is to from head = grind (arith, nat_tests, is, to, from)

  module _ (heard : Heard) (head : first_reply s x y ≡ Some heard) where
    -- a reply lies only at a set that is up
    pub hear_up : IsKnown s → s.up x ≡ true
    hear_up known =
        let P : Heard → Type 0 = λ r. IsUp s x × IsUp s y in
        (All-head P heard (rest (s.link x y).replies) (subst (All P) (head_is (x == y) (s.link x y).replies heard head) (known.whole.ups.replies x y))).0

    pub hear_is : verdict (hear s x y) ≡ Ok tt → hear s x y ≡ Ok (after_hear s x y heard)
    hear_is h = grind (arith, h, head)

-- a reply for a transfer
pub turn_is : (b : machine.Bucket) (e x y : ℕ) (heard : Heard) (r : Reply) → (r ≡ reply.Took) ⊎ ((f : RecvFault) × (r ≡ reply.Not f)) → bucket_hearing b e x y heard r ≡ machine.with_transfer b x (heard_by (b.transfer x) (b.rows x) y heard)
turn_is b e x y heard r (inl is) = ap (bucket_hearing b e x y heard) is
turn_is b e x y heard r (inr is) = ap (bucket_hearing b e x y heard) is.1

-- an answer that counts is for a bucket of the cluster
pub counted_bucket : (s : machine.State) → IsKnown s → (e x y n b : ℕ) → counts_at (s.bucket b) e x y n ≡ true → machine.has_bucket s b ≡ true
counted_bucket s known e x y n b counts =
    let named = named_is (asked_set ((s.bucket b).entry x)) y (both_are (is_ask ((s.bucket b).ask x) e n) (is_set_named (asked_set ((s.bucket b).entry x)) y) counts).1 in
    known.whole.known b x (λ none. absurd (cc (ap asked_set (sym none) ∙ named)))

-- to put a bucket where it is changes nothing
pub bucket_put : (s : machine.State) (b : ℕ) → machine.put_bucket s b (s.bucket b) ≡ s
bucket_put s b = λ i. record s { bucket = put_same s.bucket b i }
