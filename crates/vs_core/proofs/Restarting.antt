-- A set is up again, with its pending change or without it.
use Rattle.std.proofs.Common.{◌≡◌, ◌<◌, ℕ, zero, suc, ◌==◌, Bool, true, false, List, Option, Some, None, Ok, refl, sym, ap, subst, ◌∙◌, arith}
use Rattle.std.specs.Prelude.{◌≢◌, ◌&&◌, if◌then◌else◌}
use Rattle.std.specs.Option.{option_map_or}
use Rattle.std.specs.Prelude.{slice_get, option_map as map_of}
use Rattle.std.proofs.lemmas.Bool.{eqb-true}
use Rattle.std.proofs.lemmas.Bool.Decides.{nat_tests}
use Rattle.vs_base.specs.declared.numbers.Mode.TheVariants.{Ro, Rw}
use Rattle.vs_event.specs.declared.event.RestartBy.TheVariants.{Line, Service}
use Rattle.vs_record.specs.Change.{Change, SetStatus, AddRows, Write, Wipe, Forget, bucket_of}
use Rattle.vs_refs.specs.Counts.{no_counts}
use Rattle.vs_refs.specs.Refs.{counts_of}
use Rattle.vs_refs.specs.declared.counts.Counts.{Counts}
use Rattle.vs_rows.specs.declared.staged.Staged.{Staged}
use Rattle.vs_rows.specs.RowMap.{RowMap}
use Rattle.vs_send.specs.declared.transfer.Transfer.{Transfer}
use Rattle.vs_space.specs.Status.{MayChange, is_open}
use Rattle.vs_space.specs.declared.status.Status.{Status}
use Rattle.vs_space.specs.declared.status.Status.TheVariants.{Active, Pinned, Sending, Receiving, Sent, Garbage}
use Rattle.vs_machine.specs.declared.outcome.CommandOutcome.TheVariants.{Done}
use Rattle.vs_machine.specs.Coherence.{IsServing}
use Rattle.vs_machine.specs.State as machine
use Rattle.vs_machine.specs.Tables.{put, is_to}
use Rattle.vs_machine.specs.Inner.Down.{StatusFits, FitsIn}
use Rattle.vs_machine.specs.Kinds.Collection.{is_garbage}
use Rattle.vs_machine.specs.Kinds.Stops.{after_restart, restart, restarted, with_change, with_status}
use Rattle.vs_machine.proofs.Can.Stops.{CanRestart, CanRestartLine, can_restart, can_restart_line}
use Rattle.vs_machine.proofs.Kept.Restarting.{no_transfer, unreferenced}
use Rattle.vs_state.specs.declared.state.State.{State}
use Rattle.vs_state.specs.declared.tables.SetTables.{SetTables}
use Rattle.vs_state.specs.Guard.{verdict}
use Rattle.vs_state.specs.Tables.{numbered}
use Rattle.vs_core.specs.Acting.{stored, stored_at, no_rows, HasHistoryRoom, IsStaged}
use Rattle.vs_core.specs.Keeps.{IsKnown}
use Rattle.vs_core.specs.Restarting.{kept_of, settled, without_pending, status_by, IsLawfulChange, IsUnheld, IsChangeReady, IsPendingReady}
use Rattle.vs_core.proofs.Frame.{put_each, put_here, put_there}
use Rattle.vs_core.proofs.Sender.{goes_on}

-- ---- what is known of a pending change

-- a status that may still come may come from what stands there
module _ (n o : ℕ) (has : ℕ → Option Status) (moves : ℕ → Option Transfer) (rows : ℕ → RowMap) (x : ℕ) where
  status_may : (e : Option Status) (st : Status) → StatusFits n o has moves rows x e st → MayChange e (Some st)
  status_may None st f = absurd f
  status_may (Some Active) Active f = absurd f
  status_may (Some Active) Pinned f = tt
  status_may (Some Active) (Sending e) f = tt
  status_may (Some Active) (Receiving e) f = absurd f
  status_may (Some Active) (Sent e) f = absurd f
  status_may (Some Active) Garbage f = absurd f
  status_may (Some Pinned) Active f = tt
  status_may (Some Pinned) Pinned f = absurd f
  status_may (Some Pinned) (Sending e) f = absurd f
  status_may (Some Pinned) (Receiving e) f = absurd f
  status_may (Some Pinned) (Sent e) f = absurd f
  status_may (Some Pinned) Garbage f = absurd f
  status_may (Some (Sending d)) Active f = tt
  status_may (Some (Sending d)) Pinned f = absurd f
  status_may (Some (Sending d)) (Sending e) f = absurd f
  status_may (Some (Sending d)) (Receiving e) f = absurd f
  status_may (Some (Sending d)) (Sent e) f = sym f.0
  status_may (Some (Sending d)) Garbage f = absurd f
  status_may (Some (Receiving y)) Active f = tt
  status_may (Some (Receiving y)) Pinned f = absurd f
  status_may (Some (Receiving y)) (Sending e) f = absurd f
  status_may (Some (Receiving y)) (Receiving e) f = absurd f
  status_may (Some (Receiving y)) (Sent e) f = absurd f
  status_may (Some (Receiving y)) Garbage f = tt
  status_may (Some (Sent d)) Active f = absurd f
  status_may (Some (Sent d)) Pinned f = absurd f
  status_may (Some (Sent d)) (Sending e) f = absurd f
  status_may (Some (Sent d)) (Receiving e) f = absurd f
  status_may (Some (Sent d)) (Sent e) f = absurd f
  status_may (Some (Sent d)) Garbage f = tt
  status_may (Some Garbage) Active f = absurd f
  status_may (Some Garbage) Pinned f = absurd f
  status_may (Some Garbage) (Sending e) f = absurd f
  status_may (Some Garbage) (Receiving e) f = absurd f
  status_may (Some Garbage) (Sent e) f = absurd f
  status_may (Some Garbage) Garbage f = absurd f

lawful_of : (n o : ℕ) (b : machine.Bucket) (x : ℕ) (c : Change) → FitsIn n o b x c → IsLawfulChange (b.entry x) c
lawful_of n o b x (SetStatus q st) f = (λ none. subst (λ e. StatusFits n o b.entry b.transfer b.rows x e st) none f, status_may n o b.entry b.transfer b.rows x (b.entry x) st f)
lawful_of n o b x (AddRows q z page) f = f.free
lawful_of n o b x (Write id q ops) f = tt
lawful_of n o b x (Wipe q k) f = tt
lawful_of n o b x (Forget q) f = f.0

-- some set has an entry of the bucket
bucket_with : (s : machine.State) (n o : ℕ) (x : ℕ) (c : Change) → ((b x : ℕ) → (s.bucket b).entry x ≢ None → machine.has_bucket s b ≡ true) → FitsIn n o (s.bucket (bucket_of c)) x c → machine.has_bucket s (bucket_of c) ≡ true
bucket_with s n o x (SetStatus q st) has f = has q x (λ none. subst (λ e. StatusFits n o (s.bucket q).entry (s.bucket q).transfer (s.bucket q).rows x e st) none f)
bucket_with s n o x (AddRows q z page) has f = has q z (λ none. absurd (cc (sym f.sends ∙ none)))
bucket_with s n o x (Write id q ops) has f = has q x (λ none. subst IsServing none f)
bucket_with s n o x (Wipe q k) has f = has q x (λ none. absurd (cc (sym f ∙ none)))
bucket_with s n o x (Forget q) has f = has q x (λ none. absurd (cc (sym f.0 ∙ none)))

module _ (s : machine.State) (known : IsKnown s) (x : ℕ) (c : Change) (is : s.pending x ≡ Some c) where
  pub pending_lawful : IsLawfulChange ((s.bucket (bucket_of c)).entry x) c
  pending_lawful = lawful_of (machine.sets_of s) (known.own (bucket_of c)) (s.bucket (bucket_of c)) x c (known.whole.pending x c is).1

  pub pending_bucket : machine.has_bucket s (bucket_of c) ≡ true
  pending_bucket = bucket_with s (machine.sets_of s) (known.own (bucket_of c)) x c known.whole.known (known.whole.pending x c is).1

-- a change that is kept is the pending one
pub kept_is : (kept : Bool) (p : Option Change) (c : Change) → kept_of kept p ≡ Some c → p ≡ Some c
kept_is true p c is = is
kept_is false p c is = absurd (cc is)

pub none_kept : (kept : Bool) (p : Option Change) → p ≡ None → kept_of kept p ≡ None
none_kept true p is = is
none_kept false p is = refl

pub not_kept : (kept : Bool) (p : Option Change) → kept ≡ false → kept_of kept p ≡ None
not_kept true p h = absurd (cc h)
not_kept false p h = refl

pub some_kept : (kept : Bool) (p : Option Change) (c : Change) → kept ≡ true → p ≡ Some c → kept_of kept p ≡ Some c
some_kept true p c h is = is
some_kept false p c h is = absurd (cc h)

-- ---- what the change makes of its bucket

same_transfer : (b : machine.Bucket) (x : ℕ) (c : Change) → (with_change b x c).transfer ≡ b.transfer
same_transfer b x (SetStatus q Active) = refl
same_transfer b x (SetStatus q Pinned) = refl
same_transfer b x (SetStatus q (Sending d)) = refl
same_transfer b x (SetStatus q (Receiving d)) = refl
same_transfer b x (SetStatus q (Sent d)) = refl
same_transfer b x (SetStatus q Garbage) = refl
same_transfer b x (AddRows q z page) = refl
same_transfer b x (Write id q ops) = refl
same_transfer b x (Wipe q k) = refl
same_transfer b x (Forget q) = refl

status_is : (b : machine.Bucket) (x : ℕ) (c : Change) → (with_change b x c).entry x ≡ status_by c (b.entry x)
status_is b x (SetStatus q Active) = put_here b.entry x (Some Active)
status_is b x (SetStatus q Pinned) = put_here b.entry x (Some Pinned)
status_is b x (SetStatus q (Sending d)) = put_here b.entry x (Some (Sending d))
status_is b x (SetStatus q (Receiving d)) = put_here b.entry x (Some (Receiving d))
status_is b x (SetStatus q (Sent d)) = put_here b.entry x (Some (Sent d))
status_is b x (SetStatus q Garbage) = put_here b.entry x (Some Garbage)
status_is b x (AddRows q z page) = put_here b.entry x (Some (Receiving z))
status_is b x (Write id q ops) = refl
status_is b x (Wipe q k) = refl
status_is b x (Forget q) = put_here b.entry x None

-- a status that isn't that of a bucket that was sent
pub not_sent : (b : machine.Bucket) (x : ℕ) (st : Status) → ((d : ℕ) → st ≢ Sent d) → machine.with_entry b x (Some st) ≡ with_status b x st
not_sent b x Active other = refl
not_sent b x Pinned other = refl
not_sent b x (Sending d) other = refl
not_sent b x (Receiving d) other = refl
not_sent b x (Sent d) other = absurd (other d refl)
not_sent b x Garbage other = refl

module _ (s : machine.State) (x : ℕ) (c : Change) (q : ℕ) where
  -- the status of the change's bucket, and that of another
  pub settled_here : bucket_of c ≡ q → ((settled s x (Some c)).bucket q).entry x ≡ status_by c ((s.bucket q).entry x)
  settled_here same = subst (λ q. ((settled s x (Some c)).bucket q).entry x ≡ status_by c ((s.bucket q).entry x)) same
      (ap (λ (b : machine.Bucket). b.entry x) (put_here s.bucket (bucket_of c) (with_change (s.bucket (bucket_of c)) x c)) ∙ status_is (s.bucket (bucket_of c)) x c)

  pub settled_there : q ≢ bucket_of c → ((settled s x (Some c)).bucket q).entry x ≡ (s.bucket q).entry x
  settled_there other = ap (λ (b : machine.Bucket). b.entry x) (put_there s.bucket (bucket_of c) (with_change (s.bucket (bucket_of c)) x c) q other)

-- ---- the references once the change took effect

module _ (s : machine.State) (known : IsKnown s) (x : ℕ) (down : s.up x ≡ false) where
  pub unheld_settled : (c : Option Change) → IsUnheld (settled s x c) x
  unheld_settled None = λ q i. record {
    ro = unreferenced s x known.whole.ups down Ro q i;
    rw = unreferenced s x known.whole.ups down Rw q i;
    ro_lock = down i && is_garbage ((s.bucket q).entry x);
    rw_lock = machine.is_draining (no_transfer s x known.whole.ups down q i);
  }
  unheld_settled (Some c) = λ q i. record {
    ro = unreferenced s x known.whole.ups down Ro q i;
    rw = unreferenced s x known.whole.ups down Rw q i;
    ro_lock = down i && is_garbage (((settled s x (Some c)).bucket q).entry x);
    rw_lock = machine.is_draining (none q i);
  }
    where
      none : (q : ℕ) → ((settled s x (Some c)).bucket q).transfer x ≡ None
      none = put_each (λ q (b : machine.Bucket). b.transfer x ≡ None) s.bucket (bucket_of c) (with_change (s.bucket (bucket_of c)) x c)
          (ap (λ (f : ℕ → Option Transfer). f x) (same_transfer (s.bucket (bucket_of c)) x c) ∙ no_transfer s x known.whole.ups down (bucket_of c)) (no_transfer s x known.whole.ups down)

-- ---- which buckets are garbage once the change took effect

-- what is garbage is open
pub not_open : (e : Option Status) → is_open e ≡ false → is_garbage e ≡ false
not_open None closed = refl
not_open (Some Active) closed = refl
not_open (Some Pinned) closed = refl
not_open (Some (Sending d)) closed = refl
not_open (Some (Receiving d)) closed = refl
not_open (Some (Sent d)) closed = refl
not_open (Some Garbage) closed = absurd (cc closed)

-- nor does a change make garbage of what isn't
changed_not_open : (e : Option Status) (c : Change) → IsLawfulChange e c → is_open e ≡ false → is_garbage (status_by c e) ≡ false
changed_not_open e (SetStatus q Active) lawful closed = refl
changed_not_open e (SetStatus q Pinned) lawful closed = refl
changed_not_open e (SetStatus q (Sending d)) lawful closed = refl
changed_not_open e (SetStatus q (Receiving d)) lawful closed = refl
changed_not_open e (SetStatus q (Sent d)) lawful closed = refl
changed_not_open None (SetStatus q Garbage) lawful closed = absurd lawful.1
changed_not_open (Some Active) (SetStatus q Garbage) lawful closed = absurd lawful.1
changed_not_open (Some Pinned) (SetStatus q Garbage) lawful closed = absurd lawful.1
changed_not_open (Some (Sending d)) (SetStatus q Garbage) lawful closed = absurd (cc closed)
changed_not_open (Some (Receiving d)) (SetStatus q Garbage) lawful closed = absurd (cc closed)
changed_not_open (Some (Sent d)) (SetStatus q Garbage) lawful closed = absurd (cc closed)
changed_not_open (Some Garbage) (SetStatus q Garbage) lawful closed = absurd (cc closed)
changed_not_open e (AddRows q z page) lawful closed = refl
changed_not_open e (Write id q ops) lawful closed = not_open e closed
changed_not_open e (Wipe q k) lawful closed = not_open e closed
changed_not_open e (Forget q) lawful closed = refl

module _ (s : machine.State) (known : IsKnown s) (x : ℕ) where
  -- a bucket that isn't open at the set isn't garbage there then
  pub garbage_is_open : (c : Option Change) → ((d : Change) → c ≡ Some d → s.pending x ≡ Some d) → (q : ℕ) → is_open ((s.bucket q).entry x) ≡ false → is_garbage (((settled s x c).bucket q).entry x) ≡ false
  garbage_is_open None pending q closed = not_open ((s.bucket q).entry x) closed
  garbage_is_open (Some c) pending q closed = by (q == bucket_of c) refl
    where
      by : (e : Bool) → (q == bucket_of c) ≡ e → is_garbage (((settled s x (Some c)).bucket q).entry x) ≡ false
      by true e =
          let same : bucket_of c ≡ q = sym (eqb-true q (bucket_of c) e) in
          let lawful = subst (λ q. IsLawfulChange ((s.bucket q).entry x) c) same (pending_lawful s known x c (pending c refl)) in
          ap is_garbage (settled_here s x c q same) ∙ changed_not_open ((s.bucket q).entry x) c lawful closed
      by false e = ap is_garbage (settled_there s x c q (λ same. absurd (grind (arith, nat_tests, e, same)))) ∙ not_open ((s.bucket q).entry x) closed

  -- no bucket has the number 0
  pub zero_not_open : is_open ((s.bucket 0).entry x) ≡ false
  zero_not_open = by ((s.bucket 0).entry x) refl
    where
      by : (e : Option Status) → (s.bucket 0).entry x ≡ e → is_open e ≡ false
      by None is = refl
      by (Some st) is = absurd (cc (known.whole.known 0 x (λ none. absurd (cc (sym is ∙ none)))))

-- the next bucket is locked, if it is to be; between it and the last one there is none
pub one_more_lock : (g : ℕ → Bool) (old new : List (ℕ × Counts)) (n m : ℕ) → n < m → ((q : ℕ) → n < q → q < m → g q ≡ false)
    → ((q : ℕ) → counts_of old q ≡ (if is_to n q then record no_counts { ro_lock = g q } else no_counts))
    → ((q : ℕ) → counts_of new q ≡ (if q == m then record no_counts { ro_lock = g m } else counts_of old q))
    → (q : ℕ) → counts_of new q ≡ (if is_to m q then record no_counts { ro_lock = g q } else no_counts)
one_more_lock g old new n m above between before more q = more q ∙ by (q == m) refl
  where
    passed : (i j : Bool) → is_to n q ≡ i → is_to m q ≡ j → (q == m) ≡ false → (if i then record no_counts { ro_lock = g q } else no_counts) ≡ (if j then record no_counts { ro_lock = g q } else no_counts)
    passed true true i j e = refl
    passed false false i j e = refl
    passed true false i j e = absurd (grind (arith, nat_tests, i, j, above))
    passed false true i j e = λ k. record no_counts { ro_lock = sym (between q (grind (arith, nat_tests, i, j)) (grind (arith, nat_tests, j, e))) k }

    by : (e : Bool) → (q == m) ≡ e → (if e then record no_counts { ro_lock = g m } else counts_of old q) ≡ (if is_to m q then record no_counts { ro_lock = g q } else no_counts)
    by true e =
        let same : q ≡ m = eqb-true q m e in
        let within : is_to m q ≡ true = grind (arith, nat_tests, same, above) in
        λ i. if sym within i then record no_counts { ro_lock = g (sym same i) } else no_counts
    by false e = before q ∙ passed (is_to n q) (is_to m q) refl refl e

-- all are locked that are to be
pub all_locked : (g : ℕ → Bool) (refs : List (ℕ × Counts)) (n : ℕ) → g 0 ≡ false → ((q : ℕ) → n < q → g q ≡ false)
    → ((q : ℕ) → counts_of refs q ≡ (if is_to n q then record no_counts { ro_lock = g q } else no_counts)) → (q : ℕ) → counts_of refs q ≡ record no_counts { ro_lock = g q }
all_locked g refs n first beyond locked q = locked q ∙ by (is_to n q) refl
  where
    none : (q : ℕ) → is_to n q ≡ false → g q ≡ false
    none zero out = first
    none (suc k) out = beyond (suc k) (grind (arith, nat_tests, out))

    by : (e : Bool) → is_to n q ≡ e → (if e then record no_counts { ro_lock = g q } else no_counts) ≡ record no_counts { ro_lock = g q }
    by true e = refl
    by false e = λ i. record no_counts { ro_lock = sym (none q e) i }

-- a bucket beyond those that were seen has no references
pub not_yet_locked : (g : ℕ → Bool) (refs : List (ℕ × Counts)) (n b : ℕ) → n < b → ((q : ℕ) → counts_of refs q ≡ (if is_to n q then record no_counts { ro_lock = g q } else no_counts)) → counts_of refs b ≡ no_counts
not_yet_locked g refs n b above locked =
    let beyond : is_to n b ≡ false = grind (arith, nat_tests, above) in
    locked b ∙ (λ i. if beyond i then record no_counts { ro_lock = g b } else no_counts)

-- ---- what was made ready, where a set's pending change was taken out

module _ {B : Type 0} (f : SetTables → B) (d : B) where
  numbered_map : (items : List SetTables) (x : ℕ) → numbered f d items x ≡ option_map_or f (numbered Some None items x) d
  numbered_map items zero = refl
  numbered_map items (suc k) = by (slice_get items k)
    where
      by : (o : Option SetTables) → option_map_or f o d ≡ option_map_or f (option_map_or Some o None) d
      by None = refl
      by (Some t) = refl

-- what holds without the pending change
still : (P : SetTables → Type 0) → ((t : SetTables) → P t → P (without_pending t)) → (old new : Option SetTables) → new ≡ map_of without_pending old → ((t : SetTables) → old ≡ Some t → P t) → (u : SetTables) → new ≡ Some u → P u
still P along None new is h u there = absurd (cc (sym is ∙ there))
still P along (Some t) new is h u there =
    let same : without_pending t ≡ u = cc (sym is ∙ there) in
    subst P same (along t (h t refl))

same_stored : (b : ℕ) (old new : Option SetTables) → new ≡ map_of without_pending old → option_map_or (λ t. stored t.rows b) new no_rows ≡ option_map_or (λ t. stored t.rows b) old no_rows
same_stored b None new is = ap (λ o. option_map_or (λ (t : SetTables). stored t.rows b) o no_rows) is
same_stored b (Some t) new is = ap (λ o. option_map_or (λ (t : SetTables). stored t.rows b) o no_rows) is

module _ (s t : State) (x : ℕ) (tables : numbered Some None t.sets.items x ≡ map_of without_pending (numbered Some None s.sets.items x)) (histories : t.histories ≡ s.histories) where
  pub stored_still : (b : ℕ) → stored_at t x b ≡ stored_at s x b
  stored_still b =
      numbered_map (λ t. stored t.rows b) no_rows t.sets.items x
      ∙ same_stored b (numbered Some None s.sets.items x) (numbered Some None t.sets.items x) tables
      ∙ sym (numbered_map (λ t. stored t.rows b) no_rows s.sets.items x)

  pub taken_ready : (c : Change) (staged : Staged) → IsChangeReady s x c staged → IsChangeReady t x c staged
  taken_ready (SetStatus b st) staged ready = still _ (λ t h. h) (numbered Some None s.sets.items x) (numbered Some None t.sets.items x) tables ready
  taken_ready (AddRows b z page) staged ready = still _ (λ t h. record { entry = h.entry; rows = h.rows }) (numbered Some None s.sets.items x) (numbered Some None t.sets.items x) tables ready
  taken_ready (Write id b ops) staged ready =
      (subst (λ rows. IsStaged rows ops staged) (sym (stored_still b)) ready.0, subst (λ histories. HasHistoryRoom (record s { histories = histories }) b) (sym histories) ready.1)
  taken_ready (Wipe b k) staged ready = tt
  taken_ready (Forget b) staged ready = tt

-- what was made ready in a state with the same tables of sets and the same histories
pub change_still : (s t : State) (x : ℕ) (c : Option Change) (staged : Staged) → t.sets ≡ s.sets → t.histories ≡ s.histories → IsPendingReady s x c staged → IsPendingReady t x c staged
change_still s t x None staged sets histories ready = tt
change_still s t x (Some (SetStatus b st)) staged sets histories ready = subst (λ sets. IsChangeReady (record s { sets = sets }) x (SetStatus b st) staged) (sym sets) ready
change_still s t x (Some (AddRows b z page)) staged sets histories ready = subst (λ sets. IsChangeReady (record s { sets = sets }) x (AddRows b z page) staged) (sym sets) ready
change_still s t x (Some (Write id b ops)) staged sets histories ready =
    (subst (λ sets. IsStaged (stored_at (record s { sets = sets }) x b) ops staged) (sym sets) ready.0, subst (λ histories. HasHistoryRoom (record s { histories = histories }) b) (sym histories) ready.1)
change_still s t x (Some (Wipe b k)) staged sets histories ready = tt
change_still s t x (Some (Forget b)) staged sets histories ready = tt

-- ---- the whole

pub raised_is : (s : machine.State) (x : ℕ) (kept : Bool) (p : Option Change) → record (settled s x (kept_of kept p)) { up = put (settled s x (kept_of kept p)).up x true } ≡ restarted s x kept p
raised_is s x true (Some c) = refl
raised_is s x true None = refl
raised_is s x false p = refl

same_operators : (s : machine.State) (x : ℕ) (kept : Bool) (p : Option Change) → (restarted s x kept p).operator ≡ s.operator
same_operators s x true (Some c) = refl
same_operators s x true None = refl
same_operators s x false p = refl

pub answered_up : (s : machine.State) (x o : ℕ) (kept : Bool) (p : Option Change)
    → machine.put_operator (restarted s x kept p) o (machine.answer ((restarted s x kept p).operator o) Done) ≡ machine.put_operator (restarted s x kept p) o (machine.answer (s.operator o) Done)
answered_up s x o kept p = ap (λ (f : ℕ → machine.Operator). machine.put_operator (restarted s x kept p) o (machine.answer (f o) Done)) (same_operators s x kept p)

pub same_known : (s : machine.State) (x : ℕ) (kept : Bool) (p : Option Change) (o : ℕ) → machine.has_operator s o ≡ true → machine.has_operator (restarted s x kept p) o ≡ true
same_known s x true (Some c) o has = has
same_known s x true None o has = has
same_known s x false p o has = has

module _ (s : machine.State) (x : ℕ) (kept : Bool) (h : verdict (restart s x kept Service) ≡ Ok tt) where
  can : CanRestart s x kept (goes_on (restart s x kept Service) h).0
  can = can_restart s (goes_on (restart s x kept Service) h).0 x kept (goes_on (restart s x kept Service) h).1

  pub served_set : machine.has_set s x ≡ true
  served_set = can.set

  pub served_down : s.up x ≡ false
  served_down = can.x_down

  pub served_is : restart s x kept Service ≡ Ok (restarted s x kept (s.pending x))
  served_is = (goes_on (restart s x kept Service) h).1 ∙ ap Ok (sym can.gives)

module _ (s : machine.State) (x o : ℕ) (kept : Bool) (h : verdict (restart s x kept (Line o)) ≡ Ok tt) where
  can_line : CanRestartLine s x o kept (goes_on (restart s x kept (Line o)) h).0
  can_line = can_restart_line s (goes_on (restart s x kept (Line o)) h).0 x o kept (goes_on (restart s x kept (Line o)) h).1

  pub line_set : machine.has_set s x ≡ true
  line_set = can_line.set

  pub line_operator : machine.has_operator s o ≡ true
  line_operator = can_line.operator

  pub line_is : restart s x kept (Line o) ≡ Ok (after_restart s x kept o)
  line_is = (goes_on (restart s x kept (Line o)) h).1 ∙ ap Ok (sym can_line.gives)
