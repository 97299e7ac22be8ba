-- What the journals are due to hold after an event.
use Rattle.std.proofs.Common.{◌≡◌, ⊎_elim, ℕ, suc, Option, Some, None, refl, sym, ap, subst, ◌∙◌}
use Rattle.std.proofs.lemmas.Bool.{cases_eq}
use Rattle.vs_disk.specs.declared.disk.Disk.{Ghosts}
use Rattle.vs_event.specs.declared.event.Event.{Event}
use Rattle.vs_event.specs.declared.event.Event.TheVariants.{Fault}
use Rattle.vs_event.specs.declared.event.Recorded.{Recorded}
use Rattle.vs_record.specs.Change.{Change}
use Rattle.vs_machine.specs.Journals.{durable_in, durable_of, written, IsNoRestart, AreWritten, IsWritten, KeepsJournals}
use Rattle.vs_machine.specs.Kinds.Stops.{Recording}
use Rattle.vs_machine.specs.State.{State, Bucket}
use Rattle.vs_machine.specs.Tables.{put}
use Rattle.vs_machine.proofs.Can.Stops.{CanFault}
use Rattle.vs_machine.proofs.Frame.{put_there, put_here}
use Rattle.vs_store.specs.Holding.{Holds}
use Rattle.vs_store.proofs.Holding.{calm_awaits}
use Rattle.vs_stores.specs.Due.{Due, HoldsDue, made, awaiting}
use Rattle.vs_stores.specs.Stores.{AllHold, IsCalmAt}
use Rattle.vs_stores.specs.declared.stores.Stores.{Stores}
use Rattle.vs_world.specs.Whole.{due_of}
use Rattle.vs_world.specs.Journals.{head_of}
use Rattle.vs_world.proofs.Pending.{MorePending, writes_pending, fault_pending, fault_others}

-- the same is due where the same is pending and the set has the same
pub due_is : (s t : State) (x : ℕ) → t.config ≡ s.config → durable_of t x ≡ durable_of s x → t.pending x ≡ s.pending x → due_of t x ≡ due_of s x
due_is s t x config has pending = λ i. record { head = head_of (config i) x; state = has i; pending = pending i }

pub same_dues : {D : Type 0} {disk : Ghosts D} (all : Stores D disk) (due due' : ℕ → Due) → ((x : ℕ) → due' x ≡ due x) → AllHold all due → AllHold all due'
same_dues all due due' same hold i it at = subst (HoldsDue it) (sym (same (suc i))) (hold i it at)

-- ---- nothing is written

unwritten : (old new : ℕ → Bucket) (o : Option Recording) → o ≡ None → AreWritten old new o → (x : ℕ) → durable_in new x ≡ durable_in old x
unwritten old new None is same = same
unwritten old new (Some r) is same = absurd (cc is)

module _ (s t : State) (e : Event) (k : KeepsJournals s t e) (config : t.config ≡ s.config) (none : written s e ≡ None) where
  pub has_same : (x : ℕ) → durable_of t x ≡ durable_of s x
  has_same = unwritten s.bucket t.bucket (written s e) none k.written_is

  module _ {D : Type 0} {disk : Ghosts D} (all : Stores D disk) (calm : (x : ℕ) → s.pending x ≡ None → IsCalmAt all x) (more : (x : ℕ) → MorePending s t x) where
    -- a change that is pending now isn't in its journal
    pub still_hold : AllHold all (due_of s) → AllHold all (due_of t)
    still_hold hold i it at = ⊎_elim
        (λ same. subst (HoldsDue it) (sym (due_is s t (suc i) config (has_same (suc i)) same)) (hold i it at))
        (λ (new : (s.pending (suc i) ≡ None) × (c : Change) × (t.pending (suc i) ≡ Some c)).
        let bare : Holds it (head_of s.config (suc i)) (durable_of s (suc i)) None = subst (Holds it (head_of s.config (suc i)) (durable_of s (suc i))) new.0 (hold i it at) in
        let both : Holds it (head_of s.config (suc i)) (durable_of s (suc i)) (Some new.1) = calm_awaits it (head_of s.config (suc i)) (durable_of s (suc i)) new.1 (calm (suc i) new.0 it at) bare in
        subst (HoldsDue it) (sym (due_with (suc i) new.1 new.2)) both)
        (more (suc i))
      where
        due_with : (x : ℕ) (c : Change) → t.pending x ≡ Some c → due_of t x ≡ awaiting (due_of s x) c
        due_with x c is = λ j. record { head = head_of (config j) x; state = has_same x j; pending = is j }

    pub still_calm : (x : ℕ) → t.pending x ≡ None → IsCalmAt all x
    still_calm x bare = ⊎_elim
        (λ same. calm x (sym same ∙ bare))
        (λ (new : (s.pending x ≡ None) × (c : Change) × (t.pending x ≡ Some c)). absurd (cc (bare, new.2)))
        (more x)

-- ---- a change is written

module _ (s t : State) (e : Event) (k : KeepsJournals s t e) (config : t.config ≡ s.config) (bare : IsNoRestart e) (r : Recording) (is : written s e ≡ Some r) where
  pub pending_same : (x : ℕ) → t.pending x ≡ s.pending x
  pending_same x = ap (λ (f : ℕ → Option Change). f x) (k.pending_is ∙ writes_pending s e r bare is)

  writes : IsWritten s.bucket t.bucket r
  writes = subst (AreWritten s.bucket t.bucket) is k.written_is

  pub made_due : (none : s.pending r.at ≡ None) (y : ℕ) → due_of t y ≡ put (due_of s) r.at (made (due_of s r.at) r.change) y
  made_due none y = ⊎_elim
      (λ e. subst (λ (z : ℕ). due_of t z ≡ put (due_of s) r.at (made (due_of s r.at) r.change) z) (sym e) (here ∙ sym (put_here (due_of s) r.at (made (due_of s r.at) r.change))))
      (λ ne. due_is s t y config (writes.others y ne) (pending_same y) ∙ sym (put_there (due_of s) r.at (made (due_of s r.at) r.change) y ne))
      (cases_eq y r.at)
    where
      here : due_of t r.at ≡ made (due_of s r.at) r.change
      here = λ i. record { head = head_of (config i) r.at; state = writes.here i; pending = (pending_same r.at ∙ none) i }

-- ---- a change is pending by a fault

module _ (s t : State) (x n : ℕ) (v : Recorded) (k : KeepsJournals s t (Fault x n v)) (config : t.config ≡ s.config) (can : CanFault s x n v t) where
  pub awaiting_due : (y : ℕ) → due_of t y ≡ put (due_of s) x (awaiting (due_of s x) can.change) y
  awaiting_due y = ⊎_elim
      (λ e. subst (λ (z : ℕ). due_of t z ≡ put (due_of s) x (awaiting (due_of s x) can.change) z) (sym e) (here ∙ sym (put_here (due_of s) x (awaiting (due_of s x) can.change))))
      (λ ne. due_is s t y config (has y) (fault_others s t x n v can y ne) ∙ sym (put_there (due_of s) x (awaiting (due_of s x) can.change) y ne))
      (cases_eq y x)
    where
      has : (y : ℕ) → durable_of t y ≡ durable_of s y
      has = has_same s t (Fault x n v) k config refl

      here : due_of t x ≡ awaiting (due_of s x) can.change
      here = λ i. record { head = head_of (config i) x; state = has x i; pending = fault_pending s t x n v can i }
