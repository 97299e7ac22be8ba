-- A bucket that was sent is given up, collected and forgotten.
use Rattle.std.proofs.Common.{◌≡◌, ℕ, true, Option, Some, None, refl, sym, ap, subst, ◌∙◌}
use Rattle.std.specs.Prelude.{IsNone}
use Rattle.vs_space.specs.Status.{MayChange}
use Rattle.vs_space.specs.declared.status.Status.{Status}
use Rattle.vs_space.specs.declared.status.Status.TheVariants.{Active, Pinned, Sending, Receiving, Sent, Garbage}
use Rattle.vs_machine.specs.State as machine
use Rattle.vs_machine.specs.Kinds.Collection.{is_sent}
use Rattle.vs_state.specs.declared.state.State.{State}
use Rattle.vs_state.specs.declared.tables.SetTables.{SetTables}
use Rattle.vs_state.specs.Plain.{plain}
use Rattle.vs_core.specs.Cells.{cell, HasCell, FollowEntry}
use Rattle.vs_core.specs.Keeps.{IsSound}
use Rattle.vs_core.proofs.Follows.{sound_entry}
use Rattle.vs_core.proofs.Sets.{IsSlot, written, has_tables, cell_written, with_entry_is}

-- what was sent may be given up
pub may_condemn : (e : Option Status) → is_sent e ≡ true → MayChange e (Some Garbage)
may_condemn (Some (Sent d)) h = tt
may_condemn None h = absurd (cc h)
may_condemn (Some Active) h = absurd (cc h)
may_condemn (Some Pinned) h = absurd (cc h)
may_condemn (Some (Sending d)) h = absurd (cc h)
may_condemn (Some (Receiving x)) h = absurd (cc h)
may_condemn (Some Garbage) h = absurd (cc h)

-- and is there
pub sent_there : (e : Option Status) → is_sent e ≡ true → IsNone e → ⊥
sent_there None h none = absurd (cc h)
sent_there (Some st) h none = cc

-- ---- the tables of a set

module _ (s : State) (x k : ℕ) (t u : SetTables) (o : IsSlot s x k t) where
  up_is : t.is_up ≡ (plain s).up x
  up_is = sym (subst (λ x. (plain s).up x ≡ t.is_up) o.at (has_tables s k t u o.within o.is (λ t. t.is_up) true))

  module _ (b : ℕ) (e : Option Status) (h : HasCell t u b (record (cell t b) { entry = e })) where
    pub entry_written : plain (written s k u) ≡ machine.put_bucket (plain s) b (machine.with_entry ((plain s).bucket b) x e)
    entry_written = cell_written s x k t u o b (λ v. record v { entry = e }) h ∙ ap (machine.put_bucket (plain s) b) (with_entry_is ((plain s).bucket b) x e)

    pub sound_collected : FollowEntry t u b → (plain s).up x ≡ true → IsSound s → IsSound (written s k u)
    sound_collected f up i = sound_entry s x k t u o b (record (cell t b) { entry = e }) h i.agrees i f (up_is ∙ up) refl
