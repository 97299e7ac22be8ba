-- The tables of a set that is down are written, or those of one that is up again.
use Rattle.std.proofs.Common.{◌≡◌, ℕ, ◌==◌, Bool, true, false, Option, Some, None, refl, sym, ap, subst, ◌∙◌}
use Rattle.std.specs.Prelude.{◌&&◌, ◌≢◌, IsNone}
use Rattle.std.specs.Option.{option_map}
use Rattle.std.proofs.lemmas.Bool.{eqb-true, eqb-false}
use Rattle.vs_base.specs.Listed.{Listed}
use Rattle.vs_record.specs.Change.{change}
use Rattle.vs_refs.specs.Counts.{no_counts}
use Rattle.vs_refs.specs.Refs.{counts_of}
use Rattle.vs_refs.specs.declared.counts.Counts.{Counts}
use Rattle.vs_space.specs.declared.status.Status.{Status}
use Rattle.vs_machine.specs.State as machine
use Rattle.vs_machine.specs.Tables.{put, count_to}
use Rattle.vs_machine.specs.Kinds.Collection.{is_garbage}
use Rattle.vs_machine.specs.Kinds.Rebalancing.{is_haul}
use Rattle.vs_state.specs.declared.state.State.{State}
use Rattle.vs_state.specs.declared.tables.SetTables.{SetTables}
use Rattle.vs_state.specs.Agrees.{Agrees}
use Rattle.vs_state.specs.Plain.{plain, entry_in, transfer_in}
use Rattle.vs_state.specs.Tables.{numbered}
use Rattle.vs_core.specs.Cells.{Cell, cell, cell_at, with_cell, HasCell, SameRefs}
use Rattle.vs_core.specs.Keeps.{IsSound}
use Rattle.vs_core.specs.Restarting.{without_pending, AreLocks, IsUnheld}
use Rattle.vs_core.proofs.Agrees.{agrees_same}
use Rattle.vs_core.proofs.Follows.{agrees_tables, had_hauls, had_locks}
use Rattle.vs_core.proofs.Frame.{put_same}
use Rattle.vs_core.proofs.Sets.{IsSlot, written, at_set, same_at, bucket_same, cell_written, has_tables, sized_written}

-- a set with this entry, and the place of the rows that it sent
pub with_sent_is : (b : machine.Bucket) (x : ℕ) (e : Option Status) (n : ℕ) → with_cell b x (record (cell_at b x) { entry = e; kept = n }) ≡ record b { entry = put b.entry x e; kept = put b.kept x n }
with_sent_is b x e n = λ i. record b { entry = put b.entry x e; rows = put_same b.rows x i; kept = put b.kept x n; transfer = put_same b.transfer x i; ask = put_same b.ask x i }

-- an entry that is there is there in the tables
pub no_none : (e : Option Status) {f : Option Status} → e ≡ f → f ≢ None → IsNone e → ⊥
no_none None same there none = there (sym same)
no_none (Some st) same there none = absurd (cc none)

module _ (s : State) (x k : ℕ) (t u : SetTables) (o : IsSlot s x k t) where
  -- what the tables have of a set is what the machine has of it
  pub up_is : t.is_up ≡ (plain s).up x
  up_is = subst (λ x. t.is_up ≡ (plain s).up x) o.at (sym (has_tables s k t u o.within o.is (λ t. t.is_up) true))

  pub pending_is : option_map change t.pending ≡ (plain s).pending x
  pending_is = subst (λ x. option_map change t.pending ≡ (plain s).pending x) o.at (sym (has_tables s k t u o.within o.is (λ t. option_map change t.pending) None))

  -- ---- a set that is down has no locks that follow its entries

  module _ (b : ℕ) (v : Cell) (h : HasCell t u b v) (r : SameRefs t u) (transfer : v.transfer ≡ transfer_in t b) (down : (plain s).up x ≡ false) where
    transfer_all : (q : ℕ) → transfer_in u q ≡ transfer_in t q
    transfer_all q = by (q == b) refl
      where
        by : (e : Bool) → (q == b) ≡ e → transfer_in u q ≡ transfer_in t q
        by true e = subst (λ j. transfer_in u j ≡ transfer_in t j) (sym (eqb-true q b e)) (ap (λ (c : Cell). c.transfer) h.here ∙ transfer)
        by false e = ap (λ (c : Cell). c.transfer) (h.others q (eqb-false q b e))

    is_down : t.is_up ≡ false
    is_down = up_is ∙ down

    locks : Agrees s → (q : ℕ) → counts_of u.refs.items q ≡ record (counts_of t.refs.items q) { ro_lock = u.is_up && is_garbage (entry_in u q); rw_lock = machine.is_draining (transfer_in u q) }
    locks a q =
        ap (λ refs. counts_of refs.items q) r.refs ∙ had_locks s x k t u o a q
        ∙ (λ i. record (counts_of t.refs.items q) {
          ro_lock = (ap (λ e. e && is_garbage (entry_in t q)) is_down ∙ sym (ap (λ e. e && is_garbage (entry_in u q)) (h.up ∙ is_down))) i;
          rw_lock = machine.is_draining (sym (transfer_all q) i);
        })

    hauls : Agrees s → u.hauls ≡ count_to (λ q. is_haul (transfer_in u q)) s.config.bucket_count
    hauls a = r.hauls ∙ had_hauls s x k t u o a ∙ (λ i. count_to (λ q. is_haul (sym (transfer_all q) i)) s.config.bucket_count)

    pub sound_down : IsSound s → IsSound (written s k u)
    sound_down i = record { sized = sized_written s k t u o.within o.is i.sized; agrees = agrees_tables s x k t u o (locks i.agrees) (hauls i.agrees) i.agrees }

  pub sent_written : (b : ℕ) (e : Option Status) (n : ℕ) → HasCell t u b (record (cell t b) { entry = e; kept = n })
      → plain (written s k u) ≡ machine.put_bucket (plain s) b (record ((plain s).bucket b) { entry = put ((plain s).bucket b).entry x e; kept = put ((plain s).bucket b).kept x n })
  sent_written b e n h = cell_written s x k t u o b (λ v. record v { entry = e; kept = n }) h ∙ ap (machine.put_bucket (plain s) b) (with_sent_is ((plain s).bucket b) x e n)

  -- ---- the buckets stay as they were

  module _ (cells : (q : ℕ) → cell u q ≡ cell t q) (fault : u.last_fault ≡ t.last_fault) where
    set_written : plain (written s k u) ≡ record (plain s) { up = put (plain s).up x u.is_up; pending = put (plain s).pending x (option_map change u.pending) }
    set_written = subst (λ x. plain (written s k u) ≡ record (plain s) { up = put (plain s).up x u.is_up; pending = put (plain s).pending x (option_map change u.pending) }) o.at (λ i. record (plain s) {
      up = at_set s k t u o.within o.is (λ t. t.is_up) true i;
      pending = at_set s k t u o.within o.is (λ t. option_map change t.pending) None i;
      last_fault = same_at s k t u o.within o.is (λ t. t.last_fault) 0 fault i;
      bucket = λ q. bucket_same s k t u o.within o.is q (cells q) i;
    })

  -- nothing is pending any more
  module _ (rest : u ≡ without_pending t) where
    cells : (q : ℕ) → cell u q ≡ cell t q
    cells q = ap (λ (w : SetTables). cell w q) rest

    pub gone_written : plain (written s k u) ≡ record (plain s) { pending = put (plain s).pending x None }
    gone_written =
        set_written cells (ap (λ (w : SetTables). w.last_fault) rest)
        ∙ (λ i. record (plain s) {
          up = (ap (put (plain s).up x) (ap (λ (w : SetTables). w.is_up) rest ∙ up_is) ∙ put_same (plain s).up x) i;
          pending = put (plain s).pending x (option_map change (ap (λ (w : SetTables). w.pending) rest i));
        })

    pub sound_gone : IsSound s → IsSound (written s k u)
    sound_gone i = record {
      sized = sized_written s k t u o.within o.is i.sized;
      agrees = agrees_same s (written s k u) (record {
        clients = refl;
        holds = λ m y q c. refl;
        up = same_at s k t u o.within o.is (λ t. t.is_up) true (ap (λ (w : SetTables). w.is_up) rest);
        count = refl;
        entry = λ q. same_at s k t u o.within o.is (λ t. entry_in t q) None (ap (λ (w : SetTables). entry_in w q) rest);
        transfer = λ q. same_at s k t u o.within o.is (λ t. transfer_in t q) None (ap (λ (w : SetTables). transfer_in w q) rest);
      }) (λ y q. ap (λ (f : ℕ → _). f y) (same_at s k t u o.within o.is (λ t. counts_of t.refs.items q) no_counts (ap (λ (w : SetTables). counts_of w.refs.items q) rest)))
          (λ y. ap (λ (f : ℕ → _). f y) (same_at s k t u o.within o.is (λ t. t.hauls) 0 (ap (λ (w : SetTables). w.hauls) rest))) i.agrees;
    }

  -- the set is up, with other references
  module _ (refs : Listed (ℕ × Counts)) (rest : u ≡ record t { is_up = true; refs = refs }) where
    same_cells : (q : ℕ) → cell u q ≡ cell t q
    same_cells q = ap (λ (w : SetTables). cell w q) rest

    pub raised_written : plain (written s k u) ≡ record (plain s) { up = put (plain s).up x true }
    raised_written =
        set_written same_cells (ap (λ (w : SetTables). w.last_fault) rest)
        ∙ (λ i. record (plain s) {
          up = put (plain s).up x (ap (λ (w : SetTables). w.is_up) rest i);
          pending = (ap (put (plain s).pending x) (ap (λ (w : SetTables). option_map change w.pending) rest ∙ pending_is) ∙ put_same (plain s).pending x) i;
        })

    module _ (unheld : IsUnheld (plain s) x) (locked : AreLocks refs.items (plain s) x) (a : Agrees s) where
      -- no call holds a reference before
      none_before : (q : ℕ) → counts_of t.refs.items q ≡ no_counts
      none_before q =
          sym (subst (λ x. numbered (λ t. counts_of t.refs.items q) no_counts s.sets.items x ≡ counts_of t.refs.items q) o.at (has_tables s k t u o.within o.is (λ t. counts_of t.refs.items q) no_counts))
          ∙ a.counts x q ∙ unheld q

      entry_here : (q : ℕ) → ((plain s).bucket q).entry x ≡ entry_in u q
      entry_here q =
          subst (λ x. ((plain s).bucket q).entry x ≡ entry_in t q) o.at (has_tables s k t u o.within o.is (λ t. entry_in t q) None)
          ∙ sym (ap (λ (w : SetTables). entry_in w q) rest)

      -- no transfer drains
      still : (q : ℕ) → machine.is_draining (transfer_in u q) ≡ false
      still q =
          ap (λ (w : SetTables). machine.is_draining (transfer_in w q)) rest
          ∙ sym (ap machine.is_draining (subst (λ x. ((plain s).bucket q).transfer x ≡ transfer_in t q) o.at (has_tables s k t u o.within o.is (λ t. transfer_in t q) None)))
          ∙ ap (λ (c : Counts). c.rw_lock) (unheld q)

      locks_now : (q : ℕ) → counts_of u.refs.items q ≡ record (counts_of t.refs.items q) { ro_lock = u.is_up && is_garbage (entry_in u q); rw_lock = machine.is_draining (transfer_in u q) }
      locks_now q =
          ap (λ (w : SetTables). counts_of w.refs.items q) rest
          ∙ locked q
          ∙ (λ i. record (sym (none_before q) i) {
            ro_lock = (ap is_garbage (entry_here q) ∙ ap (λ e. e && is_garbage (entry_in u q)) (sym (ap (λ (w : SetTables). w.is_up) rest))) i;
            rw_lock = sym (still q) i;
          })

      hauls_now : u.hauls ≡ count_to (λ q. is_haul (transfer_in u q)) s.config.bucket_count
      hauls_now =
          ap (λ (w : SetTables). w.hauls) rest ∙ had_hauls s x k t u o a
          ∙ (λ i. count_to (λ q. is_haul (transfer_in (sym rest i) q)) s.config.bucket_count)

      pub agrees_raised : Agrees (written s k u)
      agrees_raised = agrees_tables s x k t u o locks_now hauls_now a

    pub sound_raised : IsUnheld (plain s) x → AreLocks refs.items (plain s) x → IsSound s → IsSound (written s k u)
    sound_raised unheld locked i = record { sized = sized_written s k t u o.within o.is i.sized; agrees = agrees_raised unheld locked i.agrees }
