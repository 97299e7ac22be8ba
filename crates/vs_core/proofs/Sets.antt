-- The tables of one set are written.
use Rattle.std.proofs.Common.{◌≡◌, ℕ, suc, ◌-◌, ◌<◌, ◌==◌, Bool, true, false, [], length, Option, None, get_or, refl, sym, ap, subst, ◌∙◌, arith}
use Rattle.std.specs.Option.{option_map, option_map_or}
use Rattle.std.specs.Vec.{with_item}
use Rattle.std.proofs.lemmas.Option.{slice_get-get_or}
use Rattle.std.proofs.Math.ListN.{length-set}
use Rattle.vs_rows.specs.RowMap.{RowMap}
use Rattle.vs_refs.specs.Counts.{no_counts}
use Rattle.vs_refs.specs.Refs.{counts_of}
use Rattle.vs_record.specs.Change.{change}
use Rattle.vs_record.specs.RowTable.{row_map_at}
use Rattle.vs_send.specs.declared.transfer.Transfer.{Transfer}
use Rattle.vs_space.specs.declared.status.Status.{Status}
use Rattle.vs_machine.specs.State as machine
use Rattle.vs_machine.specs.Tables.{put}
use Rattle.vs_state.specs.declared.state.State.{State}
use Rattle.vs_state.specs.declared.tables.SetTables.{SetTables}
use Rattle.vs_state.specs.Plain.{plain, bucket, entry_in, kept_in, transfer_in, ask_in}
use Rattle.vs_state.specs.Tables.{numbered}
use Rattle.vs_state.specs.Agrees.{Agrees}
use Rattle.vs_state.specs.Sized.{IsSized}
use Rattle.std.proofs.lemmas.Bool.{eqb-true, eqb-false}
use Rattle.vs_core.specs.Cells.{Cell, cell, cell_at, with_cell, HasCell, SameRefs}
use Rattle.std.proofs.lemmas.Bool.Decides.{nat_tests}
use Rattle.vs_core.specs.Keeps.{IsSound}
use Rattle.vs_core.proofs.Agrees.{agrees_same}
use Rattle.vs_core.proofs.Frame.{put_same, is_put}
use Rattle.vs_core.proofs.Numbered.{numbered_set}

-- the state with the tables of the set of index k written
abbrev pub written : State → ℕ → SetTables → State
written s k t = record s { sets = with_item s.sets k t }

module _ (s : State) (k : ℕ) (t u : SetTables) (within : k < length s.sets.items) (is : t ≡ get_or s.sets.items k t) where
  -- the set has these tables
  pub has_tables : {B : Type 0} (f : SetTables → B) (d : B) → numbered f d s.sets.items (suc k) ≡ f t
  has_tables f d = ap (λ o. option_map_or f o d) (slice_get-get_or s.sets.items k t within) ∙ ap f (sym is)

  pub at_set : {B : Type 0} (f : SetTables → B) (d : B) → numbered f d (written s k u).sets.items ≡ put (numbered f d s.sets.items) (suc k) (f u)
  at_set f d = numbered_set f d s.sets.items k u within

  -- what is the same in both tables is the same in the state
  pub same_at : {B : Type 0} (f : SetTables → B) (d : B) → f u ≡ f t → numbered f d (written s k u).sets.items ≡ numbered f d s.sets.items
  same_at f d same = at_set f d ∙ ap (λ v. put (numbered f d s.sets.items) (suc k) v) (same ∙ sym (has_tables f d)) ∙ put_same (numbered f d s.sets.items) (suc k)

  bucket_written : (q : ℕ) → bucket (written s k u) q ≡ with_cell (bucket s q) (suc k) (cell u q)
  bucket_written q = λ i. record {
    entry = at_set (λ t. entry_in t q) None i;
    rows = at_set (λ t. row_map_at t.rows q) [] i;
    kept = at_set (λ t. kept_in t q) 0 i;
    transfer = at_set (λ t. transfer_in t q) None i;
    ask = at_set (λ t. ask_in t q) None i;
    history = (bucket s q).history;
  }

  pub bucket_same : (q : ℕ) → cell u q ≡ cell t q → bucket (written s k u) q ≡ bucket s q
  bucket_same q same = λ i. record {
    entry = same_at (λ t. entry_in t q) None (ap (λ (c : Cell). c.entry) same) i;
    rows = same_at (λ t. row_map_at t.rows q) [] (ap (λ (c : Cell). c.rows) same) i;
    kept = same_at (λ t. kept_in t q) 0 (ap (λ (c : Cell). c.kept) same) i;
    transfer = same_at (λ t. transfer_in t q) None (ap (λ (c : Cell). c.transfer) same) i;
    ask = same_at (λ t. ask_in t q) None (ap (λ (c : Cell). c.ask) same) i;
    history = (bucket s q).history;
  }

  -- what the tables have of a bucket is what the machine has at the set
  pub cell_is : (b : ℕ) → cell t b ≡ cell_at (bucket s b) (suc k)
  cell_is b = λ i. record {
    entry = sym (has_tables (λ t. entry_in t b) None) i;
    rows = sym (has_tables (λ t. row_map_at t.rows b) []) i;
    kept = sym (has_tables (λ t. kept_in t b) 0) i;
    transfer = sym (has_tables (λ t. transfer_in t b) None) i;
    ask = sym (has_tables (λ t. ask_in t b) None) i;
  }

  -- the machine has what the tables have
  pub plain_written : (x b : ℕ) (v : Cell) → suc k ≡ x → HasCell t u b v → plain (written s k u) ≡ machine.put_bucket (plain s) b (with_cell ((plain s).bucket b) x v)
  plain_written x b v at h = subst (λ x. plain (written s k u) ≡ machine.put_bucket (plain s) b (with_cell ((plain s).bucket b) x v)) at (λ i. record (plain s) {
    up = same_at (λ t. t.is_up) true h.up i;
    pending = same_at (λ t. option_map change t.pending) None (ap (λ p. option_map change p) h.pending) i;
    last_fault = same_at (λ t. t.last_fault) 0 h.last_fault i;
    bucket = buckets i;
  })
    where
      buckets : bucket (written s k u) ≡ put (bucket s) b (with_cell (bucket s b) (suc k) v)
      buckets = is_put (bucket s) (bucket (written s k u)) b (λ q ne. bucket_same q (h.others q ne)) ∙ ap (λ v. put (bucket s) b v) (bucket_written b ∙ ap (with_cell (bucket s b) (suc k)) h.here)

  pub sized_written : IsSized s → IsSized (written s k u)
  sized_written z = record { sets = length-set s.sets.items k u ∙ z.sets; links = z.links; buckets = z.buckets; histories = z.histories; clients = z.clients; operators = z.operators }

  -- the references stay as they were, and so does what they are to agree with
  pub agrees_written : (b : ℕ) (v : Cell) → HasCell t u b v → SameRefs t u → v.entry ≡ entry_in t b → v.transfer ≡ transfer_in t b → Agrees s → Agrees (written s k u)
  agrees_written b v h r entry transfer a =
      agrees_same s (written s k u) (record {
        clients = refl;
        holds = λ m x q c. refl;
        up = same_at (λ t. t.is_up) true h.up;
        count = refl;
        entry = λ q. same_at (λ t. entry_in t q) None (entry_all q (q == b) refl);
        transfer = λ q. same_at (λ t. transfer_in t q) None (transfer_all q (q == b) refl);
      }) (λ x q. ap (λ (f : ℕ → _). f x) (same_at (λ t. counts_of t.refs.items q) no_counts (ap (λ r. counts_of r.items q) r.refs)))
      (λ x. ap (λ (f : ℕ → _). f x) (same_at (λ t. t.hauls) 0 r.hauls)) a
    where
      entry_all : (q : ℕ) (e : Bool) → (q == b) ≡ e → entry_in u q ≡ entry_in t q
      entry_all q true e = subst (λ j. entry_in u j ≡ entry_in t j) (sym (eqb-true q b e)) (ap (λ (c : Cell). c.entry) h.here ∙ entry)
      entry_all q false e = ap (λ (c : Cell). c.entry) (h.others q (eqb-false q b e))

      transfer_all : (q : ℕ) (e : Bool) → (q == b) ≡ e → transfer_in u q ≡ transfer_in t q
      transfer_all q true e = subst (λ j. transfer_in u j ≡ transfer_in t j) (sym (eqb-true q b e)) (ap (λ (c : Cell). c.transfer) h.here ∙ transfer)
      transfer_all q false e = ap (λ (c : Cell). c.transfer) (h.others q (eqb-false q b e))

-- ---- a cell in which some fields are as they were

put_kept : {A : Type 0} (f : ℕ → A) (x : ℕ) (v : A) → v ≡ f x → put f x v ≡ f
put_kept f x v same = ap (put f x) same ∙ put_same f x

pub with_rows_is : (b : machine.Bucket) (x : ℕ) (rows : RowMap) → with_cell b x (record (cell_at b x) { rows = rows }) ≡ machine.put_rows b x rows
with_rows_is b x rows = λ i. record b { entry = put_same b.entry x i; rows = put b.rows x rows; kept = put_same b.kept x i; transfer = put_same b.transfer x i; ask = put_same b.ask x i }

pub with_transfer_is : (b : machine.Bucket) (x : ℕ) (m : Option Transfer) → with_cell b x (record (cell_at b x) { transfer = m }) ≡ machine.with_transfer b x m
with_transfer_is b x m = λ i. record b { entry = put_same b.entry x i; rows = put_same b.rows x i; kept = put_same b.kept x i; transfer = put b.transfer x m; ask = put_same b.ask x i }

pub with_entry_is : (b : machine.Bucket) (x : ℕ) (e : Option Status) → with_cell b x (record (cell_at b x) { entry = e }) ≡ machine.with_entry b x e
with_entry_is b x e = λ i. record b { entry = put b.entry x e; rows = put_same b.rows x i; kept = put_same b.kept x i; transfer = put_same b.transfer x i; ask = put_same b.ask x i }

pub with_ask_is : (b : machine.Bucket) (x : ℕ) (a : Option machine.Ask) → with_cell b x (record (cell_at b x) { ask = a }) ≡ machine.with_ask b x a
with_ask_is b x a = λ i. record b { entry = put_same b.entry x i; rows = put_same b.rows x i; kept = put_same b.kept x i; transfer = put_same b.transfer x i; ask = put b.ask x a }

-- ---- a set that is written

-- the tables of set x, which has the index k
pub record IsSlot (s : State) (x k : ℕ) (t : SetTables) : Type 0 where
  pub at : suc k ≡ x
  pub within : k < length s.sets.items
  pub is : t ≡ get_or s.sets.items k t

pub slot : (s : State) (x n : ℕ) (t : SetTables) → machine.has_set (plain s) x ≡ true → IsSized s → n ≡ x → t ≡ get_or s.sets.items (n - 1) t → IsSlot s x (n - 1) t
slot s x n t has z same is = record { at = grind (arith, nat_tests, has, same); within = grind (arith, nat_tests, has, same, z.sets); is = is }

module _ (s : State) (x k : ℕ) (t u : SetTables) (o : IsSlot s x k t) (b : ℕ) where
  pub cell_here : cell t b ≡ cell_at ((plain s).bucket b) x
  cell_here = subst (λ x. cell t b ≡ cell_at ((plain s).bucket b) x) o.at (cell_is s k t u o.within o.is b)

  -- the cell became another, by what it was
  pub cell_written : (f : Cell → Cell) → HasCell t u b (f (cell t b)) → plain (written s k u) ≡ machine.put_bucket (plain s) b (with_cell ((plain s).bucket b) x (f (cell_at ((plain s).bucket b) x)))
  cell_written f h = plain_written s k t u o.within o.is x b (f (cell t b)) o.at h ∙ ap (λ v. machine.put_bucket (plain s) b (with_cell ((plain s).bucket b) x (f v))) cell_here

  pub rows_written : (rows : RowMap) → HasCell t u b (record (cell t b) { rows = rows }) → plain (written s k u) ≡ machine.put_bucket (plain s) b (machine.put_rows ((plain s).bucket b) x rows)
  rows_written rows h = cell_written (λ v. record v { rows = rows }) h ∙ ap (machine.put_bucket (plain s) b) (with_rows_is ((plain s).bucket b) x rows)

  pub sound_written : (v : Cell) → HasCell t u b v → SameRefs t u → v.entry ≡ entry_in t b → v.transfer ≡ transfer_in t b → IsSound s → IsSound (written s k u)
  sound_written v h r entry transfer i = record { sized = sized_written s k t u o.within o.is i.sized; agrees = agrees_written s k t u o.within o.is b v h r entry transfer i.agrees }
