-- What arrives of a bucket at a set is written.
use Rattle.std.proofs.Common.{◌≡◌, ℕ, ◌==◌, Bool, true, false, List, Option, Some, None, inl, inr, refl, ap, ◌∙◌}
use Rattle.std.specs.Prelude.{if◌then◌else◌, ◌≢◌}
use Rattle.std.proofs.lemmas.Bool.{eqb-true}
use Rattle.vs_rows.specs.RowMap.{RowMap, with_rows}
use Rattle.vs_record.specs.RowTable.{row_map_at}
use Rattle.vs_space.specs.Entries.{status_of}
use Rattle.vs_space.specs.Status.{MayChange}
use Rattle.vs_space.specs.declared.status.Status.{Status}
use Rattle.vs_space.specs.declared.status.Status.TheVariants.{Active, Pinned, Sending, Receiving, Sent, Garbage}
use Rattle.vs_machine.specs.State as machine
use Rattle.vs_machine.specs.Tables.{put}
use Rattle.vs_machine.specs.Kinds.Collection.{is_garbage}
use Rattle.vs_machine.specs.Kinds.Connections.{is_receiving, with_last, with_page}
use Rattle.vs_state.specs.declared.state.State.{State}
use Rattle.vs_state.specs.declared.tables.SetTables.{SetTables}
use Rattle.vs_state.specs.Plain.{plain}
use Rattle.vs_core.specs.Cells.{cell, cell_at, with_cell, HasCell}
use Rattle.vs_core.specs.Delivering.{IsOpenTo}
use Rattle.vs_core.proofs.Frame.{put_same}
use Rattle.vs_core.proofs.Sets.{IsSlot, written, cell_written}

-- ---- statuses

-- an entry that is open to rows from a set is that of a bucket that is received from there
pub open_entry : (e : Option Status) (x : ℕ) → IsOpenTo e x → e ≢ None → e ≡ Some (Receiving x)
open_entry e x (inl none) some = absurd (some none)
open_entry e x (inr is) some = is

-- a bucket that is open to rows, or is received, isn't garbage
pub open_kept : (e : Option Status) (x : ℕ) → IsOpenTo e x → is_garbage e ≡ false
open_kept e x (inl none) = ap is_garbage none
open_kept e x (inr is) = ap is_garbage is

pub receiving_kept : (e : Option Status) → is_receiving e ≡ true → is_garbage e ≡ false
receiving_kept None h = refl
receiving_kept (Some Active) h = refl
receiving_kept (Some Pinned) h = refl
receiving_kept (Some (Sending d)) h = refl
receiving_kept (Some (Receiving x)) h = refl
receiving_kept (Some (Sent d)) h = refl
receiving_kept (Some Garbage) h = absurd (cc h)

-- a bucket that is received may become active
pub may_activate : (e : Option Status) → is_receiving e ≡ true → MayChange e (Some Active)
may_activate None h = absurd (cc h)
may_activate (Some Active) h = absurd (cc h)
may_activate (Some Pinned) h = absurd (cc h)
may_activate (Some (Sending d)) h = absurd (cc h)
may_activate (Some (Receiving x)) h = tt
may_activate (Some (Sent d)) h = absurd (cc h)
may_activate (Some Garbage) h = absurd (cc h)

-- where a bucket has the status, all entries are as if it were given
pub status_stays : (es : List (ℕ × Status)) (b : ℕ) (e : Option Status) → status_of es b ≡ e → (q : ℕ) → status_of es q ≡ (if q == b then e else status_of es q)
status_stays es b e is q = by (q == b) refl
  where
    by : (t : Bool) → (q == b) ≡ t → status_of es q ≡ (if t then e else status_of es q)
    by true same = ap (status_of es) (eqb-true q b same) ∙ is
    by false other = refl

-- ---- cells

with_page_is : (b : machine.Bucket) (z x : ℕ) (page : RowMap) → with_cell b x (record (cell_at b x) { entry = Some (Receiving z); rows = with_rows (b.rows x) page }) ≡ with_page b z x page
with_page_is b z x page = λ i. record b { entry = put b.entry x (Some (Receiving z)); rows = put b.rows x (with_rows (b.rows x) page); kept = put_same b.kept x i; transfer = put_same b.transfer x i; ask = put_same b.ask x i }

with_last_is : (b : machine.Bucket) (x : ℕ) → with_cell b x (record (cell_at b x) { entry = Some Active; ask = None }) ≡ with_last b x
with_last_is b x = λ i. record b { entry = put b.entry x (Some Active); rows = put_same b.rows x i; kept = put_same b.kept x i; transfer = put_same b.transfer x i; ask = put b.ask x None }

module _ (s : State) (x k : ℕ) (t u : SetTables) (o : IsSlot s x k t) (b : ℕ) where
  pub added_written : (z : ℕ) (page : RowMap) → HasCell t u b (record (cell t b) { entry = Some (Receiving z); rows = with_rows (row_map_at t.rows b) page })
      → plain (written s k u) ≡ machine.put_bucket (plain s) b (with_page ((plain s).bucket b) z x page)
  added_written z page h = cell_written s x k t u o b (λ v. record v { entry = Some (Receiving z); rows = with_rows v.rows page }) h ∙ ap (machine.put_bucket (plain s) b) (with_page_is ((plain s).bucket b) z x page)

  pub activated_written : HasCell t u b (record (cell t b) { entry = Some Active; ask = None }) → plain (written s k u) ≡ machine.put_bucket (plain s) b (with_last ((plain s).bucket b) x)
  activated_written h = cell_written s x k t u o b (λ v. record v { entry = Some Active; ask = None }) h ∙ ap (machine.put_bucket (plain s) b) (with_last_is ((plain s).bucket b) x)
