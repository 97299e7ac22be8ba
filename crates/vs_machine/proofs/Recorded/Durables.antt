-- What a change of one bucket makes of what the sets have.
use Rattle.std.proofs.Common.{◌≡◌, ℕ, refl, ap, ◌∙◌, List, drop, Option, Some, None}
use Rattle.std.specs.Prelude.{◌≢◌}
use Rattle.vs_base.specs.declared.numbers.CallId.{CallId}
use Rattle.vs_rows.specs.Operations.{rows_after}
use Rattle.vs_rows.specs.RowMap.{RowMap, with_rows}
use Rattle.vs_rows.specs.declared.op.Op.{Op}
use Rattle.vs_space.specs.declared.status.Status.{Status}
use Rattle.vs_space.specs.declared.status.Status.TheVariants.{Active, Pinned, Sending, Receiving, Sent, Garbage}
use Rattle.vs_record.specs.Change.{Change, SetStatus, AddRows, Write, Wipe, Forget, bucket_of}
use Rattle.vs_record.specs.Durable as durable
use Rattle.vs_machine.specs.Journals.{durable_in, IsWritten}
use Rattle.vs_machine.specs.Kinds.Stops.{Recording, with_status, with_change}
use Rattle.vs_machine.specs.State.{Bucket}
use Rattle.vs_machine.specs.Tables.{put}
use Rattle.vs_machine.proofs.Frame.{put_each, put_both, put_here, put_there}

module _ (bs : ℕ → Bucket) (b : ℕ) (new : Bucket) (x : ℕ) where
  entries_put : (e : Option Status) → new.entry x ≡ e → (q : ℕ) → (put bs b new q).entry x ≡ put (λ k. (bs k).entry x) b e q
  entries_put e is = put_both (λ q (u : Bucket) v. u.entry x ≡ v) bs (λ k. (bs k).entry x) b new e is (λ q. refl)

  rows_put : (m : RowMap) → new.rows x ≡ m → (q : ℕ) → (put bs b new q).rows x ≡ put (λ k. (bs k).rows x) b m q
  rows_put m is = put_both (λ q (u : Bucket) v. u.rows x ≡ v) bs (λ k. (bs k).rows x) b new m is (λ q. refl)

  entries_kept : new.entry x ≡ (bs b).entry x → (q : ℕ) → (put bs b new q).entry x ≡ (bs q).entry x
  entries_kept is = put_each (λ q (u : Bucket). u.entry x ≡ (bs q).entry x) bs b new is (λ q. refl)

  rows_kept : new.rows x ≡ (bs b).rows x → (q : ℕ) → (put bs b new q).rows x ≡ (bs q).rows x
  rows_kept is = put_each (λ q (u : Bucket). u.rows x ≡ (bs q).rows x) bs b new is (λ q. refl)

  -- the entry and the rows of the set are as they were, or one of them is another, or both
  pub kept_in : new.entry x ≡ (bs b).entry x → new.rows x ≡ (bs b).rows x → durable_in (put bs b new) x ≡ durable_in bs x
  kept_in e m = λ i. record { entry = λ q. entries_kept e q i; rows = λ q. rows_kept m q i }

  pub entry_in : (e : Option Status) → new.entry x ≡ e → new.rows x ≡ (bs b).rows x → durable_in (put bs b new) x ≡ durable.with_entry (durable_in bs x) b e
  entry_in e is m = λ i. record { entry = λ q. entries_put e is q i; rows = λ q. rows_kept m q i }

  pub rows_in : (m : RowMap) → new.entry x ≡ (bs b).entry x → new.rows x ≡ m → durable_in (put bs b new) x ≡ durable.with_rows_at (durable_in bs x) b m
  rows_in m e is = λ i. record { entry = λ q. entries_kept e q i; rows = λ q. rows_put m is q i }

  pub both_in : (e : Option Status) (m : RowMap) → new.entry x ≡ e → new.rows x ≡ m → durable_in (put bs b new) x ≡ durable.with_rows_at (durable.with_entry (durable_in bs x) b e) b m
  both_in e m is are = λ i. record { entry = λ q. entries_put e is q i; rows = λ q. rows_put m are q i }

-- ---- each change, from what the bucket becomes

here : {A : Type 0} (g f : ℕ → A) (x : ℕ) (v : A) → g ≡ put f x v → g x ≡ v
here g f x v is = ap (λ (h : ℕ → _). h x) is ∙ put_here f x v

there : {A : Type 0} (g f : ℕ → A) (x : ℕ) (v : A) (y : ℕ) → y ≢ x → g ≡ put f x v → g y ≡ f y
there g f x v y ne is = ap (λ (h : ℕ → _). h y) is ∙ put_there f x v y ne

at : {A : Type 0} (g f : ℕ → A) (x : ℕ) → g ≡ f → g x ≡ f x
at g f x is = ap (λ (h : ℕ → _). h x) is

abbrev pub written_by : ℕ → Change → Recording
written_by x c = record { at = x; change = c }

module _ (bs : ℕ → Bucket) (b : ℕ) (new : Bucket) where
  -- nothing of it changes at any set
  pub unwritten : new.entry ≡ (bs b).entry → new.rows ≡ (bs b).rows → (x : ℕ) → durable_in (put bs b new) x ≡ durable_in bs x
  unwritten e m x = kept_in bs b new x (at new.entry (bs b).entry x e) (at new.rows (bs b).rows x m)

  entry_others : (x y : ℕ) (e : Option Status) → y ≢ x → new.entry ≡ put (bs b).entry x e → new.rows ≡ (bs b).rows → durable_in (put bs b new) y ≡ durable_in bs y
  entry_others x y e ne is m = kept_in bs b new y (there new.entry (bs b).entry x e y ne is) (at new.rows (bs b).rows y m)

  rows_others : (x y : ℕ) (m : RowMap) → y ≢ x → new.entry ≡ (bs b).entry → new.rows ≡ put (bs b).rows x m → durable_in (put bs b new) y ≡ durable_in bs y
  rows_others x y m ne e is = kept_in bs b new y (at new.entry (bs b).entry y e) (there new.rows (bs b).rows x m y ne is)

  pub status_written : (x : ℕ) (st : Status) → new.entry ≡ put (bs b).entry x (Some st) → new.rows ≡ (bs b).rows → IsWritten bs (put bs b new) (written_by x (SetStatus b st))
  status_written x st e m = record {
    here = entry_in bs b new x (Some st) (here new.entry (bs b).entry x (Some st) e) (at new.rows (bs b).rows x m);
    others = λ y ne. entry_others x y (Some st) ne e m;
  }

  pub forget_written : (x : ℕ) → new.entry ≡ put (bs b).entry x None → new.rows ≡ (bs b).rows → IsWritten bs (put bs b new) (written_by x (Forget b))
  forget_written x e m = record {
    here = entry_in bs b new x None (here new.entry (bs b).entry x None e) (at new.rows (bs b).rows x m);
    others = λ y ne. entry_others x y None ne e m;
  }

  pub call_written : (x : ℕ) (id : CallId) (ops : List Op) → new.entry ≡ (bs b).entry → new.rows ≡ put (bs b).rows x (rows_after ((bs b).rows x) ops) → IsWritten bs (put bs b new) (written_by x (Write id b ops))
  call_written x id ops e m = record {
    here = rows_in bs b new x (rows_after ((bs b).rows x) ops) (at new.entry (bs b).entry x e) (here new.rows (bs b).rows x _ m);
    others = λ y ne. rows_others x y _ ne e m;
  }

  pub wipe_written : (x n : ℕ) → new.entry ≡ (bs b).entry → new.rows ≡ put (bs b).rows x (drop n ((bs b).rows x)) → IsWritten bs (put bs b new) (written_by x (Wipe b n))
  wipe_written x n e m = record {
    here = rows_in bs b new x (drop n ((bs b).rows x)) (at new.entry (bs b).entry x e) (here new.rows (bs b).rows x _ m);
    others = λ y ne. rows_others x y _ ne e m;
  }

  pub page_written : (x z : ℕ) (page : RowMap) → new.entry ≡ put (bs b).entry x (Some (Receiving z)) → new.rows ≡ put (bs b).rows x (with_rows ((bs b).rows x) page) → IsWritten bs (put bs b new) (written_by x (AddRows b z page))
  page_written x z page e m = record {
    here = both_in bs b new x (Some (Receiving z)) (with_rows ((bs b).rows x) page) (here new.entry (bs b).entry x _ e) (here new.rows (bs b).rows x _ m);
    others = λ y ne. kept_in bs b new y (there new.entry (bs b).entry x _ y ne e) (there new.rows (bs b).rows x _ y ne m);
  }

-- ---- a change that takes effect by itself

status_entry : (b : Bucket) (x : ℕ) (st : Status) → (with_status b x st).entry ≡ put b.entry x (Some st)
status_entry b x Active = refl
status_entry b x Pinned = refl
status_entry b x (Sending d) = refl
status_entry b x (Receiving d) = refl
status_entry b x (Sent d) = refl
status_entry b x Garbage = refl

status_rows : (b : Bucket) (x : ℕ) (st : Status) → (with_status b x st).rows ≡ b.rows
status_rows b x Active = refl
status_rows b x Pinned = refl
status_rows b x (Sending d) = refl
status_rows b x (Receiving d) = refl
status_rows b x (Sent d) = refl
status_rows b x Garbage = refl

pub change_written : (bs : ℕ → Bucket) (x : ℕ) (c : Change) → IsWritten bs (put bs (bucket_of c) (with_change (bs (bucket_of c)) x c)) (written_by x c)
change_written bs x (SetStatus b st) = status_written bs b _ x st (status_entry (bs b) x st) (status_rows (bs b) x st)
change_written bs x (AddRows b z page) = page_written bs b _ x z page refl refl
change_written bs x (Write id b ops) = call_written bs b _ x id ops refl refl
change_written bs x (Wipe b n) = wipe_written bs b _ x n refl refl
change_written bs x (Forget b) = forget_written bs b _ x refl refl
