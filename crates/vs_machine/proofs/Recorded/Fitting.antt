-- A change that may still take effect at a set may be written to its journal.
use Rattle.std.proofs.Common.{◌≡◌, ℕ, inl, inr, ◌≤◌, arith, true, refl, sym, subst, List, [], ◌∷◌, Option, Some, None}
use Rattle.std.specs.Prelude.{◌-◌, ◌≢◌, All, slice_get}
use Rattle.std.specs.List.{AllByRecursion}
use Rattle.std.proofs.lemmas.Bool.Decides.{nat_tests}
use Rattle.std.proofs.lemmas.List.Elements.{All-head, All-tail}
use Rattle.std.proofs.lemmas.Option.{slice_get_within}
use Rattle.vs_base.specs.declared.numbers.Mode.TheVariants.{Rw}
use Rattle.vs_rows.specs.RowMap.{RowMap}
use Rattle.vs_rows.specs.declared.op.Op.{Op}
use Rattle.vs_rows.specs.declared.op.Op.TheVariants.{Get, Put, Insert, Delete, Swap, Count, Scan}
use Rattle.vs_record.specs.Body.{IsModest, HasCounts}
use Rattle.vs_record.specs.Change.{Change, SetStatus, AddRows, Write, Wipe, Forget, bucket_of}
use Rattle.vs_record.specs.Durable.{HasEntry, Receives, TakesWrites, IsCall, Fits, FitsState}
use Rattle.vs_record.proofs.Fitting.{fits_decides}
use Rattle.vs_script.specs.Calls.{Call}
use Rattle.vs_script.specs.Lawful.{IsShortScan, IsLawfulCall}
use Rattle.vs_send.specs.declared.transfer.Transfer.{Transfer}
use Rattle.vs_space.specs.Status.{MayChange}
use Rattle.vs_space.specs.declared.status.Status.{Status}
use Rattle.vs_space.specs.declared.status.Status.TheVariants.{Active, Pinned, Sending, Receiving, Sent, Garbage}
use Rattle.vs_machine.specs.Coherence.{IsServing, names}
use Rattle.vs_machine.specs.Inner.Down.{StatusFits, FitsIn}
use Rattle.vs_machine.specs.Inputs.{HasInputs, HasFew}
use Rattle.vs_machine.specs.Journals.{durable_of, MayWrite}
use Rattle.vs_machine.specs.State.{State, sets_of, has_set, has_bucket}
use Rattle.vs_machine.specs.Whole.{Whole}
use Rattle.vs_machine.proofs.Kept.Sending.{each_of}
use Rattle.vs_machine.proofs.Opens.{each_script}
use Rattle.vs_machine.proofs.Recorded.Kinds.{IsCounted}

-- ---- a status

module _ (n o : ℕ) (has : ℕ → Option Status) (moves : ℕ → Option Transfer) (rows : ℕ → RowMap) (x : ℕ) where
  -- the status follows from the one before it
  status_follows : (e : Option Status) (st : Status) → StatusFits n o has moves rows x e st → HasEntry e × MayChange e (Some st)
  status_follows (Some Active) Pinned f = (tt, tt)
  status_follows (Some Pinned) Active f = (tt, tt)
  status_follows (Some Active) (Sending d) f = (tt, tt)
  status_follows (Some (Sending d)) (Sent e) f = (tt, sym f.0)
  status_follows (Some (Sending d)) Active f = (tt, tt)
  status_follows (Some (Receiving y)) Active f = (tt, tt)
  status_follows (Some (Receiving y)) Garbage f = (tt, tt)
  status_follows (Some (Sent d)) Garbage f = (tt, tt)
  status_follows e st f = absurd f

there_is : (e : Option Status) → HasEntry e → e ≢ None
there_is e h none = subst HasEntry none h

serving_takes : (e : Option Status) → IsServing e → TakesWrites e
serving_takes (Some Active) h = tt
serving_takes (Some Pinned) h = tt
serving_takes None h = h
serving_takes (Some (Sending d)) h = h
serving_takes (Some (Receiving d)) h = h
serving_takes (Some (Sent d)) h = h
serving_takes (Some Garbage) h = h

-- ---- a call of the scripts

modest_op : (op : Op) → IsShortScan op → IsModest op
modest_op (Scan k n) h = h
modest_op (Get k) h = tt
modest_op (Put k v) h = tt
modest_op (Insert k v) h = tt
modest_op (Delete k) h = tt
modest_op (Swap k v w) h = tt
modest_op Count h = tt

modest : (ops : List Op) → All IsShortScan ops → AllByRecursion IsModest ops
modest [] h = tt
modest (op ∷ ops) h = (modest_op op (All-head IsShortScan op ops h), modest ops (All-tail IsShortScan op ops h))

module _ (s : State) (inputs : HasInputs s) (few : HasFew s) where
  -- its number is within those of a journal, and its scans are short
  call_counts : (c n : ℕ) (k : Call) → 1 ≤ n → slice_get (s.client c).script (n - 1) ≡ Some k → IsCall n × AllByRecursion IsModest k.ops
  call_counts c n k first is =
      let P : Call → Type 0 = IsLawfulCall s.config.bucket_count in
      let lawful : P k = each_of P (s.client c).script (n - 1) k (subst (All P) (sym (inputs.client c)) (each_script P inputs.scripts.clients c inputs.lawful.calls)) is in
      let lt = slice_get_within (s.client c).script (n - 1) k is in
      let le = few.calls c in
      ((first, omega arith), modest k.ops lawful.scans)

-- ---- every change

module _ (own : ℕ → ℕ) (s : State) (w : Whole own s) where
  -- where the change stands: a set of the cluster, and a bucket of it
  abbrev Stands : ℕ → ℕ → Type 0
  Stands x b = (has_set s x ≡ true) × (has_bucket s b ≡ true)

  set_is : (x : ℕ) → (1 ≤ x) × (x ≤ sets_of s) → has_set s x ≡ true
  set_is x h = let first = h.0 in let last = h.1 in grind (arith, nat_tests, first, last)

  at_entry : (x b : ℕ) → (s.bucket b).entry x ≢ None → Stands x b
  at_entry x b some = (set_is x (w.bounds b x some), w.known b x some)

  stands : (x : ℕ) (c : Change) → FitsIn (sets_of s) (own (bucket_of c)) (s.bucket (bucket_of c)) x c → Stands x (bucket_of c)
  stands x (SetStatus b st) f =
      let old = s.bucket b in
      at_entry x b (there_is (old.entry x) (status_follows (sets_of s) (own b) old.entry old.transfer old.rows x (old.entry x) st f).0)
  stands x (AddRows b z page) f =
      let other = (w.inner.buckets b).named z x (subst (λ e. names e ≡ Some x) (sym f.sends) refl) in
      (set_is x (other.1, other.2), w.known b z (λ none. absurd (cc (none, f.sends))))
  stands x (Write id b ops) f = at_entry x b (λ none. subst IsServing none f)
  stands x (Wipe b n) f = at_entry x b (λ none. absurd (cc (none, f)))
  stands x (Forget b) f = at_entry x b (λ none. absurd (cc (none, f.0)))

  fits_there : HasInputs s → HasFew s → (x : ℕ) (c : Change) → FitsIn (sets_of s) (own (bucket_of c)) (s.bucket (bucket_of c)) x c → IsCounted s x c → Fits (durable_of s x) c × HasCounts c
  fits_there inputs few x (SetStatus b st) f h = let old = s.bucket b in (status_follows (sets_of s) (own b) old.entry old.transfer old.rows x (old.entry x) st f, tt)
  fits_there inputs few x (AddRows b z page) f h = elim f.free [
    | inl none ↦ (subst (λ e. Receives e z) (sym none) tt, tt)
    | inr from ↦ (subst (λ e. Receives e z) (sym from) refl, tt)
  ]
  fits_there inputs few x (Write id b ops) f h =
      let counts = call_counts s inputs few id.client id.call (record { mode = Rw; bucket = b; ops = ops }) h.0 h.1 in
      ((serving_takes ((s.bucket b).entry x) f, counts.0), counts.1)
  fits_there inputs few x (Wipe b n) f h = ((f, h.within), (h.some, h.most))
  fits_there inputs few x (Forget b) f h = (f, tt)

  bucket_within : (b : ℕ) → has_bucket s b ≡ true → b ≤ s.config.bucket_count
  bucket_within b h = grind (arith, nat_tests, h)

  pub may_write : HasInputs s → HasFew s → (x : ℕ) (c : Change) → FitsIn (sets_of s) (own (bucket_of c)) (s.bucket (bucket_of c)) x c → IsCounted s x c → MayWrite s x c
  may_write inputs few x c f h =
      let at = stands x c f in
      let both = fits_there inputs few x c f h in
      let fitting : FitsState s.config.bucket_count (durable_of s x) c = record { bucket = bucket_within (bucket_of c) at.1; fits = both.0 } in
      record { set = at.0; fitting = fitting; test = (fits_decides s.config.bucket_count (durable_of s x) c).1 fitting; counts = both.1 }
