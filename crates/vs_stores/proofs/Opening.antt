-- Journals that are opened one after the other.
use Rattle.std.proofs.Common.{◌≡◌, ◌≢◌, inl, ⊎_elim, ℕ, zero, suc, ◌<◌, ◌≤◌, ◌+◌, ◌-◌, List, [], ◌∷◌, ◌++◌, length, drop, map, Some, Result, Ok, Err, get_or, refl, sym, ap, subst, ◌∙◌, arith, length-append, length-drop}
use Rattle.std.specs.Prelude.{slice_get, IsOkAnd, All}
use Rattle.std.proofs.lemmas.Bool.{cases_lt}
use Rattle.std.proofs.lemmas.List.{drop-drop, length-map}
use Rattle.std.proofs.lemmas.List.Elements.{All-nil, All-cons, All-append, All-get_or}
use Rattle.std.proofs.lemmas.Option.{slice_get-map, slice_get_within}
use Rattle.std.proofs.Math.Seq.{drop-append-add}
use Rattle.std.specs.Option.{option_map}
use Rattle.vs_disk.specs.declared.disk.Disk.{Ghosts}
use Rattle.vs_disk.specs.Told.{Told, Reads, Failed}
use Rattle.vs_disk.specs.Model.{Torn, IsLawful}
use Rattle.vs_disk.specs.Kept.{same_torn}
use Rattle.vs_disk.proofs.Runs.{weakened_through}
use Rattle.vs_frame.specs.Unwritten.{IsUnwritten, TornOf}
use Rattle.vs_frame.specs.declared.head.Head.{Head}
use Rattle.vs_record.specs.Durable.{Durable}
use Rattle.vs_record.specs.States.{durable, IsOfBuckets}
use Rattle.vs_record.specs.declared.set_state.SetState.{SetState}
use Rattle.vs_store.specs.declared.fault.StoreFault.{StoreFault}
use Rattle.vs_store.specs.declared.fault.StoreFault.TheVariants.{Full, DiskFault, NotAJournal, OtherSet, OtherCount, NoMemory}
use Rattle.vs_store.specs.declared.store.Store.{Store}
use Rattle.vs_store.specs.Faults.{IsRefusal}
use Rattle.vs_store.specs.Opening.{IsBeforeOrAsItWas, IsOpenedDisk, HasRoom, IsTakenOver, IsOpened, IsNotOpened}
use Rattle.vs_store.specs.Standing.{Standing, opened}
use Rattle.vs_store.specs.Store.{disk_of, told_of}
use Rattle.vs_store.proofs.Opening.{disk_after, opened_after, not_opened_after}
use Rattle.vs_store.proofs.Told.{unwritten_same}
use Rattle.vs_stores.specs.Due.{Due, HoldsDue}
use Rattle.vs_stores.specs.Numbered.{at_number}
use Rattle.vs_stores.specs.OpenedStores.{AreUnwritten, HasFailed, AreOpenedDisks, AreOpened, AreDue, IsRefusedAt, AreNotOpened, IsAdded, IsNotAdded}
use Rattle.vs_stores.specs.Refusals.{open_fault}
use Rattle.vs_stores.specs.Stores.{stores_of, spare_of, disks_of, limit_of, AllHold}
use Rattle.vs_stores.specs.declared.fault.OpenFault.{OpenFault}
use Rattle.vs_stores.specs.declared.fault.OpenFault.TheVariants.{OfSet, NoMemory as NoOpenMemory}
use Rattle.vs_stores.specs.declared.stores.Stores.{Stores}
use Rattle.vs_stores.proofs.Lists.{some_is, push_get, push_last, pushed, at_drop, drop_get, front_get, back_get, get_within, number_is}

-- ---- disks on which nothing was written

pub unwritten_disk : (a b : Told) → IsUnwritten a b → (head : Head) → IsOpenedDisk head a b
unwritten_disk a b u head = record {
  keeps = u.keeps;
  reads = λ tells some. inl (u.reads tells);
  any_moment = λ tells some. weakened_through a b a.may_leave (IsBeforeOrAsItWas head a) (λ f left. inl left) u.any_moment;
  torn = λ tells none. subst (λ (f : List ℕ). Torn 0 38 a.reads_as f) (sym (u.reads tells)) (same_torn a.reads_as 0 38);
  torn_any_moment = λ tells none. weakened_through a b a.may_leave (TornOf 0 38 a) (λ f left. (f, left, same_torn f 0 38)) u.any_moment;
}

pub unwritten_refused : (a b : Told) → IsUnwritten a b → (head : Head) (limit : ℕ) (fault : StoreFault) → (IsRefusal fault → ⊥) → ((len : ℕ) → fault ≡ Full len → ⊥) → (fault ≡ DiskFault → Failed a b) → IsNotOpened head limit a fault b
unwritten_refused a b u head limit fault refusal full failed = record {
  disk = unwritten_disk a b u head;
  refused = λ is. absurd (refusal is);
  full = λ len is. absurd (full len is);
  full_is = λ len is. absurd (full len is);
  unwritten = λ other. u;
  failed = failed;
}

pub no_memory : (told : Told) → IsLawful told → (head : Head) (limit : ℕ) → IsNotOpened head limit told NoMemory told
no_memory told laws head limit = unwritten_refused told told (unwritten_same told laws) head limit NoMemory (λ is. is) (λ len is. cc is) (λ is. absurd (cc is))

pub disk_failed : (a b : Told) → IsUnwritten a b → (head : Head) (limit : ℕ) (fault : StoreFault) → fault ≡ DiskFault → Failed a b → IsNotOpened head limit a fault b
disk_failed a b u head limit fault is failed = subst (λ (f : StoreFault). IsNotOpened head limit a f b) (sym is) (unwritten_refused a b u head limit DiskFault (λ h. h) (λ len e. cc e) (λ e. failed))

-- ---- buckets up to the count

-- the states are of as many buckets as all heads say
abbrev pub AreWithin : List Head → List SetState → Type 0
AreWithin heads states = (n : ℕ) → All (λ (head : Head). head.bucket_count ≡ n) heads → All (IsOfBuckets n) states

one_within : (heads : List Head) (states : List SetState) (k : ℕ) (head : Head) (state : SetState) (states' : List SetState) → k < length heads → head ≡ get_or heads k head → states' ≡ states ++ state ∷ []
    → IsOfBuckets head.bucket_count state → AreWithin heads states → AreWithin heads states'
one_within heads states k head state states' lt here are one all n same =
    let count : head.bucket_count ≡ n = ap (λ (h : Head). h.bucket_count) here ∙ All-get_or (λ (h : Head). h.bucket_count ≡ n) heads k head lt same in
    subst (All (IsOfBuckets n)) (sym are) (All-append (IsOfBuckets n) states (state ∷ []) (all n same) (All-cons (IsOfBuckets n) state [] (subst (λ (m : ℕ). IsOfBuckets m state) count one) (All-nil (IsOfBuckets n))))

-- ---- so far

abbrev pub AreEachOpened : {D : Type 0} {disk : Ghosts D} → List Head → ℕ → List D → List (Store D disk) → List SetState → Type 0
AreEachOpened {D} {disk} heads limit before stores states = (i : ℕ) (head : Head) (was : D) (it : Store D disk) (state : SetState) → slice_get heads i ≡ Some head → slice_get before i ≡ Some was → slice_get stores i ≡ Some it → slice_get states i ≡ Some state
    → IsOpened head limit (disk.told was) it (durable state)

-- the sets up to the k-th are opened
pub record SoFar {D : Type 0} {disk : Ghosts D} (heads : List Head) (limit : ℕ) (before : List D) (all : Stores D disk) (states : List SetState) (k : ℕ) : Type 0 where
  pub count : length (stores_of all) ≡ k
  pub count_of_states : length states ≡ k
  pub limit_is : limit_of all ≡ limit
  pub spare : spare_of all ≡ drop k before
  pub each : AreEachOpened heads limit before (stores_of all) states
  pub within : AreWithin heads states

module _ {D : Type 0} {disk : Ghosts D} (laws : (it : D) → IsLawful (disk.told it)) (heads : List Head) (limit : ℕ) (before : List D) (enough : length heads ≤ length before) where
  -- the disks of these stores, and behind them others
  module _ (stores : List (Store D disk)) (states : List SetState) (count : length stores ≡ length states) (each : AreEachOpened heads limit before stores states) (tail : List D) where
    size : length (map disk_of stores) ≡ length stores
    size = length-map stores disk_of

    abbrev k : ℕ
    k = length stores

    disks_after : k ≤ length heads → length tail ≡ length (drop k before)
        → ((j : ℕ) (head : Head) (was is : D) → slice_get heads (k + j) ≡ Some head → slice_get (drop k before) j ≡ Some was → slice_get tail j ≡ Some is → IsOpenedDisk head (disk.told was) (disk.told is))
        → drop (length heads - k) tail ≡ drop (length heads - k) (drop k before) → AreOpenedDisks disk.told heads before (map disk_of stores ++ tail)
    disks_after le tails of_tail spare = record {
      count = omega (arith, length-append (map disk_of stores) tail, size, tails, length-drop k before, le, enough);
      of_sets = λ i head was is h w e. ⊎_elim (in_front i head was is h w e) (behind i head was is h w e) (cases_lt i k);
      spare =
          let split : length (map disk_of stores) + (length heads - k) ≡ length heads = omega (arith, size, le) in
          let whole : k + (length heads - k) ≡ length heads = omega (arith, le) in
          ap (λ (n : ℕ). drop n (map disk_of stores ++ tail)) (sym split) ∙ drop-append-add (map disk_of stores) tail (length heads - k) ∙ spare ∙ drop-drop (length heads - k) k before ∙ ap (λ (n : ℕ). drop n before) whole;
    }
      where
        in_front : (i : ℕ) (head : Head) (was is : D) → slice_get heads i ≡ Some head → slice_get before i ≡ Some was → slice_get (map disk_of stores ++ tail) i ≡ Some is → i < k → IsOpenedDisk head (disk.told was) (disk.told is)
        in_front i head was is h w e lt =
            let it = get_within stores i lt in
            let state = get_within states i (omega (arith, lt, count)) in
            let front : i < length (map disk_of stores) = omega (arith, lt, size) in
            let at : Some (disk_of it.0) ≡ Some is = ap (option_map disk_of) (sym it.1) ∙ sym (slice_get-map disk_of stores i) ∙ sym (front_get (map disk_of stores) tail i front) ∙ e in
            subst (λ (d : D). IsOpenedDisk head (disk.told was) (disk.told d)) (some_is (disk_of it.0) is at) (each i head was it.0 state.0 h w it.1 state.1).disk

        behind : (i : ℕ) (head : Head) (was is : D) → slice_get heads i ≡ Some head → slice_get before i ≡ Some was → slice_get (map disk_of stores ++ tail) i ≡ Some is → k ≤ i → IsOpenedDisk head (disk.told was) (disk.told is)
        behind i head was is h w e ge =
            let at : k + (i - k) ≡ i = omega (arith, ge) in
            let place : length (map disk_of stores) + (i - k) ≡ i = omega (arith, size, ge) in
            of_tail (i - k) head was is (ap (slice_get heads) at ∙ h) (drop_get before k (i - k) ∙ ap (slice_get before) at ∙ w)
            (sym (back_get (map disk_of stores) tail (i - k)) ∙ ap (slice_get (map disk_of stores ++ tail)) place ∙ e)

  same_disk : (head : Head) (was is : D) → was ≡ is → IsOpenedDisk head (disk.told was) (disk.told is)
  same_disk head was is e = subst (λ (d : D). IsOpenedDisk head (disk.told was) (disk.told d)) e (unwritten_disk (disk.told was) (disk.told was) (unwritten_same (disk.told was) (laws was)) head)

  module _ (all : Stores D disk) (states : List SetState) (n : ℕ) (so_far : SoFar heads limit before all states n) where
    disks_so_far : n ≤ length heads → AreOpenedDisks disk.told heads before (disks_of all)
    disks_so_far le =
        let spare : spare_of all ≡ drop (length (stores_of all)) before = so_far.spare ∙ ap (λ (m : ℕ). drop m before) (sym so_far.count) in
        disks_after (stores_of all) states (so_far.count ∙ sym so_far.count_of_states) so_far.each (spare_of all) (omega (arith, so_far.count, le)) (ap length spare)
        (λ j head was is h w e. same_disk head was is (some_is was is (sym w ∙ ap (λ (l : List D). slice_get l j) (sym spare) ∙ e)))
        (ap (drop (length heads - length (stores_of all))) spare)

    -- memory ran out
    pub out_of_memory : n ≤ length heads → AreNotOpened disk.told heads limit before NoOpenMemory (disks_of all)
    out_of_memory le = record { disks = disks_so_far le; refused = λ x f e. absurd (cc e) }

    -- all sets are opened
    pub all_opened : n ≡ length heads → AreOpened heads limit before all states
    all_opened e = record {
      count = so_far.count ∙ e;
      count_of_states = so_far.count_of_states ∙ e;
      each = so_far.each;
      spare = so_far.spare ∙ ap (λ (m : ℕ). drop m before) e;
      limit_is = so_far.limit_is;
    }

    -- the disk of the next one
    pub next_disk : (it : D) → slice_get (spare_of all) 0 ≡ Some it → slice_get before n ≡ Some it
    next_disk it at = ap (slice_get before) (omega arith) ∙ sym (drop_get before n 0) ∙ sym (ap (λ (l : List D). slice_get l 0) so_far.spare) ∙ at

    -- one set more
    module _ (head : Head) (h : slice_get heads n ≡ Some head) (new : Stores D disk) where
      pub one_more : (state : SetState) (states' : List SetState) → states' ≡ states ++ state ∷ [] → IsAdded all new head (durable state) → n < length heads → head ≡ get_or heads n head → IsOfBuckets head.bucket_count state → SoFar heads limit before new states' (n + 1)
      one_more state states' states_are x lt here of_count = record {
        within = one_within heads states n head state states' lt here states_are of_count so_far.within;
        count = omega (arith, ap length x.stores, length-append (stores_of all) (x.it ∷ []), so_far.count);
        count_of_states = omega (arith, ap length states_are, length-append states (state ∷ []), so_far.count_of_states);
        limit_is = x.limit ∙ so_far.limit_is;
        spare = sym (tail_is);
        each = λ i head' was it state' h' w s t. ⊎_elim (old i head' was it state' h' w t) (last i head' was it state' h' w t) (pushed (stores_of all) x.it i it (subst (λ (l : List (Store D disk)). slice_get l i ≡ Some it) x.stores s));
      }
        where
          rest_is : drop n before ≡ x.was ∷ spare_of new
          rest_is = sym so_far.spare ∙ x.spare

          tail_is : drop (n + 1) before ≡ spare_of new
          tail_is = sym (drop-drop 1 n before) ∙ ap (drop 1) rest_is

          old : (i : ℕ) (head' : Head) (was : D) (it : Store D disk) (state' : SetState) → slice_get heads i ≡ Some head' → slice_get before i ≡ Some was → slice_get states' i ≡ Some state' → (i < length (stores_of all)) × (slice_get (stores_of all) i ≡ Some it) → IsOpened head' limit (disk.told was) it (durable state')
          old i head' was it state' h' w t s = so_far.each i head' was it state' h' w s.1 (sym (push_get states state i (omega (arith, s.0, so_far.count, so_far.count_of_states))) ∙ sym (ap (λ (l : List SetState). slice_get l i) states_are) ∙ t)

          last : (i : ℕ) (head' : Head) (was : D) (it : Store D disk) (state' : SetState) → slice_get heads i ≡ Some head' → slice_get before i ≡ Some was → slice_get states' i ≡ Some state' → (i ≡ length (stores_of all)) × (x.it ≡ it) → IsOpened head' limit (disk.told was) it (durable state')
          last i head' was it state' h' w t s =
              let at : i ≡ n = s.0 ∙ so_far.count in
              let head_is : head ≡ head' = some_is head head' (sym h ∙ ap (slice_get heads) (sym at) ∙ h') in
              let was_is : x.was ≡ was = some_is x.was was (sym (at_drop before n x.was (spare_of new) rest_is) ∙ ap (slice_get before) (sym at) ∙ w) in
              let state_is : state ≡ state' = some_is state state' (sym (push_last states state) ∙ ap (slice_get (states ++ state ∷ [])) (sym (s.0 ∙ so_far.count ∙ sym so_far.count_of_states)) ∙ sym (ap (λ (l : List SetState). slice_get l i) states_are) ∙ t) in
              subst (λ (d : Head). IsOpened d limit (disk.told was) it (durable state')) head_is
              (subst (λ (d : D). IsOpened head limit (disk.told d) it (durable state')) was_is
              (subst (λ (d : Store D disk). IsOpened head limit (disk.told x.was) d (durable state')) s.1
              (subst (λ (d : SetState). IsOpened head limit (disk.told x.was) x.it (durable d)) state_is
              (subst (λ (l : ℕ). IsOpened head l (disk.told x.was) x.it (durable state)) so_far.limit_is x.opened))))

      -- it was refused
      pub one_refused : (fault : StoreFault) → n < length heads → IsNotAdded all new head fault → AreNotOpened disk.told heads limit before (open_fault (n + 1) fault) (disks_of new)
      one_refused fault lt x = record { disks = disks; refused = λ y f e. refused_at y f (named fault (n + 1) y f e) }
        where
          rest_is : drop n before ≡ x.was ∷ x.rest
          rest_is = sym so_far.spare ∙ x.spare

          at_k : drop (length (stores_of all)) before ≡ x.was ∷ x.rest
          at_k = ap (λ (m : ℕ). drop m before) so_far.count ∙ rest_is

          of_tail : (j : ℕ) (head' : Head) (was is : D) → slice_get heads (length (stores_of all) + j) ≡ Some head' → slice_get (x.was ∷ x.rest) j ≡ Some was → slice_get (x.is ∷ x.rest) j ≡ Some is → IsOpenedDisk head' (disk.told was) (disk.told is)
          of_tail zero head' was is h' w e =
              let head_is : head ≡ head' = some_is head head' (sym h ∙ ap (slice_get heads) (omega (arith, so_far.count)) ∙ h') in
              subst (λ (d : Head). IsOpenedDisk d (disk.told was) (disk.told is)) head_is
              (subst (λ (d : D). IsOpenedDisk head (disk.told d) (disk.told is)) (some_is x.was was w)
              (subst (λ (d : D). IsOpenedDisk head (disk.told x.was) (disk.told d)) (some_is x.is is e) x.refused.disk))
          of_tail (suc j) head' was is h' w e = same_disk head' was is (some_is was is (sym w ∙ e))

          tails : (m : ℕ) → 0 < m → drop m (x.is ∷ x.rest) ≡ drop m (x.was ∷ x.rest)
          tails zero pos = absurd (omega (arith, pos))
          tails (suc m) pos = refl

          disks : AreOpenedDisks disk.told heads before (disks_of new)
          disks =
              let k = length (stores_of all) in
              let here = disks_after (stores_of all) states (so_far.count ∙ sym so_far.count_of_states) so_far.each (x.is ∷ x.rest) (omega (arith, so_far.count, lt)) (sym (ap length at_k))
              (λ j head' was is h' w e. of_tail j head' was is h' (ap (λ (l : List D). slice_get l j) (sym at_k) ∙ w) e)
              (tails (length heads - k) (omega (arith, so_far.count, lt)) ∙ ap (drop (length heads - k)) (sym at_k)) in
              subst (λ (l : List D). AreOpenedDisks disk.told heads before l) (λ i. map disk_of (sym x.stores i) ++ sym x.spare_now i) here

          named : (fault : StoreFault) (m y : ℕ) (f : StoreFault) → open_fault m fault ≡ OfSet y f → (m ≡ y) × (fault ≡ f) × (f ≢ NoMemory)
          named NoMemory m y f e = absurd (cc e)
          named (Full len) m y f e = let is : Full len ≡ f = cc e in (cc e, is, λ no. cc (is, no))
          named DiskFault m y f e = let is : DiskFault ≡ f = cc e in (cc e, is, λ no. cc (is, no))
          named (NotAJournal place) m y f e = let is : NotAJournal place ≡ f = cc e in (cc e, is, λ no. cc (is, no))
          named (OtherSet uuid) m y f e = let is : OtherSet uuid ≡ f = cc e in (cc e, is, λ no. cc (is, no))
          named (OtherCount count) m y f e = let is : OtherCount count ≡ f = cc e in (cc e, is, λ no. cc (is, no))

          room : (limit : ℕ) (d : Durable) (new : List ℕ) (head : Head) (r : Result Standing StoreFault) → IsOkAnd r (IsTakenOver head limit d new) → IsOkAnd r (HasRoom limit)
          room limit d new head (Ok s) is = is.room
          room limit d new head (Err e) is = absurd is

          refused_at : (y : ℕ) (f : StoreFault) → (n + 1 ≡ y) × (fault ≡ f) × (f ≢ NoMemory) → IsRefusedAt disk.told heads limit before (disks_of new) y f
          refused_at y f is = record {
            within = (omega (arith, is.0), omega (arith, is.0, lt));
            known = is.2;
            refused = λ head' was now h' w e.
                let head_is : head ≡ head' = some_is head head' (sym h ∙ number_is heads y n head' (sym is.0) h') in
                let was_is : x.was ≡ was = some_is x.was was (sym (at_drop before n x.was x.rest rest_is) ∙ number_is before y n was (sym is.0) w) in
                let size : length (map disk_of (stores_of all)) + 0 ≡ n = omega (arith, length-map (stores_of all) disk_of, so_far.count) in
                let new_is : disks_of new ≡ map disk_of (stores_of all) ++ x.is ∷ x.rest = λ i. map disk_of (x.stores i) ++ x.spare_now i in
                let now_at : slice_get (map disk_of (stores_of all) ++ x.is ∷ x.rest) n ≡ Some now = sym (ap (λ (l : List D). slice_get l n) new_is) ∙ number_is (disks_of new) y n now (sym is.0) e in
                let now_is : x.is ≡ now = some_is x.is now (sym (back_get (map disk_of (stores_of all)) (x.is ∷ x.rest) 0) ∙ ap (slice_get (map disk_of (stores_of all) ++ x.is ∷ x.rest)) size ∙ now_at) in
                subst (λ (d : Head). IsNotOpened d limit (disk.told was) f (disk.told now)) head_is
                (subst (λ (d : D). IsNotOpened head limit (disk.told d) f (disk.told now)) was_is
                (subst (λ (d : D). IsNotOpened head limit (disk.told x.was) f (disk.told d)) now_is
                (subst (λ (d : StoreFault). IsNotOpened head limit (disk.told x.was) d (disk.told x.is)) is.1
                (subst (λ (l : ℕ). IsNotOpened head l (disk.told x.was) fault (disk.told x.is)) so_far.limit_is x.refused))));
            first = λ other z head' was below h' w. first z head' was (omega (arith, below, is.0)) h' w;
          }
            where
              first : (z : ℕ) (head' : Head) (was : D) → z < n + 1 → at_number heads z ≡ Some head' → at_number before z ≡ Some was → Reads (disk.told was) (λ file. file ≢ [] → IsOkAnd (opened head' file) (HasRoom limit))
              first zero head' was below h' w = absurd (cc h')
              first (suc i) head' was below h' w = λ tells some.
                  let it = get_within (stores_of all) i (omega (arith, below, so_far.count)) in
                  let state = get_within states i (omega (arith, below, so_far.count_of_states)) in
                  room limit (durable state.0) (told_of it.0).reads_as head' (opened head' (disk.told was).reads_as) ((so_far.each i head' was it.0 state.0 h' w it.1 state.1).taken_over tells some)

-- ---- on disks that were made ready

module _ {D : Type 0} {disk : Ghosts D} (heads : List Head) (limit : ℕ) (first before : List D) (u : AreUnwritten disk.told (length heads) first before) where
  middle : (i : ℕ) (was : D) → slice_get first i ≡ Some was → (mid : D) × (slice_get before i ≡ Some mid)
  middle i was at = get_within before i (omega (arith, slice_get_within first i was at, u.count))

  middle_number : (x : ℕ) (was : D) → at_number first x ≡ Some was → (mid : D) × (at_number before x ≡ Some mid) × IsUnwritten (disk.told was) (disk.told mid)
  middle_number zero was at = absurd (cc at)
  middle_number (suc i) was at = let mid = middle i was at in (mid.0, mid.1, u.each i was mid.0 at mid.1)

  pub ready_opened : (all : Stores D disk) (states : List SetState) → AreOpened heads limit before all states → AreOpened heads limit first all states
  ready_opened all states x = record {
    count = x.count;
    count_of_states = x.count_of_states;
    each = λ i head was it state h w s t. let mid = middle i was w in opened_after (disk.told was) (disk.told mid.0) (u.each i was mid.0 w mid.1) head limit it (durable state) (x.each i head mid.0 it state h mid.1 s t);
    spare = x.spare ∙ u.spare;
    limit_is = x.limit_is;
  }

  disks_ready : (last : List D) → AreOpenedDisks disk.told heads before last → AreOpenedDisks disk.told heads first last
  disks_ready last x = record {
    count = x.count ∙ u.count;
    of_sets = λ i head was is h w e. let mid = middle i was w in disk_after (disk.told was) (disk.told mid.0) (u.each i was mid.0 w mid.1) head (disk.told is) (x.of_sets i head mid.0 is h mid.1 e);
    spare = x.spare ∙ u.spare;
  }

  pub ready_refused : (fault : OpenFault) (last : List D) → AreNotOpened disk.told heads limit before fault last → AreNotOpened disk.told heads limit first fault last
  ready_refused fault last x = record {
    disks = disks_ready last x.disks;
    refused = λ y f e. let r = x.refused y f e in record {
      within = r.within;
      known = r.known;
      refused = λ head was is h w now. let mid = middle_number y was w in not_opened_after (disk.told was) (disk.told mid.0) mid.2 head limit f (disk.told is) (r.refused head mid.0 is h mid.1 now);
      first = λ other z head was below h w tells some.
          let mid = middle_number z was w in
          let told : (disk.told mid.0).reads_as ≡ (disk.told was).reads_as = mid.2.reads tells in
          subst (λ (file : List ℕ). IsOkAnd (opened head file) (HasRoom limit)) told (r.first other z head mid.0 below h mid.1 (mid.2.keeps.reads ∙ tells) (λ none. some (sym told ∙ none)));
    };
  }

  -- a disk failed
  pub not_ready : (fault : OpenFault) → HasFailed disk.told (length heads) first before fault → AreNotOpened disk.told heads limit first fault before
  not_ready fault x = record {
    disks = record {
      count = u.count;
      of_sets = λ i head was is h w e. unwritten_disk (disk.told was) (disk.told is) (u.each i was is w e) head;
      spare = u.spare;
    };
    refused = λ y f e. let named = x.named y f e in record {
      within = (named.1, named.2);
      known = λ no. cc (named.0, no);
      refused = λ head was is h w now.
          let mid = middle_number y was w in
          let same : mid.0 ≡ is = some_is mid.0 is (sym mid.1 ∙ now) in
          disk_failed (disk.told was) (disk.told is) (subst (λ (d : D). IsUnwritten (disk.told was) (disk.told d)) same mid.2) head limit f named.0 (x.failed y f was is e w now);
      first = λ other. absurd (other named.0);
    };
  }

-- what is due then is held
pub opened_hold : {D : Type 0} {disk : Ghosts D} (heads : List Head) (limit : ℕ) (before : List D) (all : Stores D disk) (states : List SetState) → length heads ≤ length before → AreOpened heads limit before all states
    → (due : ℕ → Due) → AreDue heads states due → AllHold all due
opened_hold heads limit before all states enough x due are i it at =
    let lt : i < length heads = omega (arith, slice_get_within (stores_of all) i it at, x.count) in
    let head = get_within heads i lt in
    let was = get_within before i (omega (arith, lt, enough)) in
    let state = get_within states i (omega (arith, lt, x.count_of_states)) in
    subst (HoldsDue it) (sym (are i head.0 state.0 head.1 state.1)) (x.each i head.0 was.0 it state.0 head.1 was.1 at state.1).holds
