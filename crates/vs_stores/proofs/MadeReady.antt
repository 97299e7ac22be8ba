-- Disks that are made ready, one after the other.
use Rattle.std.proofs.Common.{◌≡◌, ◌≢◌, ◌↔◌, ⊎_elim, ℕ, ◌<◌, ◌≤◌, ◌+◌, Bool, true, false, ◌&&◌, IsTrue, List, [], length, Some, refl, sym, ap, subst, ◌∙◌, arith}
use Rattle.std.specs.Prelude.{slice_get, slice_set}
use Rattle.std.proofs.lemmas.List.{length-set}
use Rattle.std.proofs.lemmas.Bool.{cases_eq, false≢true}
use Rattle.vs_disk.specs.Told.{Told, IsOpen, Reads, Failed}
use Rattle.vs_frame.specs.Unwritten.{IsUnwritten}
use Rattle.vs_store.specs.declared.fault.StoreFault.TheVariants.{DiskFault}
use Rattle.vs_stores.specs.OpenedStores.{AreReady, AreEmpty, AreUnwritten, HasFailed}
use Rattle.vs_stores.specs.declared.fault.OpenFault.TheVariants.{OfSet}
use Rattle.vs_stores.proofs.Lists.{some_is, set_is, set_same, set_other, set_drop, drop_get, drop_more, number_is}

module _ {D : Type 0} (told : D → Told) where
  -- more of them may have been touched
  pub unwritten_more : (k n : ℕ) (before after : List D) → k ≤ n → AreUnwritten told k before after → AreUnwritten told n before after
  unwritten_more k n before after le u = record { count = u.count; each = u.each; spare = drop_more after before k n le u.spare }

  module _ (i : ℕ) (before after : List D) (was is : D) (at : slice_get after i ≡ Some was) (u : AreUnwritten told i before after) where
    -- it is as it was at first
    untouched : slice_get before i ≡ Some was
    untouched = ap (slice_get before) (omega arith) ∙ sym (drop_get before i 0) ∙ sym (ap (λ (l : List D). slice_get l 0) u.spare) ∙ drop_get after i 0 ∙ ap (slice_get after) (omega arith) ∙ at

    pub unwritten_next : IsUnwritten (told was) (told is) → AreUnwritten told (i + 1) before (slice_set after i is)
    unwritten_next one = record {
      count = length-set after i is ∙ u.count;
      each = λ j a b w e. ⊎_elim (same j a b w e) (λ ne. u.each j a b w (sym (set_other after i j is ne) ∙ e)) (cases_eq j i);
      spare = set_drop after i (i + 1) is (omega arith) ∙ drop_more after before i (i + 1) (omega arith) u.spare;
    }
      where
        same : (j : ℕ) (a b : D) → slice_get before j ≡ Some a → slice_get (slice_set after i is) j ≡ Some b → j ≡ i → IsUnwritten (told a) (told b)
        same j a b w e eq =
            let b_is : is ≡ b = set_is after i is b (subst (λ (k : ℕ). slice_get (slice_set after i is) k ≡ Some b) eq e) in
            let a_is : was ≡ a = some_is was a (sym untouched ∙ ap (slice_get before) (sym eq) ∙ w) in
            subst (λ (d : D). IsUnwritten (told d) (told b)) a_is (subst (λ (d : D). IsUnwritten (told was) (told d)) b_is one)

    pub ready_next : AreReady told i after → IsOpen (told is) → AreReady told (i + 1) (slice_set after i is)
    ready_next ready one j it below e = ⊎_elim same (λ ne. ready j it (omega (arith, below, ne)) (sym (set_other after i j is ne) ∙ e)) (cases_eq j i)
      where
        same : j ≡ i → IsOpen (told it)
        same eq = subst (λ (d : D). IsOpen (told d)) (set_is after i is it (subst (λ (k : ℕ). slice_get (slice_set after i is) k ≡ Some it) eq e)) one

    -- this one has no bytes, or it does
    pub empty_next : (before_all here : Bool) → i < length after → AreEmpty told i after before_all → Reads (told is) (λ file. IsTrue here ↔ (file ≡ [])) → AreEmpty told (i + 1) (slice_set after i is) (before_all && here)
    empty_next true true lt all one = each
      where
        same : (j : ℕ) (it : D) → slice_get (slice_set after i is) j ≡ Some it → j ≡ i → Reads (told it) (λ file. file ≡ [])
        same j it e eq = subst (λ (d : D). Reads (told d) (λ file. file ≡ [])) (set_is after i is it (subst (λ (k : ℕ). slice_get (slice_set after i is) k ≡ Some it) eq e)) (λ tells. (one tells).0 refl)

        each : (j : ℕ) (it : D) → j < i + 1 → slice_get (slice_set after i is) j ≡ Some it → Reads (told it) (λ file. file ≡ [])
        each j it below e = ⊎_elim (same j it e) (λ ne. all j it (omega (arith, below, ne)) (sym (set_other after i j is ne) ∙ e)) (cases_eq j i)
    empty_next true false lt all one = record { place = i; it = is; within = omega arith; here = set_same after i is lt; some = λ tells none. absurd (false≢true ((one tells).1 none)) }
    empty_next false here lt all one = record {
      place = all.place;
      it = all.it;
      within = omega (arith, all.within);
      here = set_other after i all.place is (omega (arith, all.within)) ∙ all.here;
      some = all.some;
    }

    -- it failed
    pub has_failed : (sets x : ℕ) → x ≡ i + 1 → i < sets → Failed (told was) (told is) → HasFailed told sets before (slice_set after i is) (OfSet x DiskFault)
    has_failed sets x x_is lt failed = record {
      named = λ y f e. let y_is : x ≡ y = cc e in let f_is : DiskFault ≡ f = cc e in (sym f_is, omega (arith, y_is, x_is), omega (arith, y_is, x_is, lt));
      failed = λ y f a b e w now.
          let y_is : y ≡ i + 1 = (let same : x ≡ y = cc e in sym same) ∙ x_is in
          let a_is : was ≡ a = some_is was a (sym untouched ∙ number_is before y i a y_is w) in
          let b_is : is ≡ b = set_is after i is b (number_is (slice_set after i is) y i b y_is now) in
          subst (λ (d : D). Failed (told d) (told b)) a_is (subst (λ (d : D). Failed (told was) (told d)) b_is failed);
    }
