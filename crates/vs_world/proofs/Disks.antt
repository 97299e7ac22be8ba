-- The disk of a set is that of its store, and what a call of one store leaves of all disks.
use Rattle.std.proofs.Common.{◌≡◌, ◌≢◌, ◌⊎◌, inl, ⊎_elim, ℕ, zero, suc, ◌≤◌, true, List, [], ◌∷◌, ◌++◌, length, map, Some, refl, sym, ap, subst, ◌∙◌, arith, length-append}
use Rattle.std.specs.Prelude.{slice_get}
use Rattle.std.proofs.lemmas.Bool.{cases_eq}
use Rattle.std.proofs.lemmas.Bool.Decides.{nat_tests}
use Rattle.std.proofs.lemmas.List.{length-map}
use Rattle.vs_disk.specs.declared.disk.Disk.{Ghosts}
use Rattle.vs_disk.specs.Told.{Told, Leaves}
use Rattle.vs_disk.specs.Model.{Keeps, IsLawful, LeavesThrough}
use Rattle.vs_disk.proofs.Runs.{started}
use Rattle.vs_base.specs.Listed.{Listed}
use Rattle.vs_core.specs.Core as core
use Rattle.vs_event.specs.declared.event.Event.{Event}
use Rattle.vs_machine.specs.Journals.{LeavesSet}
use Rattle.vs_machine.specs.State.{has_set, sets_of}
use Rattle.vs_machine.specs.Tables.{is_to}
use Rattle.vs_store.specs.Store.{disk_of, told_of}
use Rattle.vs_store.specs.declared.store.Store.{Store}
use Rattle.vs_stores.specs.Due.{Due, HoldsDue}
use Rattle.vs_stores.specs.Numbered.{at_number}
use Rattle.vs_stores.specs.Stores.{stores_of, spare_of, disks_of, store_at, HasSet, AllHold, KeepsOthers, OfBoth}
use Rattle.vs_stores.specs.declared.stores.Stores.{Stores}
use Rattle.vs_stores.proofs.Lists.{some_is, get_within}
use Rattle.vs_world.specs.declared.opening.Opening.{Opening}
use Rattle.vs_world.specs.Journals.{FitsFile}
use Rattle.vs_world.specs.Whole.{IsWhole, due_of, shown}
use Rattle.vs_world.specs.World.{KeepsDisks}

-- ---- two lists, one behind the other

mapped_same : {A B : Type 0} (f : A → B) (xs ys : List A) (rest : List B) (i : ℕ) → length ys ≡ length xs → slice_get ys i ≡ slice_get xs i → slice_get (map f ys ++ rest) i ≡ slice_get (map f xs ++ rest) i
mapped_same f [] [] rest i count same = refl
mapped_same f [] (y ∷ ys) rest i count same = absurd (omega (arith, count))
mapped_same f (x ∷ xs) [] rest i count same = absurd (omega (arith, count))
mapped_same {A = A} {B = B} f (x ∷ xs) (y ∷ ys) rest zero count same = let e : ◌≡◌ {A = B} (f y) (f x) = ap f (some_is y x same) in ap Some e
mapped_same f (x ∷ xs) (y ∷ ys) rest (suc i) count same = mapped_same f xs ys rest i (omega (arith, count)) same

mapped_at : {A B : Type 0} (f : A → B) (xs : List A) (rest : List B) (i : ℕ) (a : A) → slice_get xs i ≡ Some a → slice_get (map f xs ++ rest) i ≡ Some (f a)
mapped_at f [] rest zero a is = absurd cc
mapped_at f [] rest (suc i) a is = absurd cc
mapped_at f (x ∷ xs) rest zero a is = ap (λ it. Some (f it)) (some_is x a is)
mapped_at f (x ∷ xs) rest (suc i) a is = mapped_at f xs rest i a is

-- ---- the store of a set

pub is_set : (n x : ℕ) → is_to n x ≡ true → (1 ≤ x) × (x ≤ n)
is_set n x there = (grind (arith, nat_tests, there), grind (arith, nat_tests, there))

module _ {D : Type 0} {disk : Ghosts D} where
  pub store_of : (all : Stores D disk) (x : ℕ) → HasSet all x → (it : Store D disk) × (store_at all x ≡ Some it)
  store_of all zero has = absurd (omega (arith, has.0))
  store_of all (suc i) has = get_within (stores_of all) i (omega (arith, has.1))

  pub holds_at : (all : Stores D disk) (due : ℕ → Due) (x : ℕ) (it : Store D disk) → AllHold all due → store_at all x ≡ Some it → HoldsDue it (due x)
  holds_at all due zero it hold at = absurd cc
  holds_at all due (suc i) it hold at = hold i it at

  pub disk_of_store : (all : Stores D disk) (x : ℕ) (it : Store D disk) → store_at all x ≡ Some it → at_number (disks_of all) x ≡ Some (disk_of it)
  disk_of_store all zero it at = absurd cc
  disk_of_store all (suc i) it at = mapped_at disk_of (stores_of all) (spare_of all) i it at

  -- ---- after a call of the store of set x
  module _ (old new : Stores D disk) (x : ℕ) (kept : KeepsOthers old new x) where
    pub disk_count : length (disks_of new) ≡ length (disks_of old)
    disk_count = omega (
      arith,
      length-append (map disk_of (stores_of new)) (spare_of new),
      length-append (map disk_of (stores_of old)) (spare_of old),
      length-map (stores_of new) (disk_of {D = D} {disk = disk}),
      length-map (stores_of old) (disk_of {D = D} {disk = disk}),
      kept.count,
      ap length kept.spare,
    )

    pub disk_untouched : (y : ℕ) → y ≢ x → at_number (disks_of new) y ≡ at_number (disks_of old) y
    disk_untouched zero ne = refl
    disk_untouched (suc i) ne =
        ap (λ (rest : List D). slice_get (map disk_of (stores_of new) ++ rest) i) kept.spare
        ∙ mapped_same disk_of (stores_of old) (stores_of new) (spare_of old) i kept.count (kept.others (suc i) ne)

    pub has_new : HasSet old x → HasSet new x
    has_new has = (has.0, omega (arith, has.1, kept.count))

    -- what is said of both stores is said of both disks
    pub of_disks : (P : Told → Told → Type 0) → HasSet old x → OfBoth old new x (λ a b. P (told_of a) (told_of b))
        → (was is : D) → at_number (disks_of old) x ≡ Some was → at_number (disks_of new) x ≡ Some is → P (disk.told was) (disk.told is)
    of_disks P has both was is before after =
        let a = store_of old x has in
        let b = store_of new x (has_new has) in
        let a_is : disk_of a.0 ≡ was = some_is (disk_of a.0) was (sym (disk_of_store old x a.0 a.1) ∙ before) in
        let b_is : disk_of b.0 ≡ is = some_is (disk_of b.0) is (sym (disk_of_store new x b.0 b.1) ∙ after) in
        subst (λ (d : D). P (disk.told d) (disk.told is)) a_is (subst (λ (d : D). P (told_of a.0) (disk.told d)) b_is (both a.0 b.0 a.1 b.1))

    -- that of another set is the same
    pub of_same : (P : Told → Told → Type 0) (y : ℕ) → y ≢ x → ((d : D) → at_number (disks_of old) y ≡ Some d → P (disk.told d) (disk.told d))
        → (was is : D) → at_number (disks_of old) y ≡ Some was → at_number (disks_of new) y ≡ Some is → P (disk.told was) (disk.told is)
    of_same P y ne here was is before after =
        let same : was ≡ is = some_is was is (sym before ∙ sym (disk_untouched y ne) ∙ after) in
        subst (λ (d : D). P (disk.told was) (disk.told d)) same (here was before)

-- ---- nothing happens to a disk

pub keeps_itself : (disk : Told) → Keeps disk disk
keeps_itself disk = record { stays_open = λ h. h; reads = refl; honest = refl; room = omega arith; faults = omega arith }

pub through_itself : (disk : Told) (P Q : List ℕ → Type 0) → IsLawful disk → Leaves disk P → LeavesThrough disk disk (λ file. P file ⊎ Q file)
through_itself disk P Q laws leaves honest = started disk (λ file. P file ⊎ Q file) (λ c left. inl (leaves honest c (laws.only_now honest c left)))

-- ---- what a call for an event leaves of the disks of a world

module _ {D : Type 0} {disk : Ghosts D} (laws : (d : D) → IsLawful (disk.told d)) (c c' : core.Shown) (events events' : Listed Event) (opening : Opening) (old new : Stores D disk) (x : ℕ) where
  pub keeps_disks : IsWhole c events opening old → HasSet old x → KeepsOthers old new x
      → OfBoth old new x (λ a b. LeavesThrough (told_of a) (told_of b) (λ file. FitsFile (core.means c) x file ⊎ FitsFile (core.means c') x file))
      → (e : Event) → ((y : ℕ) → LeavesSet (core.means c) e y → y ≢ x)
      → KeepsDisks disk.told (shown c events opening old) (shown c' events' opening new) e
  keeps_disks whole has kept through e away = record {
    untouched = λ y leaves. disk_untouched old new x kept y (away y leaves);
    keeps = λ y. ⊎_elim keeps_here (λ ne. of_same old new x kept Keeps y ne (λ d at. keeps_itself (disk.told d))) (cases_eq y x);
    any_moment = λ y there. ⊎_elim (safe_here) (λ ne. of_same old new x kept (Through y) y ne (itself y there)) (cases_eq y x);
  }
    where
      Through : ℕ → Told → Told → Type 0
      Through y was is = LeavesThrough was is (λ file. FitsFile (core.means c) y file ⊎ FitsFile (core.means c') y file)

      KeepsAt : ℕ → Type 0
      KeepsAt y = (was is : D) → at_number (disks_of old) y ≡ Some was → at_number (disks_of new) y ≡ Some is → Keeps (disk.told was) (disk.told is)

      keeps_here : {y : ℕ} → y ≡ x → KeepsAt y
      keeps_here e = subst KeepsAt (sym e) (of_disks old new x kept Keeps has kept.keeps)

      SafeAt : ℕ → Type 0
      SafeAt y = (was is : D) → at_number (disks_of old) y ≡ Some was → at_number (disks_of new) y ≡ Some is → Through y (disk.told was) (disk.told is)

      safe_here : {y : ℕ} → y ≡ x → SafeAt y
      safe_here e = subst SafeAt (sym e) (of_disks old new x kept (Through x) has through)

      itself : (y : ℕ) → has_set (core.means c) y ≡ true → (d : D) → at_number (disks_of old) y ≡ Some d → Through y (disk.told d) (disk.told d)
      itself y there d at =
          let range = is_set (sets_of (core.means c)) y there in
          let a = store_of old y (range.0, omega (arith, range.1, whole.sets)) in
          let d_is : disk_of a.0 ≡ d = some_is (disk_of a.0) d (sym (disk_of_store old y a.0 a.1) ∙ at) in
          let held = holds_at old (due_of (core.means c)) y a.0 whole.hold a.1 in
          subst (λ (it : D). Through y (disk.told it) (disk.told it)) d_is
          (through_itself (told_of a.0) (FitsFile (core.means c) y) (FitsFile (core.means c') y) (laws (disk_of a.0)) held.leaves)
