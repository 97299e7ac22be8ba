-- What every world keeps, seen from its parts.
use Rattle.std.proofs.Common.{◌≡◌, ◌⊎◌, ℕ, zero, suc, ◌≤◌, true, List, [], ◌∷◌, map, Result, Ok, Err, IfErr, Some, refl, sym, ap, subst, ◌∙◌, arith, Option}
use Rattle.std.specs.Option.{option_map_or}
use Rattle.vs_base.specs.Listed.{Listed}
use Rattle.vs_core.specs.Core as core
use Rattle.vs_disk.specs.declared.disk.Disk.{Ghosts}
use Rattle.vs_disk.specs.Told.{Told}
use Rattle.vs_disk.specs.Model.{IsLawful, Keeps, LeavesThrough}
use Rattle.vs_event.specs.declared.event.Event.{Event}
use Rattle.vs_machine.specs.State.{has_set, sets_of}
use Rattle.vs_state.specs.Tables.{numbered}
use Rattle.vs_store.specs.Store as store
use Rattle.vs_store.specs.Store.{disk_of, told_of}
use Rattle.vs_store.specs.declared.store.Store.{Store}
use Rattle.vs_stores.specs.Numbered.{at_number}
use Rattle.vs_stores.specs.Stores.{stores_of, disks_of, store_at, HasSet, faults_at, length_at}
use Rattle.vs_stores.specs.declared.stores.Stores.{Stores}
use Rattle.vs_stores.proofs.Lists.{some_is}
use Rattle.vs_world.specs.Began.{begun}
use Rattle.vs_world.specs.declared.opening.Opening.{Opening}
use Rattle.vs_world.specs.Journals.{FitsDisk, FitsFile}
use Rattle.vs_world.specs.Played.{state_of}
use Rattle.vs_world.specs.declared.fault.StepFault.{StepFault}
use Rattle.vs_world.specs.declared.fault.StepFault.TheVariants.{NoMemory}
use Rattle.vs_world.specs.Whole.{IsWhole, shown, due_of}
use Rattle.vs_world.specs.World as world
use Rattle.vs_world.specs.World.{World, IsKept, KeepsDisks, OfDisk, disk_at}
use Rattle.vs_world.proofs.Disks.{is_set, store_of, holds_at, disk_of_store, keeps_itself, through_itself}

pub lengths_at : {D : Type 0} {disk : Ghosts D} (stores : List (Store D disk)) (x : ℕ) → numbered (λ n. n) 0 (map store.length_of stores) x ≡ option_map_or store.length_of (at_number stores x) 0
lengths_at stores zero = refl
lengths_at [] (suc zero) = refl
lengths_at [] (suc (suc i)) = refl
lengths_at (it ∷ stores) (suc zero) = refl
lengths_at (it ∷ stores) (suc (suc i)) = lengths_at stores (suc i)

module _ {D : Type 0} {disk : Ghosts D} (c : core.Shown) (events : Listed Event) (opening : Opening) (all : Stores D disk) (whole : IsWhole c events opening all) where
  pub has_store : (x : ℕ) → has_set (core.means c) x ≡ true → HasSet all x
  has_store x there = let range = is_set (sets_of (core.means c)) x there in (range.0, omega (arith, range.1, whole.sets))

  -- what is known of the store of a set is known of its disk
  pub of_store : (P : Told → Type 0) (x : ℕ) → has_set (core.means c) x ≡ true → ((it : Store D disk) → store_at all x ≡ Some it → P (told_of it)) → OfDisk (shown c events opening all) x (λ it. P (disk.told it))
  of_store P x there known d at =
      let a = store_of all x (has_store x there) in
      let d_is : disk_of a.0 ≡ d = some_is (disk_of a.0) d (sym (disk_of_store all x a.0 a.1) ∙ at) in
      subst (λ (it : D). P (disk.told it)) d_is (known a.0 a.1)

  pub told_faults : (x : ℕ) (it : Store D disk) → store_at all x ≡ Some it → faults_at all x ≡ (told_of it).faults
  told_faults x it at = ap (λ (o : Option (Store D disk)). option_map_or (λ (a : Store D disk). (told_of a).faults) o 0) at

  -- the lengths of the journals
  pub length_is : (x : ℕ) → world.length_of (shown c events opening all) x ≡ length_at all x
  length_is x = lengths_at (stores_of all) x

  pub kept : IsKept disk.told (shown c events opening all)
  kept = record {
    run = whole.run;
    disks = whole.disks;
    fits = λ x there. of_store (λ told. FitsDisk told (core.means c) x) x there
        (λ it at. let held = holds_at all (due_of (core.means c)) x it whole.hold at in record { reads = held.stands; leaves = held.leaves });
    faults = λ x there. of_store (λ told. (begun opening).faults x ≤ told.faults) x there
        (λ it at. subst (λ (n : ℕ). (begun opening).faults x ≤ n) (told_faults x it at) (whole.faults x there));
  }

-- where the disks are the same, an event did nothing to them
module _ {D : Type 0} (told : D → Told) (laws : (d : D) → IsLawful (told d)) (old new : World D) where
  same_at : (P : Told → Told → Type 0) (x : ℕ) → new.disks ≡ old.disks → ((d : D) → disk_at old x ≡ Some d → P (told d) (told d))
      → (was is : D) → disk_at old x ≡ Some was → disk_at new x ≡ Some is → P (told was) (told is)
  same_at P x same here was is before after =
      let one : was ≡ is = some_is was is (sym before ∙ ap (λ disks. at_number disks x) (sym same) ∙ after) in
      subst (λ (d : D). P (told was) (told d)) one (here was before)

  pub same_disks : IsKept told old → new.disks ≡ old.disks → (e : Event) → KeepsDisks told old new e
  same_disks kept same e = record {
    untouched = λ x leaves. ap (λ disks. at_number disks x) same;
    keeps = λ x. same_at Keeps x same (λ d at. keeps_itself (told d));
    any_moment = λ x there. same_at (λ was is. LeavesThrough was is (λ file. FitsFile (state_of old.played) x file ⊎ FitsFile (state_of new.played) x file)) x same
        (λ d at. through_itself (told d) (FitsFile (state_of old.played) x) (FitsFile (state_of new.played) x) (laws d) (kept.fits x there d at).leaves);
  }

-- the fault that a `?` makes of want of memory
pub no_memory : {X : Type 0} (r : Result X StepFault) (Cause : StepFault → Type 0) → r ≡ Err NoMemory → Cause NoMemory → IfErr r Cause
no_memory (Ok x) Cause is cause = tt
no_memory {X = X} (Err f) Cause is cause = subst Cause (sym (fault_is f NoMemory is)) cause
  where
    fault_is : (f h : StepFault) → ◌≡◌ {A = Result X StepFault} (Err f) (Err h) → f ≡ h
    fault_is f h is = cc

-- the room of the list isn't shown
pub shown_listed : {D : Type 0} {disk : Ghosts D} (c : core.Shown) (events events' : Listed Event) (opening : Opening) (all : Stores D disk) → events'.items ≡ events.items → shown c events' opening all ≡ shown c events opening all
shown_listed c events events' opening all same = λ i. record {
  played = record { tables = c.state; events = same i; opening = opening };
  is_reserved = c.is_reserved;
  disks = disks_of all;
  lengths = map store.length_of (stores_of all);
}
