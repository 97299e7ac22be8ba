-- What a world shows.
use Rattle.std.specs.Prelude.{◌≡◌, ◌⊎◌, ℕ, ◌+◌, ◌≤◌, true, Bool, List, length, Option, Some, IsOkAnd}
use Rattle.vs_disk.specs.Told.{Told, Reads}
use Rattle.vs_disk.specs.Model.{Keeps, LeavesThrough}
use Rattle.vs_event.specs.declared.event.Event.{Event}
use Rattle.vs_machine.specs.Journals.{LeavesSet}
use Rattle.vs_machine.specs.State.{has_set}
use Rattle.vs_store.specs.Standing.{opened}
use Rattle.vs_stores.specs.Numbered.{at_number}
use Rattle.vs_state.specs.Tables.{numbered}
use Rattle.vs_world.specs.Journals.{head_of, FitsFile, FitsDisk}
use Rattle.vs_world.specs.Played.{Played, state_of, began, IsRun}

-- The cluster with its events, whether memory is taken for any event of the kinds Begin, End, Take, Abort and Close, the 32 disks,
-- those of the sets first, and of each set the length of its journal, a change that is pending left out.
pub record World (D : Type 0) : Type 0 where
  pub played : Played
  pub is_reserved : Bool
  pub disks : List D
  pub lengths : List ℕ

-- the length of the journal of set x
abbrev pub length_of : {D : Type 0} → World D → ℕ → ℕ
length_of w x = numbered (λ n. n) 0 w.lengths x

abbrev pub disk_at : {D : Type 0} → World D → ℕ → Option D
disk_at w x = at_number w.disks x

-- of the disk of this number
abbrev pub OfDisk : {D : Type 0} → World D → ℕ → (D → Type 0) → Type 0
OfDisk {D} w x P = (it : D) → disk_at w x ≡ Some it → P it

-- of it before a call and after it
abbrev pub OfDisks : {D : Type 0} → World D → World D → ℕ → (D → D → Type 0) → Type 0
OfDisks {D} old new x P = (was is : D) → disk_at old x ≡ Some was → disk_at new x ≡ Some is → P was is

-- What every world keeps. Its state is the run of its events from what it began with, and is coherent; each disk of a set fits
-- it, and failed no less often than at the beginning.
pub record IsKept {D : Type 0} (told : D → Told) (w : World D) : Type 0 where
  pub run : IsRun w.played
  pub disks : length w.disks ≡ 32
  pub fits : (x : ℕ) → has_set (state_of w.played) x ≡ true → OfDisk w x (λ it. FitsDisk (told it) (state_of w.played) x)
  pub faults : (x : ℕ) → has_set (state_of w.played) x ≡ true → OfDisk w x (λ it. (began w.played).faults x ≤ (told it).faults)

-- the length of the journal of set x is that of the journal that its disk reads as
abbrev pub IsLengthAt : {D : Type 0} → (D → Told) → World D → ℕ → Type 0
IsLengthAt told w x = OfDisk w x (λ it. Reads (told it) (λ file. IsOkAnd (opened (head_of (state_of w.played).config x) file) (λ s. s.journal.gate + 1 ≡ length_of w x)))

-- At every moment from the one to the other, whatever disk a crash then leaves, it fits its set in the state before or in the
-- state after.
abbrev pub IsSafeThrough : {D : Type 0} → (D → Told) → World D → World D → Type 0
IsSafeThrough told old new = (x : ℕ) → has_set (state_of old.played) x ≡ true
    → OfDisks old new x (λ was is. LeavesThrough (told was) (told is) (λ file. FitsFile (state_of old.played) x file ⊎ FitsFile (state_of new.played) x file))

-- What a call for this event does to the disks: only that of the set at which the event records, or which it restarts, is touched.
pub record KeepsDisks {D : Type 0} (told : D → Told) (old new : World D) (e : Event) : Type 0 where
  pub untouched : (x : ℕ) → LeavesSet (state_of old.played) e x → disk_at new x ≡ disk_at old x
  pub keeps : (x : ℕ) → OfDisks old new x (λ was is. Keeps (told was) (told is))
  pub any_moment : IsSafeThrough told old new
