-- The model of a disk: what its calls do, and what a crash may leave.
--
-- Between two syncs each written range, and the part past the old end, may hold any bytes after a crash. Bytes outside
-- stay, and no image is longer than the old end or the furthest end of a written range, whichever is more. After a sync
-- that succeeds a crash leaves what a read gives. A disk as it reads is one of its images.
use Rattle.std.specs.Prelude.{◌≡◌, ◌⊎◌, ℕ, ◌+◌, ◌<◌, ◌≤◌, max, IsTrue, List, ◌++◌, length, take, drop, get_or}
use Rattle.vs_disk.specs.Told.{Told, IsOpen}

-- old with these bytes at this place
abbrev pub wrote : List ℕ → ℕ → List ℕ → List ℕ
wrote old at bytes = take at old ++ bytes ++ drop (at + length bytes) old

-- any bytes in the range of n bytes at this place and past the old end, and those outside as they were
pub record Torn (at n : ℕ) (old new : List ℕ) : Type 0 where
  pub no_shorter : length old ≤ length new
  pub no_longer : length new ≤ max (length old) (at + n)
  pub outside : (i : ℕ) → i < length old → (i < at) ⊎ (at + n ≤ i) → get_or new i 0 ≡ get_or old i 0

-- What every call leaves: an open disk open, an honest one honest and no other one, its room and its count of faults.
pub record Keeps (old new : Told) : Type 0 where
  pub stays_open : IsOpen old → IsOpen new
  pub reads : new.tells_reads ≡ old.tells_reads
  pub honest : new.is_honest ≡ old.is_honest
  pub room : old.reserved ≤ new.reserved
  pub faults : old.faults ≤ new.faults

-- What a call leaves that found no memory.
pub record IsUntouched (old new : Told) : Type 0 where
  pub is_open : new.is_open ≡ old.is_open
  pub room : new.reserved ≡ old.reserved
  pub faults : new.faults ≡ old.faults

-- Over one call, a crash from some moment on may have left what it may have left before, or what it may leave now.
pub record Elapses (old new : Told) : Type 0 where
  pub later : old.moment ≤ new.moment
  pub nothing_else : (t : ℕ) (c : List ℕ) → t ≤ old.moment → new.left_since t c → old.left_since t c ⊎ new.may_leave c
  pub keeps : (t : ℕ) (c : List ℕ) → t ≤ old.moment → old.left_since t c → new.left_since t c

-- A call that writes nothing, whether it failed or not.
pub record Rests (old new : Told) : Type 0 where
  pub reads : IsTrue old.tells_reads → new.reads_as ≡ old.reads_as
  pub crash : IsTrue old.is_honest → (c : List ℕ) → new.may_leave c → old.may_leave c
  pub time : IsTrue old.is_honest → Elapses old new

-- A write of n bytes at this place, whether it failed or not: each image is one from before it, torn in that range.
pub record Tears (at n : ℕ) (old new : Told) : Type 0 where
  pub crash : IsTrue old.is_honest → (c : List ℕ) → new.may_leave c → (d : List ℕ) × old.may_leave d × Torn at n d c
  pub time : IsTrue old.is_honest → Elapses old new

-- What the meanings of every disk have in common.
pub record IsLawful (disk : Told) : Type 0 where
  -- one that tells all tells its reads
  pub reads_too : IsTrue disk.is_honest → IsTrue disk.tells_reads
  -- as it reads, it may be left
  pub as_it_reads : IsTrue disk.is_honest → disk.may_leave disk.reads_as
  -- this moment is one of those since an earlier one
  pub counts_now : IsTrue disk.is_honest → (t : ℕ) (c : List ℕ) → t ≤ disk.moment → disk.may_leave c → disk.left_since t c
  -- since this moment there is no other
  pub only_now : IsTrue disk.is_honest → (c : List ℕ) → disk.left_since disk.moment c → disk.may_leave c

-- All that a crash at any moment from old on leaves has P.
pub record LeavesOnly (old new : Told) (P : List ℕ → Type 0) : Type 0 where
  pub later : old.moment ≤ new.moment
  pub each : (c : List ℕ) → new.left_since old.moment c → P c
  -- for a run that began earlier
  pub before : (t : ℕ) (c : List ℕ) → t ≤ old.moment → new.left_since t c → old.left_since t c ⊎ P c

-- where it is honest, all that a crash at any moment from the one to the other leaves has P
abbrev pub LeavesThrough : Told → Told → (List ℕ → Type 0) → Type 0
LeavesThrough old new P = IsTrue old.is_honest → LeavesOnly old new P
