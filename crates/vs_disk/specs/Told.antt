-- What a disk tells, and words for it.
use Rattle.std.specs.Prelude.{◌≡◌, ℕ, Bool, IsTrue, List}
use Rattle.vs_base.specs.Faults.{Rose}

-- The meanings of a disk. A disk that doesn't tell one may give any value for it.
pub record Told : Type 1 where
  -- whether it is open, which every disk tells
  pub is_open : Bool
  -- whether it tells what a read gives, by the model
  pub tells_reads : Bool
  -- whether it is honest: it tells all of these, by the model
  pub is_honest : Bool
  -- what a read gives: no bytes where nothing was there
  pub reads_as : List ℕ
  -- what a crash now may leave
  pub may_leave : List ℕ → Type 0
  -- the present moment, a number that doesn't fall
  pub moment : ℕ
  -- what a crash at some moment from that one on may have left, within a call or between two
  pub left_since : ℕ → List ℕ → Type 0
  -- the reserved length: a write ends there at most
  pub reserved : ℕ
  -- the count of faults
  pub faults : ℕ

-- it is open
abbrev pub IsOpen : Told → Type 0
IsOpen disk = IsTrue disk.is_open

-- its count of faults has risen
abbrev pub Failed : Told → Told → Type 0
Failed old new = Rose old.faults new.faults

-- where it tells what a read gives, that has P
abbrev pub Reads : Told → (List ℕ → Type 0) → Type 0
Reads disk P = IsTrue disk.tells_reads → P disk.reads_as

-- where it is honest, all that a crash now may leave has P
abbrev pub Leaves : Told → (List ℕ → Type 0) → Type 0
Leaves disk P = IsTrue disk.is_honest → (c : List ℕ) → disk.may_leave c → P c

-- where it is honest, a crash now leaves what a read gives
abbrev pub IsSynced : Told → Type 0
IsSynced disk = Leaves disk (λ c. c ≡ disk.reads_as)
