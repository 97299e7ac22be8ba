-- What a frame shows.
use Rattle.std.specs.Prelude.{◌≡◌, ℕ, IsTrue, false}
use Rattle.vs_disk.specs.declared.disk.Disk.{Ghosts}
use Rattle.vs_disk.specs.Told.{Told}
use Rattle.vs_frame.specs.declared.frame.Frame.{Frame}
use Rattle.vs_frame.specs.Journal.{Journal}

abbrev pub disk_of : {D : Type 0} {disk : Ghosts D} → Frame D disk → D
disk_of frame = frame.disk

-- what its disk tells
abbrev pub told_of : {D : Type 0} {disk : Ghosts D} → Frame D disk → Told
told_of {D} {disk} frame = disk.told frame.disk

-- the version of its journal, 1 or 2
abbrev pub version_of : {D : Type 0} {disk : Ghosts D} → Frame D disk → ℕ
version_of frame = frame.version

-- the place of its closed gate
abbrev pub gate_of : {D : Type 0} {disk : Ghosts D} → Frame D disk → ℕ
gate_of frame = frame.gate

-- the gate of an append that failed, since one that answered Ok
abbrev pub last_of : {D : Type 0} {disk : Ghosts D} → Frame D disk → ℕ
last_of frame = frame.last

-- The place behind the entry of that append. It is that gate itself where none failed, and where a reopening found that
-- gate closed.
abbrev pub next_of : {D : Type 0} {disk : Ghosts D} → Frame D disk → ℕ
next_of frame = frame.next

-- it needn't be reopened
abbrev pub IsReady : {D : Type 0} {disk : Ghosts D} → Frame D disk → Type 0
IsReady frame = frame.must_reopen ≡ false

-- it must be reopened
abbrev pub MustReopen : {D : Type 0} {disk : Ghosts D} → Frame D disk → Type 0
MustReopen frame = IsTrue frame.must_reopen

-- the last reopening found the entry of the append that failed, and no append has answered Ok since
abbrev pub HasFound : {D : Type 0} {disk : Ghosts D} → Frame D disk → Type 0
HasFound frame = IsTrue frame.is_found

-- the last gate of this journal is its closed gate, and they are of one version
pub record IsAtEndOf {D : Type 0} {disk : Ghosts D} (frame : Frame D disk) (j : Journal) : Type 0 where
  pub gate : j.gate ≡ frame.gate
  pub version : j.version ≡ frame.version

-- what a call leaves of a frame that changes none of these
pub record IsSame {D : Type 0} {disk : Ghosts D} (old new : Frame D disk) : Type 0 where
  pub gate : new.gate ≡ old.gate
  pub last : new.last ≡ old.last
  pub next : new.next ≡ old.next
  pub found : new.is_found ≡ old.is_found
  pub ready : new.must_reopen ≡ old.must_reopen
  pub version : new.version ≡ old.version
