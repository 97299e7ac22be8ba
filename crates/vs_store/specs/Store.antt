-- What a store shows.
use Rattle.std.specs.Prelude.{◌≡◌, ℕ, ◌+◌}
use Rattle.vs_disk.specs.declared.disk.Disk.{Ghosts}
use Rattle.vs_disk.specs.Told.{Told}
use Rattle.vs_frame.specs.Frame as frame
use Rattle.vs_record.specs.Change.{Change}
use Rattle.vs_store.specs.Standing.{entry_len}
use Rattle.vs_store.specs.declared.store.Store.{Store}

abbrev pub disk_of : {D : Type 0} {disk : Ghosts D} → Store D disk → D
disk_of store = frame.disk_of store.frame

-- what its disk tells
abbrev pub told_of : {D : Type 0} {disk : Ghosts D} → Store D disk → Told
told_of store = frame.told_of store.frame

-- the greatest length that its journal may have
abbrev pub limit_of : {D : Type 0} {disk : Ghosts D} → Store D disk → ℕ
limit_of store = store.limit

-- the length of its journal, up to the gate that ends it and with that; a change that is pending isn't counted
abbrev pub length_of : {D : Type 0} {disk : Ghosts D} → Store D disk → ℕ
length_of store = frame.gate_of store.frame + 1

-- that with one change more
abbrev pub length_with : {D : Type 0} {disk : Ghosts D} → Store D disk → Change → ℕ
length_with store c = length_of store + entry_len c

-- it needn't be reopened
abbrev pub IsReady : {D : Type 0} {disk : Ghosts D} → Store D disk → Type 0
IsReady store = frame.IsReady store.frame

abbrev pub MustReopen : {D : Type 0} {disk : Ghosts D} → Store D disk → Type 0
MustReopen store = frame.MustReopen store.frame

-- no append failed since one that answered Ok, but for one that was forgotten
abbrev pub IsCalm : {D : Type 0} {disk : Ghosts D} → Store D disk → Type 0
IsCalm store = frame.next_of store.frame ≡ frame.last_of store.frame

-- the last reopening found the change of the append that failed, and no append has answered Ok since
abbrev pub HasFound : {D : Type 0} {disk : Ghosts D} → Store D disk → Type 0
HasFound store = frame.HasFound store.frame
