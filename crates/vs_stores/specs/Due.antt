-- What the journal of a set is due to hold.
use Rattle.std.specs.Prelude.{Bool, if◌then◌else◌, Option, Some, None}
use Rattle.vs_disk.specs.declared.disk.Disk.{Ghosts}
use Rattle.vs_frame.specs.declared.head.Head.{Head}
use Rattle.vs_record.specs.Change.{Change}
use Rattle.vs_record.specs.Durable.{Durable, applied}
use Rattle.vs_store.specs.Files.{taken}
use Rattle.vs_store.specs.Holding.{Holds}
use Rattle.vs_store.specs.declared.store.Store.{Store}

-- The head of its journal, its entries and rows, and a change that its journal may have beside, if one is pending.
pub record Due : Type 0 where
  pub head : Head
  pub state : Durable
  pub pending : Option Change

-- a store holds that
abbrev pub HoldsDue : {D : Type 0} {disk : Ghosts D} → Store D disk → Due → Type 0
HoldsDue store o = Holds store o.head o.state o.pending

-- ---- what a call makes of it

-- the change is made
abbrev pub made : Due → Change → Due
made o c = record { head = o.head; state = applied o.state c; pending = None }

-- the change is pending
abbrev pub awaiting : Due → Change → Due
awaiting o c = record { head = o.head; state = o.state; pending = Some c }

-- nothing is pending any more: the change that was is there, or it isn't
abbrev pub decided : Due → Bool → Due
decided o kept = record { head = o.head; state = if kept then taken o.state o.pending else o.state; pending = None }
