-- What the parts of a world are kept to.
use Rattle.std.specs.Prelude.{◌≡◌, ℕ, ◌≤◌, true, length, map, None}
use Rattle.vs_base.specs.Listed.{Listed}
use Rattle.vs_core.specs.Core as core
use Rattle.vs_disk.specs.declared.disk.Disk.{Ghosts}
use Rattle.vs_event.specs.declared.event.Event.{Event}
use Rattle.vs_machine.specs.Journals.{durable_of}
use Rattle.vs_machine.specs.State.{State, has_set, sets_of}
use Rattle.vs_store.specs.Store.{length_of}
use Rattle.vs_stores.specs.Due.{Due}
use Rattle.vs_stores.specs.Stores as stores
use Rattle.vs_stores.specs.declared.stores.Stores.{Stores}
use Rattle.vs_world.specs.Began.{begun}
use Rattle.vs_world.specs.declared.opening.Opening.{Opening}
use Rattle.vs_world.specs.Journals.{head_of}
use Rattle.vs_world.specs.Played.{Played, IsRun}
use Rattle.vs_world.specs.World.{World}

-- what the journal of set x is due to hold
abbrev pub due_of : State → ℕ → Due
due_of s x = record { head = head_of s.config x; state = durable_of s x; pending = s.pending x }

-- the cluster in the parts
abbrev pub played_in : core.Shown → Listed Event → Opening → Played
played_in c events opening = record { tables = c.state; events = events.items; opening = opening }

-- what a world of these parts shows
abbrev pub shown : {D : Type 0} {disk : Ghosts D} → core.Shown → Listed Event → Opening → Stores D disk → World D
shown c events opening all = record {
  played = played_in c events opening;
  is_reserved = c.is_reserved;
  disks = stores.disks_of all;
  lengths = map length_of (stores.stores_of all);
}

-- Each journal holds what its set is due to have. That of a set that is up is ready, and no append to one failed at whose set
-- nothing is pending.
pub record IsWhole {D : Type 0} {disk : Ghosts D} (c : core.Shown) (events : Listed Event) (opening : Opening) (all : Stores D disk) : Type 0 where
  pub run : IsRun (played_in c events opening)
  pub limit : stores.limit_of all ≡ (begun opening).limit
  pub sets : length (stores.stores_of all) ≡ sets_of (core.means c)
  pub disks : length (stores.disks_of all) ≡ 32
  pub hold : stores.AllHold all (due_of (core.means c))
  pub ready : (x : ℕ) → (core.means c).up x ≡ true → stores.IsReadyAt all x
  pub calm : (x : ℕ) → (core.means c).pending x ≡ None → stores.IsCalmAt all x
  pub faults : (x : ℕ) → has_set (core.means c) x ≡ true → (begun opening).faults x ≤ stores.faults_at all x
  -- memory for an event is memory for its place in the list, too
  pub room : c.is_reserved ≡ true → 1 ≤ events.room
