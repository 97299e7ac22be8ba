-- What a set has of one bucket, in its tables and in the machine.
use Rattle.std.specs.Prelude.{◌≡◌, ◌≢◌, ℕ, ◌+◌, ◌==◌, if◌then◌else◌, Option}
use Rattle.vs_refs.specs.Refs.{counts_of}
use Rattle.vs_rows.specs.RowMap.{RowMap}
use Rattle.vs_space.specs.declared.status.Status.{Status}
use Rattle.vs_send.specs.declared.transfer.Transfer.{Transfer}
use Rattle.vs_record.specs.RowTable.{row_map_at}
use Rattle.vs_machine.specs.State as machine
use Rattle.vs_machine.specs.Tables.{put}
use Rattle.vs_machine.specs.Kinds.Collection.{is_garbage}
use Rattle.vs_machine.specs.Kinds.Rebalancing.{is_haul}
use Rattle.vs_state.specs.declared.tables.SetTables.{SetTables}
use Rattle.vs_state.specs.Plain.{entry_in, kept_in, transfer_in, ask_in}

pub record Cell : Type 0 where
  pub entry : Option Status
  pub rows : RowMap
  pub kept : ℕ
  pub transfer : Option Transfer
  pub ask : Option machine.Ask

-- in the tables of a set
abbrev pub cell : SetTables → ℕ → Cell
cell t b = record { entry = entry_in t b; rows = row_map_at t.rows b; kept = kept_in t b; transfer = transfer_in t b; ask = ask_in t b }

-- at set x of the machine
abbrev pub cell_at : machine.Bucket → ℕ → Cell
cell_at b x = record { entry = b.entry x; rows = b.rows x; kept = b.kept x; transfer = b.transfer x; ask = b.ask x }

abbrev pub with_cell : machine.Bucket → ℕ → Cell → machine.Bucket
with_cell b x v = record b {
  entry = put b.entry x v.entry;
  rows = put b.rows x v.rows;
  kept = put b.kept x v.kept;
  transfer = put b.transfer x v.transfer;
  ask = put b.ask x v.ask;
}

-- the tables have this of the bucket now, and else what they had, but for the references
pub record HasCell (old new : SetTables) (b : ℕ) (v : Cell) : Type 0 where
  pub here : cell new b ≡ v
  pub others : (q : ℕ) → q ≢ b → cell new q ≡ cell old q
  pub up : new.is_up ≡ old.is_up
  pub pending : new.pending ≡ old.pending
  pub last_fault : new.last_fault ≡ old.last_fault

-- and the references are as they were
pub record SameRefs (old new : SetTables) : Type 0 where
  pub refs : new.refs ≡ old.refs
  pub hauls : new.hauls ≡ old.hauls

-- the references are as they were, but that they follow the bucket's transfer: writes are locked while it drains, and it is
-- counted where it is a haul
pub record FollowTransfer (old new : SetTables) (b : ℕ) : Type 0 where
  pub locks : (q : ℕ) → counts_of new.refs.items q ≡ (if q == b then record (counts_of old.refs.items q) { rw_lock = machine.is_draining (transfer_in new q) } else counts_of old.refs.items q)
  pub hauls : new.hauls + (if is_haul (transfer_in old b) then 1 else 0) ≡ old.hauls + (if is_haul (transfer_in new b) then 1 else 0)

-- the references are as they were, but that they follow the bucket's entry: reads are locked while it is garbage
pub record FollowEntry (old new : SetTables) (b : ℕ) : Type 0 where
  pub locks : (q : ℕ) → counts_of new.refs.items q ≡ (if q == b then record (counts_of old.refs.items q) { ro_lock = is_garbage (entry_in new q) } else counts_of old.refs.items q)
  pub hauls : new.hauls ≡ old.hauls

-- the tables have what they had, with whatever room
pub record SameTables (old new : SetTables) : Type 0 where
  pub cells : (q : ℕ) → cell new q ≡ cell old q
  pub counts : (q : ℕ) → counts_of new.refs.items q ≡ counts_of old.refs.items q
  pub hauls : new.hauls ≡ old.hauls
  pub up : new.is_up ≡ old.is_up
  pub pending : new.pending ≡ old.pending
  pub last_fault : new.last_fault ≡ old.last_fault
