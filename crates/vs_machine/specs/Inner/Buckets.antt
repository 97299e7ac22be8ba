-- What holds of one bucket.
use Rattle.std.specs.Prelude.{◌≡◌, ◌≢◌, ℕ, ◌+◌, ◌≤◌, Option, Some, slice_get}
use Rattle.vs_rows.specs.RowMap.{RowMap}
use Rattle.vs_rows.specs.Operations.{answers_to}
use Rattle.vs_space.specs.declared.status.Status.{Status}
use Rattle.vs_history.specs.History.{Entry, History, rows_at, rows_now, write_count}
use Rattle.vs_send.specs.declared.transfer.Transfer.{Transfer}
use Rattle.vs_machine.specs.State.{Bucket}
use Rattle.vs_machine.specs.Inner.Owner.{IsPlaced, AreNamed, AreRows}
use Rattle.vs_machine.specs.Inner.Phases.{PhaseFits}
use Rattle.vs_machine.specs.Inner.Copying.{CopyFits}

-- in a cluster of n sets
pub record TransferFits (n : ℕ) (has : ℕ → Option Status) (rows : ℕ → RowMap) (x : ℕ) (t : Transfer) : Type 0 where
  pub apart : t.dest ≢ x
  pub within : (1 ≤ t.dest) × (t.dest ≤ n)
  pub phase : PhaseFits t.dest (has x) t.phase
  pub copy : CopyFits has rows x t.dest t.phase

-- the entries of a history have their places, and the answers of the rows there
pub record IsReplayed (h : History) : Type 0 where
  pub writes_placed : (n : ℕ) (e : Entry) → slice_get h.writes n ≡ Some e → e.place ≡ n + 1
  pub writes_answered : (n : ℕ) (e : Entry) → slice_get h.writes n ≡ Some e → e.answers ≡ answers_to (rows_at h n) e.ops
  pub reads_placed : (n : ℕ) (e : Entry) → slice_get h.reads n ≡ Some e → e.place ≤ write_count h
  pub reads_answered : (n : ℕ) (e : Entry) → slice_get h.reads n ≡ Some e → e.answers ≡ answers_to (rows_at h e.place) e.ops

-- in a cluster of n sets, where o owns the bucket
pub record BucketFits (n o : ℕ) (b : Bucket) : Type 0 where
  pub placed : IsPlaced o b.entry
  pub named : AreNamed n b.entry
  pub stored : AreRows b.entry b.rows
  pub owned : b.rows o ≡ rows_now b.history
  pub transfers : (x : ℕ) (t : Transfer) → b.transfer x ≡ Some t → TransferFits n b.entry b.rows x t
  pub replayed : IsReplayed b.history
