-- What the file of a set's journal is to be.
use Rattle.std.specs.Prelude.{ℕ, List, []}
use Rattle.vs_config.specs.Configuration.{Configuration}
use Rattle.vs_config.specs.declared.config.SetConfig.{SetConfig}
use Rattle.vs_disk.specs.Told.{Told, Reads, Leaves}
use Rattle.vs_frame.specs.declared.head.Head.{Head}
use Rattle.vs_machine.specs.Journals.{durable_of}
use Rattle.vs_machine.specs.State.{State}
use Rattle.vs_state.specs.Tables.{numbered}
use Rattle.vs_store.specs.Files.{StandsForSome}

-- the head of the journal of set x, but for the buckets with which it begins, which nobody looks at again
abbrev pub head_of : Configuration → ℕ → Head
head_of config x = record {
  uuid = numbered (λ (set : SetConfig). set.uuid) [] config.sets x;
  bucket_count = config.bucket_count;
  boot_first = 0;
  boot_count = 0;
}

-- The file fits set x of a state: it opens as the set's journal, and stands for what the set has, or, where a change is pending
-- there, for that with the change.
abbrev pub FitsFile : State → ℕ → List ℕ → Type 0
FitsFile s x file = StandsForSome (head_of s.config x) (durable_of s x) (s.pending x) file

-- The disk fits it: as it reads, where it tells that, and, where it is honest, in each image that a crash now may leave.
pub record FitsDisk (disk : Told) (s : State) (x : ℕ) : Type 0 where
  pub reads : Reads disk (FitsFile s x)
  pub leaves : Leaves disk (FitsFile s x)
