-- Collection: a set that has sent a bucket deletes what it still has of it, by the rules of vs_collect.
use Rattle.std.specs.Prelude.{ℕ, ◌&&◌, Bool, true, false, drop, length, Option, Some, None, is_some, Result, Ok, Err}
use Rattle.vs_base.specs.declared.numbers.Mode.TheVariants.{Ro}
use Rattle.vs_space.specs.declared.status.Status.{Status}
use Rattle.vs_space.specs.declared.status.Status.TheVariants.{Sent, Garbage}
use Rattle.vs_event.specs.declared.reason.Reason.{Reason}
use Rattle.vs_event.specs.declared.reason.Reason.TheVariants as reason
use Rattle.vs_collect.specs.Collect.{condemned, wiped, forgotten}
use Rattle.vs_collect.specs.declared.unmet.Unmet.{Unmet}
use Rattle.vs_collect.specs.declared.unmet.Unmet.TheVariants as unmet
use Rattle.vs_machine.specs.Check.{◌>>◌, needs}
use Rattle.vs_machine.specs.State.{State, has_set, has_bucket, references, put_bucket, with_entry, put_rows}

abbrev pub is_sent : Option Status → Bool
is_sent (Some (Sent d)) = true
is_sent entry = false

abbrev pub is_garbage : Option Status → Bool
is_garbage (Some Garbage) = true
is_garbage entry = false

-- each cause is the reason of its name
abbrev pub reason_of : Unmet → Reason
reason_of (unmet.Unfit entry) = reason.Unfit entry
reason_of unmet.Live = reason.Live
reason_of (unmet.Referenced reads) = reason.Referenced reads
reason_of unmet.NoRows = reason.NoRows
reason_of (unmet.Rows rows) = reason.Rows rows

abbrev pub allowed : {A : Type 0} → Result A Unmet → Result A Reason
allowed (Ok given) = Ok given
allowed (Err cause) = Err (reason_of cause)

abbrev pub condemn : State → ℕ → ℕ → Result State Reason
condemn s x b = do
  needs (has_set s x && has_bucket s b) reason.Unknown
  needs (s.up x) (reason.Down x)
  allowed (condemned ((s.bucket b).entry x) (is_some ((s.bucket b).transfer x)) (references s Ro x b))
  Ok (put_bucket s b (with_entry (s.bucket b) x (Some Garbage)))

-- the first 1,000 rows go, or all
abbrev pub wipe : State → ℕ → ℕ → Result State Reason
wipe s x b = do
  needs (has_set s x && has_bucket s b) reason.Unknown
  needs (s.up x) (reason.Down x)
  allowed (wiped ((s.bucket b).entry x) ((s.bucket b).rows x))
  Ok (put_bucket s b (put_rows (s.bucket b) x (drop 1000 ((s.bucket b).rows x))))

abbrev pub forget : State → ℕ → ℕ → Result State Reason
forget s x b = do
  needs (has_set s x && has_bucket s b) reason.Unknown
  needs (s.up x) (reason.Down x)
  allowed (forgotten ((s.bucket b).entry x) (length ((s.bucket b).rows x)))
  Ok (put_bucket s b (with_entry (s.bucket b) x None))
