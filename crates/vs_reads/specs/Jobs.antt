-- Reads as the pool takes them, and rows as it has them.
use Rattle.std.specs.Prelude.{◌≡◌, ℕ, ◌-◌, ◌≤◌, List, [], length, Some, slice_get, All}
use Rattle.std.specs.Option.{option_map_or}
use Rattle.vs_pool.specs.declared.job.Job.{Job}
use Rattle.vs_pool.specs.declared.job.JobResult.{JobResult}
use Rattle.vs_pool.specs.Results.{Maps, IsDone}
use Rattle.vs_rows.specs.RowMap.{RowMap}
use Rattle.vs_reads.specs.Reads.{Read}

abbrev pub read_in : Job → Read
read_in job =
    record { client = job.client; call = job.call; bucket = job.bucket; ops = job.ops.items }

-- the rows of a bucket, bucket 1 being the first
abbrev pub rows_of : Maps → ℕ → RowMap
rows_of maps bucket = option_map_or (λ m. m.items) (slice_get maps (bucket - 1)) []

-- so many buckets have these rows
pub record HaveRows (maps : Maps) (count : ℕ) (rows : ℕ → RowMap) : Type 0 where
  pub count_is : length maps ≡ count
  pub each : (b : ℕ) → 1 ≤ b → b ≤ count → rows_of maps b ≡ rows b

abbrev pub AreWithin : ℕ → List Job → Type 0
AreWithin count jobs = All (λ job. job.bucket ≤ count) jobs

-- one result for each job: what it answers, or that its word was closed
pub record AreResults (maps : Maps) (jobs : List Job) (results : List JobResult) : Type 0 where
  pub count_is : length results ≡ length jobs
  pub each : (k : ℕ) (result : JobResult) → slice_get results k ≡ Some result
      → IsDone maps jobs (λ _. Unit {0}) (k, result)
