-- The configurations that a cluster may have.
use Rattle.std.specs.Prelude.{◌≢◌, ◌≤◌, All, Any, AllPairs, length}
use Rattle.vs_config.specs.Configuration.{Configuration}

-- each number is in its range, there are 1 to 32 sets, no two have the same uuid, and some set has
-- a weight
pub record IsLawful (c : Configuration) : Type 0 where
  pub bucket_count : (1 ≤ c.bucket_count) × (c.bucket_count ≤ 30000)
  pub threshold : c.threshold ≤ 100
  pub max_receiving : (1 ≤ c.max_receiving) × (c.max_receiving ≤ 30000)
  pub max_sending : (1 ≤ c.max_sending) × (c.max_sending ≤ 15)
  pub number_of_sets : (1 ≤ length c.sets) × (length c.sets ≤ 32)
  pub weights : All (λ set. set.weight ≤ 1000000) c.sets
  pub uuids : AllPairs (λ set later. set.uuid ≢ later.uuid) c.sets
  pub some_weight : Any (λ set. 1 ≤ set.weight) c.sets
