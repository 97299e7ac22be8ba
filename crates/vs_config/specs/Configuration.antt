-- A configuration as plain data.
use Rattle.std.specs.Prelude.{ℕ, List}
use Rattle.vs_config.specs.declared.config.Config.{Config}
use Rattle.vs_config.specs.declared.config.SetConfig.{SetConfig}

-- the numbers, and the sets in the order of their numbers
pub record Configuration : Type 0 where
  pub bucket_count : ℕ
  pub threshold : ℕ
  pub max_receiving : ℕ
  pub max_sending : ℕ
  pub sets : List SetConfig

-- what a `Config` holds, whatever room its list has
abbrev pub configuration : Config → Configuration
configuration c =
    record {
      bucket_count = c.bucket_count;
      threshold = c.threshold;
      max_receiving = c.max_receiving;
      max_sending = c.max_sending;
      sets = c.sets.items;
    }
