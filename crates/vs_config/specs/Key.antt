-- The keys of a configuration's text.
use Rattle.std.specs.Prelude.{ℕ, List, [], ◌∷◌, codes}
use Rattle.vs_config.specs.declared.key.ConfigKey.{ConfigKey}
use Rattle.vs_config.specs.declared.key.ConfigKey.TheVariants.{BucketCount, RebalancerDisbalanceThreshold, RebalancerMaxReceiving, RebalancerMaxSending, Set, Uuid, Weight, Lock, Name, Other}

-- how a key is spelled
abbrev pub name_of : ConfigKey → List ℕ
name_of BucketCount = codes "bucket_count"
name_of RebalancerDisbalanceThreshold = codes "rebalancer_disbalance_threshold"
name_of RebalancerMaxReceiving = codes "rebalancer_max_receiving"
name_of RebalancerMaxSending = codes "rebalancer_max_sending"
name_of Set = codes "set"
name_of Uuid = codes "uuid"
name_of Weight = codes "weight"
name_of Lock = codes "lock"
name_of Name = codes "name"
name_of Other = codes "other"

-- the keys at the top of a document, and those of a set's table
abbrev pub top_keys : List ConfigKey
top_keys =
    BucketCount ∷ RebalancerDisbalanceThreshold ∷ RebalancerMaxReceiving ∷ RebalancerMaxSending
    ∷ Set ∷ []

abbrev pub set_keys : List ConfigKey
set_keys = Uuid ∷ Weight ∷ Lock ∷ Name ∷ []
