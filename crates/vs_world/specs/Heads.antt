-- The heads of the journals of a cluster.
use Rattle.std.specs.Prelude.{◌≡◌, ℕ, ◌+◌, ◌==◌, if◌then◌else◌, Bool, true, false, List, [], ◌∷◌, length, replicate}
use Rattle.vs_config.specs.Configuration.{Configuration}
use Rattle.vs_config.specs.declared.config.SetConfig.{SetConfig}
use Rattle.vs_core.specs.Booted.{shares_of}
use Rattle.vs_frame.specs.declared.head.Head.{Head}

-- the head of a set that begins with these many buckets, from the first on, or with none
abbrev pub head_with : ℕ → ℕ → SetConfig → ℕ → Head
head_with buckets first set count = record {
  uuid = set.uuid;
  bucket_count = buckets;
  boot_first = if count == 0 then 0 else first;
  boot_count = count;
}

-- the heads of sets of which each begins with the next buckets, as many as its share is
abbrev pub heads_from : ℕ → ℕ → List SetConfig → List ℕ → List Head
heads_from buckets first (set ∷ sets) (share ∷ shares) = head_with buckets first set share ∷ heads_from buckets (first + share) sets shares
heads_from buckets first _ _ = []

-- how many buckets each set begins with: in a new cluster its share, else none
abbrev pub shares_in : Configuration → Bool → List ℕ
shares_in config true = shares_of config
shares_in config false = replicate (length config.sets) 0

-- the heads of the sets of a cluster
abbrev pub AreHeads : Configuration → Bool → List Head → Type 0
AreHeads config is_new heads = heads ≡ heads_from config.bucket_count 1 config.sets (shares_in config is_new)
