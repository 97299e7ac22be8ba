-- The configurations that are generated.
use Rattle.std.specs.Prelude.{ℕ, List, [], ◌∷◌, false}
use Rattle.vs_config.specs.Configuration.{Configuration}
use Rattle.vs_config.specs.declared.config.SetConfig.{SetConfig}

-- 00000000-0000-4000-8000-00000000000S, of set S
abbrev pub uuid_of : ℕ → List ℕ
uuid_of set =
    0 ∷ 0 ∷ 0 ∷ 0 ∷ 0 ∷ 0 ∷ 0x40 ∷ 0 ∷ 0x80 ∷ 0 ∷ 0 ∷ 0 ∷ 0 ∷ 0 ∷ 0 ∷ set ∷ []

abbrev pub set_of : ℕ → ℕ → SetConfig
set_of set weight = record { uuid = uuid_of set; weight = weight; lock = false }

-- 3,000 buckets and four sets of weight 1, save for the first; all else has its default
abbrev pub configuration_of : ℕ → Configuration
configuration_of weight_of_first = record {
  bucket_count = 3000;
  threshold = 1;
  max_receiving = 100;
  max_sending = 1;
  sets = set_of 1 weight_of_first ∷ set_of 2 1 ∷ set_of 3 1 ∷ set_of 4 1 ∷ [];
}
