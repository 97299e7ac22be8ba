-- Disks on which nothing is, and those that a new cluster leaves.
use Rattle.std.specs.Prelude.{◌≡◌, ℕ, List, [], length, All}
use Rattle.vs_config.specs.Configuration.{Configuration}
use Rattle.vs_disk.specs.Told.{Told}
use Rattle.vs_store.specs.Files.{StandsFor}
use Rattle.vs_world.specs.Journals.{head_of}
use Rattle.vs_world.specs.Opened.{OfGiven, new_state}

-- 32 disks, on which nothing is
pub record AreNew {D : Type 0} (told : D → Told) (disks : List D) : Type 0 where
  pub count : length disks ≡ 32
  pub empty : All (λ it. (told it).reads_as ≡ []) disks

-- 32 disks: that of each set has the journal of what the set has in a new cluster of the configuration
pub record AreOfNewCluster {D : Type 0} (told : D → Told) (config : Configuration) (disks : List D) : Type 0 where
  pub count : length disks ≡ 32
  pub journals : (x : ℕ) → OfGiven config disks x (λ it. StandsFor (head_of config x) (new_state config x) (told it).reads_as)
