-- What a new cluster begins with.
use Rattle.std.specs.Prelude.{ℕ, ◌-◌, ◌&&◌, nat_lt, nat_le, Bool, false, if◌then◌else◌, List, [], ◌∷◌, take, Some, None}
use Rattle.std.specs.List.{sum}
use Rattle.vs_balance.specs.declared.view.SetView.{SetView}
use Rattle.vs_balance.specs.Ideal.{ideal_of}
use Rattle.vs_config.specs.Configuration.{Configuration}
use Rattle.vs_config.specs.declared.config.SetConfig.{SetConfig}
use Rattle.vs_machine.specs.Opening.{Holdings}
use Rattle.vs_space.specs.declared.status.Status.TheVariants.{Active}

-- what is seen of the sets where the first has so many buckets and the others none, none is pinned and no set is locked
abbrev pub views_of : ℕ → List SetConfig → List SetView
views_of count [] = []
views_of count (set ∷ sets) = record { count = count; pinned = 0; weight = set.weight; locked = false } ∷ views_of 0 sets

-- how many buckets each set gets: its ideal count where the first has all
abbrev pub shares_of : Configuration → List ℕ
shares_of config = ideal_of (views_of config.bucket_count config.sets)

-- a set gets the buckets that come after those of the sets before it, as many as its share is
abbrev pub gets : List ℕ → ℕ → ℕ → Bool
gets shares x b = nat_lt (sum (take (x - 1) shares)) b && nat_le b (sum (take x shares))

-- each set has the buckets that it gets active, and no bucket has rows
abbrev pub booted : Configuration → Holdings
booted config = record {
  entry = λ x b. if gets (shares_of config) x b then Some Active else None;
  rows = λ x b. [];
}
