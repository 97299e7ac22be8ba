-- When the counts are too far from the ideals.
use Rattle.std.specs.Prelude.{ℕ, Bool, ◌*◌, ◌&&◌, not, nat_lt, List}
use Rattle.std.specs.List.{list_any, zip}
use Rattle.std.specs.Int.{abs_diff}
use Rattle.vs_balance.specs.declared.view.SetView.{SetView}

-- the set is unlocked, and its count differs from its ideal by more than this percentage of it
abbrev pub is_beyond : ℕ → SetView → ℕ → Bool
is_beyond threshold view ideal =
    not view.locked && nat_lt (threshold * ideal) (abs_diff view.count ideal * 100)

abbrev pub is_disbalanced : List SetView → List ℕ → ℕ → Bool
is_disbalanced views ideals threshold =
    list_any (λ (view, ideal). is_beyond threshold view ideal) (zip views ideals)
