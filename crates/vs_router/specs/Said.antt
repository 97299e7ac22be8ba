-- Which of the sets that were asked serve a bucket.
use Rattle.std.specs.Prelude.{◌≡◌, ◌≤◌, ℕ, ◌&&◌, List, [], map, Option, MatchOption}
use Rattle.std.specs.List.{filter, All, Contains}
use Rattle.vs_router.specs.declared.said.SetSaid.{SetSaid}

-- the sets that are up and serve
abbrev pub serving : List SetSaid → List ℕ
serving said = map (λ s. s.set) (filter (λ s. s.up && s.serves) said)

-- the lowest set that is up and serves, or none where none does
abbrev pub IsLowestServing : List SetSaid → Option ℕ → Type 0
IsLowestServing said lowest =
    MatchOption lowest
    (serving said ≡ [])
    (λ set. Contains (serving said) set × All (λ other. set ≤ other) (serving said))
