-- What the sets of a new cluster have.
use Rattle.std.specs.Prelude.{◌≡◌, ℕ, ◌+◌, List, [], ◌∷◌}
use Rattle.vs_record.specs.Durable.{booted}
use Rattle.vs_record.specs.States.{durable}
use Rattle.vs_record.specs.declared.set_state.SetState.{SetState}

-- new sets, of which each has the next buckets, so many as its share is, from this bucket on
abbrev pub AreNewStates : ℕ → List ℕ → List SetState → Type 0
AreNewStates first [] [] = Unit {0}
AreNewStates first (share ∷ shares) (d ∷ ds) = (durable d ≡ booted first share) × AreNewStates (first + share) shares ds
AreNewStates first _ _ = ⊥
