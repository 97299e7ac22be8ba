-- When a bucket is pinned or unpinned.
use Rattle.std.specs.Prelude.{Option, Some}
use Rattle.vs_space.specs.declared.status.Status.{Status}
use Rattle.vs_space.specs.declared.status.Status.TheVariants.{Active, Pinned}

-- one that is active may be pinned, and one that is pinned active again
abbrev pub MayTurn : Option Status → Status → Type 0
MayTurn (Some Active) Pinned = Unit {0}
MayTurn (Some Pinned) Active = Unit {0}
MayTurn entry status = ⊥
