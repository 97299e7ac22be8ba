-- What becomes of a bucket by the answer to an ask.
use Rattle.std.specs.Prelude.{◌≡◌, ℕ, ◌==◌, true, if◌then◌else◌, Option, Some}
use Rattle.vs_recover.specs.declared.decision.Decision.{Decision}
use Rattle.vs_recover.specs.declared.decision.Decision.TheVariants.{Stay, ToActive, ToGarbage}
use Rattle.vs_refs.specs.Refs.{counts_of}
use Rattle.vs_space.specs.Status.{MayChange}
use Rattle.vs_space.specs.declared.status.Status.{Status}
use Rattle.vs_space.specs.declared.status.Status.TheVariants.{Active, Garbage}
use Rattle.vs_state.specs.declared.tables.SetTables.{SetTables}

-- a bucket of this status may become what was decided
abbrev pub MayTake : Option Status → Decision → Type 0
MayTake entry Stay = Unit {0}
MayTake entry ToActive = MayChange entry (Some Active)
MayTake entry ToGarbage = MayChange entry (Some Garbage)

-- reads of the bucket are locked, and else the references are as they were
pub record LocksReads (old new : SetTables) (b : ℕ) : Type 0 where
  pub locks : (q : ℕ) → counts_of new.refs.items q ≡ (if q == b then record (counts_of old.refs.items q) { ro_lock = true } else counts_of old.refs.items q)
  pub hauls : new.hauls ≡ old.hauls
