-- What becomes of a set that is started again as its journal shows.
use Rattle.std.specs.Prelude.{◌≡◌, ℕ, false}
use Rattle.vs_disk.specs.Told.{Told}
use Rattle.vs_event.specs.declared.event.Event.TheVariants.{Restart}
use Rattle.vs_event.specs.declared.event.RestartBy.{RestartBy}
use Rattle.vs_world.specs.Played.{IsSame}
use Rattle.vs_world.specs.Steps.{StaysDown}
use Rattle.vs_world.specs.World.{World}
use Rattle.vs_world.specs.declared.fault.StepFault.{StepFault}
use Rattle.vs_world.specs.declared.fault.StepFault.TheVariants.{NotNow, Full, WentDown, OpenFault, NoMemory}

-- Why it wasn't. Nothing is written, so no journal is full, and none fails while it is written.
abbrev pub IsRestartCause : {D : Type 0} → (D → Told) → World D → World D → ℕ → RestartBy → StepFault → Type 0
IsRestartCause told old new x by (NotNow reason) = new ≡ old
IsRestartCause told old new x by (Full y) = ⊥
IsRestartCause told old new x by (WentDown y) = ⊥
IsRestartCause told old new x by (OpenFault y) = (y ≡ x) × StaysDown told old new (Restart x false by) x × IsSame old.played new.played
IsRestartCause told old new x by NoMemory = IsSame old.played new.played
