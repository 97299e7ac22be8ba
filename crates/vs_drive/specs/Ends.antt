-- When the drivers of a cluster stop before all is answered.
use Rattle.std.specs.Prelude.{◌≡◌, ℕ, ◌-◌, ◌<◌, true, Option, Some, None}
use Rattle.vs_machine.specs.State.{has_set}
use Rattle.vs_world.specs.Played.{began, state_of}
use Rattle.vs_world.specs.World.{World, length_of}
use Rattle.vs_drive.specs.declared.driver.DriveFault.{DriveFault}
use Rattle.vs_drive.specs.declared.driver.DriveFault.TheVariants.{Full, NoMemory}

-- the length of the longest entry of a journal, in bytes
abbrev pub longest_entry : ℕ
longest_entry = 1048581

-- set x is up, and the longest entry would carry its journal past the limit
pub record IsNearlyFull {D : Type 0} (w : World D) (x : ℕ) : Type 0 where
  pub has : has_set (state_of w.played) x ≡ true
  pub up : (state_of w.played).up x ≡ true
  pub above : (began w.played).limit - longest_entry < length_of w x

-- a driver met a fault for which the run ends
abbrev pub EndsRun : {D : Type 0} → World D → Option DriveFault → Type 0
EndsRun w (Some (Full x)) = IsNearlyFull w x
EndsRun w (Some NoMemory) = Unit {0}
EndsRun w None = ⊥

-- why a cluster wasn't driven to its end
abbrev pub IsDriveCause : {D : Type 0} → World D → World D → DriveFault → Type 0
IsDriveCause old new (Full x) = (began new.played ≡ began old.played) × IsNearlyFull new x
IsDriveCause old new NoMemory = Unit {0}
