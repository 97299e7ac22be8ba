-- A cluster that was driven to its end, as a world.
use Rattle.std.proofs.Common.{◌≡◌, true, Some, sym, subst}
use Rattle.vs_cluster.specs.Cluster as cluster
use Rattle.vs_disk.specs.Told.{Told}
use Rattle.vs_machine.specs.Driven.{flags_of}
use Rattle.vs_machine.specs.Kinds.Stops.{is_finished}
use Rattle.vs_world.specs.Played.{began, state_of}
use Rattle.vs_world.specs.World.{World}
use Rattle.vs_drive.specs.Ends.{EndsRun, IsDriveCause}
use Rattle.vs_drive.specs.declared.driver.DriveFault.{DriveFault}
use Rattle.vs_drive.specs.declared.driver.DriveFault.TheVariants.{Full, NoMemory}
use Rattle.vs_run.specs.Worlds.{IsSteered, IsDrivenFrom}

-- the run ends for what stopped the drivers
pub ends_run : {D : Type 0} (old new w : World D) (fault : DriveFault) → w ≡ new → IsDriveCause old new fault → EndsRun w (Some fault)
ends_run {D} old new w fault is cause = subst (λ (v : World D). EndsRun v (Some fault)) (sym is) (of fault cause)
  where
    of : (stopped : DriveFault) → IsDriveCause old new stopped → EndsRun new (Some stopped)
    of (Full x) why = why.1
    of NoMemory why = tt

module _ {D : Type 0} (told : D → Told) (first : World D) (c : cluster.Cluster D) (w : World D) (is : w ≡ c.world) (k : cluster.IsKept told c) where
  steered : IsSteered told c.world
  steered = record { flags = flags_of c.hints; driven = k.driven; counted = k.counted }

  pub driven_from : (start : World D) → start ≡ first → is_finished (state_of c.world.played) ≡ true → began c.world.played ≡ began start.played → IsDrivenFrom told first w
  driven_from start start_is finished same = subst (λ (v : World D). IsDrivenFrom told first v) (sym is)
      (record { began = subst (λ (v : World D). began c.world.played ≡ began v.played) start_is same; steered = steered; finished = finished })
