-- What a cluster shows that actors run, and what is kept of it.
use Rattle.std.specs.Prelude.{◌≡◌, ℕ, true, Bool, List, length}
use Rattle.vs_disk.specs.Told.{Told}
use Rattle.vs_machine.specs.Driven.{IsDriven, flags_of}
use Rattle.vs_machine.specs.State.{has_set}
use Rattle.vs_world.specs.Began.{start_of}
use Rattle.vs_world.specs.Counted.{IsCounted}
use Rattle.vs_world.specs.Played.{began, state_of}
use Rattle.vs_world.specs.World.{World}

-- The world, and of each client, client 1 first, whether its last post wasn't the first of its call and went for the hint alone.
pub record Cluster (D : Type 0) : Type 0 where
  pub world : World D
  pub hints : List Bool

-- What every cluster keeps. Each further post in its list of events was steered, no mover waited, and the hints are those of the
-- list. No set's last fault number is above how often its disk failed since the beginning.
pub record IsKept {D : Type 0} (told : D → Told) (c : Cluster D) : Type 0 where
  pub driven : IsDriven (start_of (began c.world.played)) c.world.played.events (flags_of c.hints)
  pub counted : (x : ℕ) → has_set (state_of c.world.played) x ≡ true → IsCounted told c.world x
  pub flags : length c.hints ≡ 64
