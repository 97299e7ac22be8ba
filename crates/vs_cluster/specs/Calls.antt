-- What the calls of a cluster ask and leave.
use Rattle.vs_core.specs.Safety.{IsSafe, IsSafeRun}
use Rattle.vs_disk.specs.Told.{Told}
use Rattle.vs_event.specs.declared.event.Event.{Event}
use Rattle.vs_machine.specs.Driven.{IsNoPost, flags_of}
use Rattle.vs_machine.specs.Driven as driven
use Rattle.std.specs.Prelude.{ℕ}
use Rattle.vs_cluster.specs.Cluster.{Cluster, IsKept}
use Rattle.vs_world.specs.Began.{start_of}
use Rattle.vs_world.specs.Counted.{IsNoFault}
use Rattle.vs_world.specs.Played.{began, state_of}
use Rattle.vs_world.specs.World as worlds

-- the event is no post, no wait of a mover and no fault that was made up
abbrev pub IsDriverEvent : Event → Type 0
IsDriverEvent e = IsNoPost e × IsNoFault e

-- the client's next call may be posted to set x
abbrev pub IsPostAllowed : {D : Type 0} → Cluster D → ℕ → ℕ → Type 0
IsPostAllowed c client x = driven.IsPostAllowed (state_of c.world.played) (flags_of c.hints client) client x

-- What a call for an event leaves, whatever it answers: what every world and every cluster keeps; no disk is touched but that of
-- the set at which the event records, or which it starts again; and what is promised of every run holds of the state and of the
-- whole list.
pub record Leaves {D : Type 0} (told : D → Told) (old new : Cluster D) (e : Event) : Type 0 where
  pub world : worlds.IsKept told new.world
  pub cluster : IsKept told new
  pub disks : worlds.KeepsDisks told old.world new.world e
  pub safe : IsSafe (state_of new.world.played)
  pub run : IsSafeRun (start_of (began new.world.played)) new.world.played.events
