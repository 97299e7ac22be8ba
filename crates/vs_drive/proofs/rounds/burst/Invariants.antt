use Rattle.std.proofs.Common.{◌≡◌, ◌<◌}
use Rattle.vs_drive.specs.Drivers.{actor_of}
use Rattle.vs_drive.proofs.rounds.burst.Given as goal

abbrev pub invariant-loop : goal.invariant-loop
invariant-loop g l = (l.idle < 1024) × (actor_of l.driver ≡ actor_of l.fn.driver)
