use Rattle.std.proofs.Common.{◌≡◌}
use Rattle.vs_world.specs.Began.{begun}
use Rattle.vs_world.specs.Played.{began}
use Rattle.vs_drive.proofs.rounds.drive.Given as goal

abbrev pub invariant-loop : goal.invariant-loop
invariant-loop g l = begun l.opening ≡ began l.fn.cluster.world.played
