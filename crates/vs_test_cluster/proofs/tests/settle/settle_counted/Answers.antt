use Rattle.std.proofs.Common.{◌≡◌, sym, ap, ◌∙◌}
use Rattle.vs_machine.specs.Kinds.Stops.{is_finished}
use Rattle.vs_world.specs.Played.{state_of}
use Rattle.vs_test_cluster.proofs.tests.settle.settle_counted.Goals as goal

pub settle-requires : goal.settle-requires
settle-requires g c =
    let is : c.finished.result ≡ is_finished (state_of c.args.world.now.played) = c.finished.ensures ∙ ap is_finished c.core.ensures.state in
    record { finished = sym is ∙ c.if-not-finished.false }
