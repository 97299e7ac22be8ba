use Rattle.std.proofs.Common.{◌-◌}
use Rattle.vs_core.proofs.Histories.{history_of, history_same}
use Rattle.vs_core.proofs.reserves.reserve_entry.Goals as goal

pub returns-clause-same : goal.returns-clause-same
returns-clause-same c =
    history_same c.args.state.now c.args.bucket (c.get.result - 1) c.index_mut.result.now c.reserve.new.self
    (history_of c.args.state.now c.args.bucket c.get.result c.index_mut.result.now c.requires.bucket c.requires.sound.sized c.get.ensures.value c.index_mut.ensures.value) c.reserve.ensures.same
