use Rattle.std.proofs.Common.{arith, get_or}
use Rattle.std.proofs.lemmas.List.{get_or_default}
use Rattle.std.proofs.lemmas.List.Edits.{map_over_more}
use Rattle.vs_waves.specs.Flows.{after_wave}
use Rattle.vs_waves.proofs.OneMore.{nothing}
use Rattle.vs_waves.proofs.laying.end_wave.Goals as goal

pub loop-flow-preserved : goal.loop-flow-preserved
loop-flow-preserved c =
    let l = c.loop-flow.flows in
    let i = c.loop-flow.flow-index in
    map_over_more after_wave c.args.flows.now l i (get_or l i nothing) (omega arith) c.loop-flow.invariant (get_or_default l i nothing (get_or l i nothing) (omega arith))
