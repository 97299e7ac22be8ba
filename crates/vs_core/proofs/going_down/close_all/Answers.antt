use Rattle.std.proofs.Common.{◌≡◌, ◌+◌, ◌∙◌, arith}
use Rattle.vs_core.proofs.Closed.{closed_one}
use Rattle.vs_core.proofs.going_down.close_all.Goals as goal

pub returns-in_default-clause-closed : goal.returns-in_default-clause-closed
returns-in_default-clause-closed c = absurd (c.in_default.ensures (omega arith, omega arith))

pub loop-index-preserved : goal.loop-index-preserved
loop-index-preserved c =
    let at : c.in-Some.other ≡ c.loop-index.index + 1 = omega (arith, c.in-Some.ensures) in
    record {
      sets = c.close_both.ensures.sets ∙ c.loop-index.invariant.sets;
      closed = closed_one c.args.links.now c.loop-index.links c.close_both.new.links c.args.set c.loop-index.index c.in-Some.other at c.loop-index.invariant.closed c.close_both.ensures.closed;
    }
