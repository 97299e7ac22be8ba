use Rattle.std.proofs.Common.{◌∙◌, sym}
use Rattle.vs_config.proofs.Doubles.{double_here, no_double_here}
use Rattle.vs_config.proofs.read.double_in.Goals as goal

pub returns-then-has_uuid : goal.returns-then-has_uuid
returns-then-has_uuid c = sym (c.loop-i.invariant ∙ double_here c.args.sets.now c.loop-i.i c.index-sets-i.result c.index-sets-i.is c.loop-i-test.true (sym c.has_uuid.ensures ∙ c.if-has_uuid.true))

pub loop-i-preserved : goal.loop-i-preserved
loop-i-preserved c = c.loop-i.invariant ∙ no_double_here c.args.sets.now c.loop-i.i c.index-sets-i.result c.index-sets-i.is c.loop-i-test.true (sym c.has_uuid.ensures ∙ c.if-has_uuid.false)
