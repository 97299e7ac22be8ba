use Rattle.std.proofs.Common.{sym, ◌∙◌}
use Rattle.vs_settle.proofs.Raises.{raised_already}
use Rattle.vs_settle.proofs.raising.raise.Goals as goal

pub returns-then-is_up-clause-raised : goal.returns-then-is_up-clause-raised
returns-then-is_up-clause-raised g c = raised_already g.D.Disk.told c.args.world.now c.args.steps.now c.args.set c.requires.calm (sym c.is_up.ensures ∙ c.if-is_up.true)
