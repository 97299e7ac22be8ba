use Rattle.std.proofs.Common.{sym, ◌∙◌}
use Rattle.vs_core.proofs.Coherent.{unnamed_fits}
use Rattle.vs_core.proofs.coherence.names_another.Goals as goal

pub returns-in-None : goal.returns-in-None
returns-in-None c = unnamed_fits c.args.entry.now c.args.set c.args.count (sym c.named.ensures ∙ c.in-None.is)
