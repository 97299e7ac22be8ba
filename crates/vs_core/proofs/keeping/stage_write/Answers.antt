use Rattle.std.proofs.Common.{◌∙◌}
use Rattle.vs_core.proofs.keeping.stage_write.Goals as goal

pub returns-clause-same : goal.returns-clause-same
returns-clause-same c = c.stage_rows.ensures.same ∙ c.reserve_entry.ensures.same
