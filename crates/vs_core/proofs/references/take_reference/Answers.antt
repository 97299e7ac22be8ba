use Rattle.std.proofs.Common.{◌∙◌}
use Rattle.vs_refs.specs.Calls.{Take}
use Rattle.vs_core.proofs.SetRefs.{makes_refs}
use Rattle.vs_core.proofs.Sets.{slot}
use Rattle.vs_core.proofs.references.take_reference.Goals as goal

pub returns-clause-taken : goal.returns-clause-taken
returns-clause-taken c =
    makes_refs c.args.state.now c.args.set _ c.index_mut-tables.result.now c.take_in.new.tables
    (slot c.args.state.now c.args.set c.from.result c.index_mut-tables.result.now c.requires.set c.requires.sized (c.from.ensures ∙ c.get.ensures.value) c.index_mut-tables.ensures.value)
    c.take_in.ensures.rest (Take c.args.bucket c.args.mode) c.take_in.ensures.taken
