use Rattle.std.proofs.Common.{◌∙◌}
use Rattle.vs_refs.specs.Calls.{Give}
use Rattle.vs_core.proofs.SetRefs.{makes_refs}
use Rattle.vs_core.proofs.Sets.{slot}
use Rattle.vs_core.proofs.references.give_reference.Goals as goal

pub returns-clause-given : goal.returns-clause-given
returns-clause-given c =
    makes_refs c.args.state.now c.args.set _ c.index_mut-tables.result.now c.give_in.new.tables
    (slot c.args.state.now c.args.set c.from.result c.index_mut-tables.result.now c.requires.set c.requires.sized (c.from.ensures ∙ c.get.ensures.value) c.index_mut-tables.ensures.value)
    c.give_in.ensures.rest (Give c.args.bucket c.args.mode) c.give_in.ensures.given
