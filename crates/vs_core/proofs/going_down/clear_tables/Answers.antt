use Rattle.std.proofs.Common.{◌-◌, ◌∙◌}
use Rattle.vs_core.proofs.GoingDown.{forgets_cleared, plain_cleared}
use Rattle.vs_core.proofs.Sets.{IsSlot, slot}
use Rattle.vs_core.proofs.going_down.clear_tables.Goals as goal

here : (c : goal.After-state-1) → IsSlot c.args.state.now c.args.set (c.from.result - 1) c.index_mut-tables.result.now
here c = slot c.args.state.now c.args.set c.from.result c.index_mut-tables.result.now c.requires.set c.requires.sized (c.from.ensures ∙ c.get.ensures.value) c.index_mut-tables.ensures.value

pub returns-clause-cleared : goal.returns-clause-cleared
returns-clause-cleared c = plain_cleared c.args.state.now c.args.set _ c.index_mut-tables.result.now c.clear.new.tables (here c) c.clear.ensures

pub returns-clause-forgets : goal.returns-clause-forgets
returns-clause-forgets c = forgets_cleared c.args.state.now c.args.set _ c.index_mut-tables.result.now c.clear.new.tables (here c) c.clear.ensures
