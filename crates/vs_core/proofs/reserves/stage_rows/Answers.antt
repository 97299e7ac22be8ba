use Rattle.std.proofs.Common.{◌-◌, ap, ◌∙◌}
use Rattle.vs_state.specs.declared.tables.SetTables.{SetTables}
use Rattle.vs_core.specs.Cells.{SameRefs}
use Rattle.vs_core.proofs.Sets.{IsSlot, slot}
use Rattle.vs_core.proofs.Shown.{SameShown, plain_shown, rows_shown, sound_shown}
use Rattle.vs_core.proofs.reserves.stage_rows.Goals as goal

here : (c : goal.After-state-1) → IsSlot c.args.state.now c.args.set (c.from.result - 1) c.index_mut-tables.result.now
here c = slot c.args.state.now c.args.set c.from.result c.index_mut-tables.result.now c.requires.set c.requires.sound.sized (c.from.ensures ∙ c.get.ensures.value) c.index_mut-tables.ensures.value

shown : (c : goal.After-state-1) → SameShown c.index_mut-tables.result.now c.stage_in.new.tables
shown c = rows_shown c.index_mut-tables.result.now c.stage_in.new.tables c.stage_in.ensures.rest c.stage_in.ensures.same

refs : (c : goal.After-state-1) → SameRefs c.index_mut-tables.result.now c.stage_in.new.tables
refs c = record { refs = ap (λ (t : SetTables). t.refs) c.stage_in.ensures.rest; hauls = ap (λ (t : SetTables). t.hauls) c.stage_in.ensures.rest }

pub returns-clause-same : goal.returns-clause-same
returns-clause-same c = plain_shown c.args.state.now c.args.set _ c.index_mut-tables.result.now c.stage_in.new.tables (here c) (shown c)

pub returns-clause-sound : goal.returns-clause-sound
returns-clause-sound c = sound_shown c.args.state.now c.args.set _ c.index_mut-tables.result.now c.stage_in.new.tables (here c) (shown c) (refs c) c.requires.sound
