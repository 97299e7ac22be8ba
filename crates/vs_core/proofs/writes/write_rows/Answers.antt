use Rattle.std.proofs.Common.{◌-◌, refl, ap, ◌∙◌}
use Rattle.vs_rows.specs.Changes.{with_changes}
use Rattle.vs_machine.specs.State as machine
use Rattle.vs_state.specs.Plain.{plain}
use Rattle.vs_core.specs.Cells.{Cell}
use Rattle.vs_core.proofs.Sets.{IsSlot, slot, cell_here, rows_written, sound_written}
use Rattle.vs_core.proofs.writes.write_rows.Goals as goal

slot_of : (c : goal.After-state-1) → IsSlot c.args.state.now c.args.set (c.from.result - 1) c.index_mut-tables.result.now
slot_of c = slot c.args.state.now c.args.set c.from.result c.index_mut-tables.result.now c.requires.set c.requires.sound.sized (c.from.ensures ∙ c.get.ensures.value) c.index_mut-tables.ensures.value

pub returns-clause-rows : goal.returns-clause-rows
returns-clause-rows c =
    let b = c.args.bucket in
    rows_written c.args.state.now c.args.set _ c.index_mut-tables.result.now c.change_rows.new.tables (slot_of c) b _ c.change_rows.ensures.rows
    ∙ ap (λ (v : Cell). machine.put_bucket (plain c.args.state.now) b (machine.put_rows ((plain c.args.state.now).bucket b) c.args.set (with_changes v.rows c.args.changes.items)))
    (cell_here c.args.state.now c.args.set _ c.index_mut-tables.result.now c.change_rows.new.tables (slot_of c) b)

pub returns-clause-sound : goal.returns-clause-sound
returns-clause-sound c = sound_written c.args.state.now c.args.set _ c.index_mut-tables.result.now c.change_rows.new.tables (slot_of c) c.args.bucket _ c.change_rows.ensures.rows c.change_rows.ensures.refs refl refl c.requires.sound
