use Rattle.std.proofs.Common.{◌-◌, ◌∙◌}
use Rattle.vs_core.proofs.Follows.{plain_same, sound_same}
use Rattle.vs_core.proofs.Sets.{IsSlot, slot}
use Rattle.vs_core.proofs.receiving.reserve_rows.Goals as goal

slot_of : (c : goal.After-state-1) → IsSlot c.args.state.now c.args.set (c.from.result - 1) c.index_mut-tables.result.now
slot_of c = slot c.args.state.now c.args.set c.from.result c.index_mut-tables.result.now c.requires.set c.requires.sound.sized (c.from.ensures ∙ c.get.ensures.value) c.index_mut-tables.ensures.value

pub returns-clause-same : goal.returns-clause-same
returns-clause-same c = plain_same c.args.state.now c.args.set _ c.index_mut-tables.result.now c.reserve_rows.new.tables (slot_of c) c.reserve_rows.ensures.same

pub returns-clause-sound : goal.returns-clause-sound
returns-clause-sound c = sound_same c.args.state.now c.args.set _ c.index_mut-tables.result.now c.reserve_rows.new.tables (slot_of c) c.reserve_rows.ensures.same c.requires.sound
