use Rattle.std.proofs.Common.{◌-◌, ◌∙◌}
use Rattle.vs_core.proofs.Raised.{raised_written, sound_raised}
use Rattle.vs_core.proofs.Sets.{IsSlot, slot}
use Rattle.vs_core.proofs.restoring.raise.Goals as goal

slot_of : (c : goal.After-state-1) → IsSlot c.args.state.now c.args.set (c.from.result - 1) c.index_mut-tables.result.now
slot_of c = slot c.args.state.now c.args.set c.from.result c.index_mut-tables.result.now c.requires.set c.requires.sound.sized (c.from.ensures ∙ c.get.ensures.value) c.index_mut-tables.ensures.value

pub returns-clause-up : goal.returns-clause-up
returns-clause-up c = raised_written c.args.state.now c.args.set _ c.index_mut-tables.result.now c.raise.new.tables (slot_of c) c.args.refs c.raise.ensures

pub returns-clause-sound : goal.returns-clause-sound
returns-clause-sound c = sound_raised c.args.state.now c.args.set _ c.index_mut-tables.result.now c.raise.new.tables (slot_of c) c.args.refs c.raise.ensures c.requires.unheld c.requires.locks c.requires.sound
