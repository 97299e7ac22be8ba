use Rattle.std.proofs.Common.{◌-◌, None, ◌∙◌}
use Rattle.vs_core.proofs.Asked.{ask_written, sound_ask}
use Rattle.vs_core.proofs.Sets.{IsSlot, slot}
use Rattle.vs_core.proofs.asking.end_ask.Goals as goal

slot_of : (c : goal.After-state-1) → IsSlot c.args.state.now c.args.set (c.from.result - 1) c.index_mut-tables.result.now
slot_of c = slot c.args.state.now c.args.set c.from.result c.index_mut-tables.result.now c.requires.set c.requires.sound.sized (c.from.ensures ∙ c.get.ensures.value) c.index_mut-tables.ensures.value

pub returns-clause-ended : goal.returns-clause-ended
returns-clause-ended c = ask_written c.args.state.now c.args.set _ c.index_mut-tables.result.now c.end_ask.new.tables (slot_of c) c.args.bucket None c.end_ask.ensures.ended

pub returns-clause-sound : goal.returns-clause-sound
returns-clause-sound c = sound_ask c.args.state.now c.args.set _ c.index_mut-tables.result.now c.end_ask.new.tables (slot_of c) c.args.bucket None c.end_ask.ensures.ended c.end_ask.ensures.refs c.requires.sound
