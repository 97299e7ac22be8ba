use Rattle.std.proofs.Common.{◌-◌, Some, ◌∙◌}
use Rattle.vs_space.specs.declared.status.Status.TheVariants.{Garbage}
use Rattle.vs_core.proofs.Collected.{entry_written, sound_collected}
use Rattle.vs_core.proofs.Sets.{IsSlot, slot}
use Rattle.vs_core.proofs.collecting.condemn.Goals as goal

slot_of : (c : goal.After-state-1) → IsSlot c.args.state.now c.args.set (c.from.result - 1) c.index_mut-tables.result.now
slot_of c = slot c.args.state.now c.args.set c.from.result c.index_mut-tables.result.now c.requires.set c.requires.sound.sized (c.from.ensures ∙ c.get.ensures.value) c.index_mut-tables.ensures.value

pub returns-clause-condemned : goal.returns-clause-condemned
returns-clause-condemned c = entry_written c.args.state.now c.args.set _ c.index_mut-tables.result.now c.condemn.new.tables (slot_of c) c.args.bucket (Some Garbage) c.condemn.ensures.condemned

pub returns-clause-sound : goal.returns-clause-sound
returns-clause-sound c = sound_collected c.args.state.now c.args.set _ c.index_mut-tables.result.now c.condemn.new.tables (slot_of c) c.args.bucket (Some Garbage) c.condemn.ensures.condemned c.condemn.ensures.refs c.requires.up c.requires.sound
