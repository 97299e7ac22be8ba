use Rattle.std.proofs.Common.{◌-◌, Some, refl, ◌∙◌}
use Rattle.vs_send.specs.declared.transfer.Phase.TheVariants.{Draining}
use Rattle.vs_core.proofs.Follows.{sound_follow}
use Rattle.vs_core.proofs.Moving.{transfer_written}
use Rattle.vs_core.proofs.Sets.{IsSlot, slot}
use Rattle.vs_core.proofs.moves.begin.Goals as goal

slot_of : (c : goal.After-state-1) → IsSlot c.args.state.now c.args.set (c.from.result - 1) c.index_mut-tables.result.now
slot_of c = slot c.args.state.now c.args.set c.from.result c.index_mut-tables.result.now c.requires.set c.requires.sound.sized (c.from.ensures ∙ c.get.ensures.value) c.index_mut-tables.ensures.value

pub returns-clause-begun : goal.returns-clause-begun
returns-clause-begun c =
    transfer_written c.args.state.now c.args.set _ c.index_mut-tables.result.now c.begin.new.tables (slot_of c) c.args.bucket (λ _. Some (record { dest = c.args.dest; by = c.args.by; phase = Draining 0 })) c.begin.ensures.begun

pub returns-clause-sound : goal.returns-clause-sound
returns-clause-sound c = sound_follow c.args.state.now c.args.set _ c.index_mut-tables.result.now c.begin.new.tables (slot_of c) c.args.bucket _ c.begin.ensures.begun c.requires.sound.agrees c.requires.sound c.begin.ensures.refs refl c.requires.bucket
