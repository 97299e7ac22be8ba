use Rattle.std.proofs.Common.{◌-◌, None, refl, ◌∙◌}
use Rattle.vs_core.proofs.Follows.{haul_counted, sound_follow}
use Rattle.vs_core.proofs.Moving.{transfer_written}
use Rattle.vs_core.proofs.Sets.{IsSlot, slot}
use Rattle.vs_core.proofs.moves.end.Goals as goal

pub end-requires : goal.end-requires
end-requires c =
    let t = c.index_mut-tables.result.now in
    haul_counted c.args.state.now c.args.set (c.from.result - 1) t t
    (slot c.args.state.now c.args.set c.from.result t c.requires.set c.requires.sound.sized (c.from.ensures ∙ c.get.ensures.value) c.index_mut-tables.ensures.value)
    c.args.bucket c.requires.sound.agrees c.requires.bucket

slot_of : (c : goal.After-state-1) → IsSlot c.args.state.now c.args.set (c.from.result - 1) c.index_mut-tables.result.now
slot_of c = slot c.args.state.now c.args.set c.from.result c.index_mut-tables.result.now c.requires.set c.requires.sound.sized (c.from.ensures ∙ c.get.ensures.value) c.index_mut-tables.ensures.value

pub returns-clause-gone : goal.returns-clause-gone
returns-clause-gone c =
    transfer_written c.args.state.now c.args.set _ c.index_mut-tables.result.now c.end.new.tables (slot_of c) c.args.bucket (λ _. None) c.end.ensures.gone

pub returns-clause-sound : goal.returns-clause-sound
returns-clause-sound c = sound_follow c.args.state.now c.args.set _ c.index_mut-tables.result.now c.end.new.tables (slot_of c) c.args.bucket _ c.end.ensures.gone c.requires.sound.agrees c.requires.sound c.end.ensures.refs refl c.requires.bucket
