use Rattle.std.proofs.Common.{◌-◌, refl, sym, ap, ◌∙◌}
use Rattle.vs_machine.specs.Kinds.Connections.{is_receiving}
use Rattle.vs_core.proofs.Follows.{sound_kept}
use Rattle.vs_core.proofs.Moving.{entry_is}
use Rattle.vs_core.proofs.Arriving.{activated_written, receiving_kept}
use Rattle.vs_core.proofs.Sets.{IsSlot, slot}
use Rattle.vs_core.proofs.receiving.activate.Goals as goal

pub activate-requires : goal.activate-requires
activate-requires c =
    let t = c.index_mut-tables.result.now in
    let o = slot c.args.state.now c.args.set c.from.result t c.requires.set c.requires.sound.sized (c.from.ensures ∙ c.get.ensures.value) c.index_mut-tables.ensures.value in
    ap is_receiving (entry_is c.args.state.now c.args.set _ t t o c.args.bucket) ∙ c.requires.receiving

slot_of : (c : goal.After-state-1) → IsSlot c.args.state.now c.args.set (c.from.result - 1) c.index_mut-tables.result.now
slot_of c = slot c.args.state.now c.args.set c.from.result c.index_mut-tables.result.now c.requires.set c.requires.sound.sized (c.from.ensures ∙ c.get.ensures.value) c.index_mut-tables.ensures.value

pub returns-clause-active : goal.returns-clause-active
returns-clause-active c = activated_written c.args.state.now c.args.set _ c.index_mut-tables.result.now c.activate.new.tables (slot_of c) c.args.bucket c.activate.ensures.active

pub returns-clause-sound : goal.returns-clause-sound
returns-clause-sound c =
    let t = c.index_mut-tables.result.now in
    let u = c.activate.new.tables in
    let receiving = ap is_receiving (entry_is c.args.state.now c.args.set _ t u (slot_of c) c.args.bucket) ∙ c.requires.receiving in
    sound_kept c.args.state.now c.args.set _ t u (slot_of c) c.args.bucket _ c.activate.ensures.active c.requires.sound.agrees c.requires.sound c.activate.ensures.refs
    (sym (receiving_kept _ receiving)) refl refl c.requires.bucket
