use Rattle.std.proofs.Common.{◌-◌, Some, refl, sym, subst, ◌∙◌}
use Rattle.vs_core.specs.Pins.{MayTurn}
use Rattle.vs_core.proofs.Collected.{entry_written}
use Rattle.vs_core.proofs.Follows.{sound_kept}
use Rattle.vs_core.proofs.Moving.{entry_is}
use Rattle.vs_core.proofs.Turned.{same_garbage}
use Rattle.vs_core.proofs.Sets.{IsSlot, slot}
use Rattle.vs_core.proofs.pins.turn.Goals as goal

slot_of : (c : goal.After-state-1) → IsSlot c.args.state.now c.args.set (c.from.result - 1) c.index_mut-tables.result.now
slot_of c = slot c.args.state.now c.args.set c.from.result c.index_mut-tables.result.now c.requires.set c.requires.sound.sized (c.from.ensures ∙ c.get.ensures.value) c.index_mut-tables.ensures.value

pub returns-clause-turned : goal.returns-clause-turned
returns-clause-turned c = entry_written c.args.state.now c.args.set _ c.index_mut-tables.result.now c.turn_in.new.tables (slot_of c) c.args.bucket (Some c.args.status) c.turn_in.ensures.turned

pub returns-clause-sound : goal.returns-clause-sound
returns-clause-sound c =
    let t = c.index_mut-tables.result.now in
    let u = c.turn_in.new.tables in
    let may = subst (λ e. MayTurn e c.args.status) (sym (entry_is c.args.state.now c.args.set _ t u (slot_of c) c.args.bucket)) c.requires.may in
    sound_kept c.args.state.now c.args.set _ t u (slot_of c) c.args.bucket _ c.turn_in.ensures.turned c.requires.sound.agrees c.requires.sound c.turn_in.ensures.refs
    (same_garbage _ c.args.status may) refl refl c.requires.bucket
