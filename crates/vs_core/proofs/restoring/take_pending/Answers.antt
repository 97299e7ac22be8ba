use Rattle.std.proofs.Common.{◌-◌, Some, None, sym, ap, ◌∙◌}
use Rattle.std.specs.Prelude.{option_map}
use Rattle.vs_record.specs.Change.{change}
use Rattle.vs_core.specs.Restarting.{without_pending}
use Rattle.vs_core.proofs.Raised.{gone_written, pending_is, sound_gone}
use Rattle.vs_core.proofs.Sets.{IsSlot, slot}
use Rattle.vs_core.proofs.Shown.{set_there, now_there}
use Rattle.vs_core.proofs.restoring.take_pending.Goals as goal

slot_of : (c : goal.After-state-1) → IsSlot c.args.state.now c.args.set (c.from.result - 1) c.index_mut-tables.result.now
slot_of c = slot c.args.state.now c.args.set c.from.result c.index_mut-tables.result.now c.requires.set c.requires.sound.sized (c.from.ensures ∙ c.get.ensures.value) c.index_mut-tables.ensures.value

pub returns-clause-taken : goal.returns-clause-taken
returns-clause-taken c = ap (λ p. option_map change p) c.take_pending.ensures.taken ∙ pending_is c.args.state.now c.args.set _ c.index_mut-tables.result.now c.take_pending.new.tables (slot_of c)

pub returns-clause-gone : goal.returns-clause-gone
returns-clause-gone c = gone_written c.args.state.now c.args.set _ c.index_mut-tables.result.now c.take_pending.new.tables (slot_of c) c.take_pending.ensures.rest

pub returns-clause-tables : goal.returns-clause-tables
returns-clause-tables c =
    let s = c.args.state.now in
    let t = c.index_mut-tables.result.now in
    let u = c.take_pending.new.tables in
    now_there s c.args.set _ t u (slot_of c) Some None ∙ ap Some c.take_pending.ensures.rest ∙ ap (λ o. option_map without_pending o) (sym (set_there s c.args.set _ t u (slot_of c)))

pub returns-clause-sound : goal.returns-clause-sound
returns-clause-sound c = sound_gone c.args.state.now c.args.set _ c.index_mut-tables.result.now c.take_pending.new.tables (slot_of c) c.take_pending.ensures.rest c.requires.sound
