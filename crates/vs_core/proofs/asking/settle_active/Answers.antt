use Rattle.std.proofs.Common.{◌-◌, Some, sym, subst, ◌∙◌}
use Rattle.vs_space.specs.Status.{MayChange}
use Rattle.vs_space.specs.declared.status.Status.TheVariants.{Active}
use Rattle.vs_core.proofs.Hearing.{settled_written, active_sound}
use Rattle.vs_core.proofs.Moving.{entry_is}
use Rattle.vs_core.proofs.Sets.{IsSlot, slot}
use Rattle.vs_core.proofs.asking.settle_active.Goals as goal

slot_of : (c : goal.After-state-1) → IsSlot c.args.state.now c.args.set (c.from.result - 1) c.index_mut-tables.result.now
slot_of c = slot c.args.state.now c.args.set c.from.result c.index_mut-tables.result.now c.requires.set c.requires.sound.sized (c.from.ensures ∙ c.get.ensures.value) c.index_mut-tables.ensures.value

pub settle_active-requires : goal.settle_active-requires
settle_active-requires c =
    let t = c.index_mut-tables.result.now in
    let o = slot c.args.state.now c.args.set c.from.result t c.requires.set c.requires.sound.sized (c.from.ensures ∙ c.get.ensures.value) c.index_mut-tables.ensures.value in
    subst (λ e. MayChange e (Some Active)) (sym (entry_is c.args.state.now c.args.set _ t t o c.args.bucket)) c.requires.may

pub returns-clause-active : goal.returns-clause-active
returns-clause-active c = settled_written c.args.state.now c.args.set _ c.index_mut-tables.result.now c.settle_active.new.tables (slot_of c) c.args.bucket (Some Active) c.settle_active.ensures.active

pub returns-clause-sound : goal.returns-clause-sound
returns-clause-sound c =
    let t = c.index_mut-tables.result.now in
    active_sound c.args.state.now c.args.set _ t c.settle_active.new.tables (slot_of c) c.args.bucket c.settle_active.ensures.active c.settle_active.ensures.refs
    (subst (λ e. MayChange e (Some Active)) (sym (entry_is c.args.state.now c.args.set _ t t (slot_of c) c.args.bucket)) c.requires.may) c.requires.bucket c.requires.sound
