use Rattle.std.proofs.Common.{◌-◌, Some, sym, subst, ◌∙◌}
use Rattle.vs_space.specs.Status.{MayChange}
use Rattle.vs_space.specs.declared.status.Status.TheVariants.{Garbage}
use Rattle.vs_core.proofs.Hearing.{settled_written, sound_garbage, up_is}
use Rattle.vs_core.proofs.Moving.{entry_is}
use Rattle.vs_core.proofs.Sets.{IsSlot, slot}
use Rattle.vs_core.proofs.asking.settle_garbage.Goals as goal

slot_of : (c : goal.After-state-1) → IsSlot c.args.state.now c.args.set (c.from.result - 1) c.index_mut-tables.result.now
slot_of c = slot c.args.state.now c.args.set c.from.result c.index_mut-tables.result.now c.requires.set c.requires.sound.sized (c.from.ensures ∙ c.get.ensures.value) c.index_mut-tables.ensures.value

pub settle_garbage-requires-clause-may : goal.settle_garbage-requires-clause-may
settle_garbage-requires-clause-may c =
    let t = c.index_mut-tables.result.now in
    let o = slot c.args.state.now c.args.set c.from.result t c.requires.set c.requires.sound.sized (c.from.ensures ∙ c.get.ensures.value) c.index_mut-tables.ensures.value in
    subst (λ e. MayChange e (Some Garbage)) (sym (entry_is c.args.state.now c.args.set _ t t o c.args.bucket)) c.requires.may

pub returns-clause-garbage : goal.returns-clause-garbage
returns-clause-garbage c = settled_written c.args.state.now c.args.set _ c.index_mut-tables.result.now c.settle_garbage.new.tables (slot_of c) c.args.bucket (Some Garbage) c.settle_garbage.ensures.garbage

pub returns-clause-sound : goal.returns-clause-sound
returns-clause-sound c =
    let s = c.args.state.now in
    let t = c.index_mut-tables.result.now in
    let u = c.settle_garbage.new.tables in
    sound_garbage s c.args.set _ t u (slot_of c) c.args.bucket c.settle_garbage.ensures.garbage c.settle_garbage.ensures.locks c.requires.sound.agrees (up_is s c.args.set _ t u (slot_of c) ∙ c.requires.up) c.requires.sound
