use Rattle.std.proofs.Common.{◌-◌, Option, refl, sym, subst, ◌∙◌}
use Rattle.vs_space.specs.declared.status.Status.{Status}
use Rattle.vs_core.specs.Delivering.{IsOpenTo}
use Rattle.vs_core.proofs.Follows.{sound_kept}
use Rattle.vs_core.proofs.Moving.{entry_is}
use Rattle.vs_core.proofs.Arriving.{added_written, open_kept}
use Rattle.vs_core.proofs.Sets.{IsSlot, slot}
use Rattle.vs_core.proofs.Shown.{set_there}
use Rattle.vs_core.proofs.receiving.add_rows.Goals as goal

pub add_rows-requires-clause-open : goal.add_rows-requires-clause-open
add_rows-requires-clause-open c =
    let t = c.index_mut-tables.result.now in
    let o = slot c.args.state.now c.args.set c.from.result t c.requires.set c.requires.sound.sized (c.from.ensures ∙ c.get.ensures.value) c.index_mut-tables.ensures.value in
    subst (λ (e : Option Status). IsOpenTo e c.args.source) (sym (entry_is c.args.state.now c.args.set _ t t o c.args.bucket)) c.requires.open

pub add_rows-requires-clause-room : goal.add_rows-requires-clause-room
add_rows-requires-clause-room c =
    let t = c.index_mut-tables.result.now in
    let o = slot c.args.state.now c.args.set c.from.result t c.requires.set c.requires.sound.sized (c.from.ensures ∙ c.get.ensures.value) c.index_mut-tables.ensures.value in
    c.requires.room t (set_there c.args.state.now c.args.set _ t t o)

slot_of : (c : goal.After-state-1) → IsSlot c.args.state.now c.args.set (c.from.result - 1) c.index_mut-tables.result.now
slot_of c = slot c.args.state.now c.args.set c.from.result c.index_mut-tables.result.now c.requires.set c.requires.sound.sized (c.from.ensures ∙ c.get.ensures.value) c.index_mut-tables.ensures.value

pub returns-clause-added : goal.returns-clause-added
returns-clause-added c = added_written c.args.state.now c.args.set _ c.index_mut-tables.result.now c.add_rows.new.tables (slot_of c) c.args.bucket c.args.source c.args.page.items c.add_rows.ensures.added

pub returns-clause-sound : goal.returns-clause-sound
returns-clause-sound c =
    let t = c.index_mut-tables.result.now in
    let u = c.add_rows.new.tables in
    let kept = subst (λ (e : Option Status). IsOpenTo e c.args.source) (sym (entry_is c.args.state.now c.args.set _ t u (slot_of c) c.args.bucket)) c.requires.open in
    sound_kept c.args.state.now c.args.set _ t u (slot_of c) c.args.bucket _ c.add_rows.ensures.added c.requires.sound.agrees c.requires.sound c.add_rows.ensures.refs
    (sym (open_kept _ c.args.source kept)) refl refl c.requires.bucket
