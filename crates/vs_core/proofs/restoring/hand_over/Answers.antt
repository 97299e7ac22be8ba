use Rattle.std.proofs.Common.{◌-◌, Some, refl, sym, subst, ◌∙◌}
use Rattle.vs_space.specs.Status.{MayChange}
use Rattle.vs_space.specs.declared.status.Status.TheVariants.{Sent}
use Rattle.vs_core.proofs.Moving.{entry_is}
use Rattle.vs_core.proofs.Raised.{sent_written, sound_down, no_none}
use Rattle.vs_core.proofs.Sets.{IsSlot, slot}
use Rattle.vs_core.proofs.Shown.{set_there}
use Rattle.vs_core.proofs.restoring.hand_over.Goals as goal

slot_of : (c : goal.After-state-1) → IsSlot c.args.state.now c.args.set (c.from.result - 1) c.index_mut-tables.result.now
slot_of c = slot c.args.state.now c.args.set c.from.result c.index_mut-tables.result.now c.requires.set c.requires.sound.sized (c.from.ensures ∙ c.get.ensures.value) c.index_mut-tables.ensures.value

pub hand_over-requires-clause-allowed : goal.hand_over-requires-clause-allowed
hand_over-requires-clause-allowed c =
    let t = c.index_mut-tables.result.now in
    let o = slot c.args.state.now c.args.set c.from.result t c.requires.set c.requires.sound.sized (c.from.ensures ∙ c.get.ensures.value) c.index_mut-tables.ensures.value in
    subst (λ e. MayChange e (Some (Sent c.args.dest))) (sym (entry_is c.args.state.now c.args.set _ t t o c.args.bucket)) c.requires.allowed

pub hand_over-requires-clause-there : goal.hand_over-requires-clause-there
hand_over-requires-clause-there c =
    let t = c.index_mut-tables.result.now in
    let o = slot c.args.state.now c.args.set c.from.result t c.requires.set c.requires.sound.sized (c.from.ensures ∙ c.get.ensures.value) c.index_mut-tables.ensures.value in
    λ none. absurd (no_none _ (entry_is c.args.state.now c.args.set _ t t o c.args.bucket) c.requires.there none)

pub hand_over-requires-clause-room : goal.hand_over-requires-clause-room
hand_over-requires-clause-room c =
    let t = c.index_mut-tables.result.now in
    let o = slot c.args.state.now c.args.set c.from.result t c.requires.set c.requires.sound.sized (c.from.ensures ∙ c.get.ensures.value) c.index_mut-tables.ensures.value in
    c.requires.room t (set_there c.args.state.now c.args.set _ t t o)

pub returns-clause-sent : goal.returns-clause-sent
returns-clause-sent c = sent_written c.args.state.now c.args.set _ c.index_mut-tables.result.now c.hand_over.new.tables (slot_of c) c.args.bucket (Some (Sent c.args.dest)) c.args.place c.hand_over.ensures.sent

pub returns-clause-sound : goal.returns-clause-sound
returns-clause-sound c = sound_down c.args.state.now c.args.set _ c.index_mut-tables.result.now c.hand_over.new.tables (slot_of c) c.args.bucket _ c.hand_over.ensures.sent c.hand_over.ensures.refs refl c.requires.down c.requires.sound
