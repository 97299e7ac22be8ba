use Rattle.std.proofs.Common.{◌-◌, Some, refl, sym, ap, subst, ◌∙◌}
use Rattle.vs_space.specs.Status.{MayChange}
use Rattle.vs_machine.specs.State as machine
use Rattle.vs_state.specs.Plain.{plain}
use Rattle.vs_core.proofs.Moving.{entry_is}
use Rattle.vs_core.proofs.Raised.{sound_down, no_none}
use Rattle.vs_core.proofs.Sets.{IsSlot, slot, cell_written, with_entry_is}
use Rattle.vs_core.proofs.restoring.change_status.Goals as goal

slot_of : (c : goal.After-state-1) → IsSlot c.args.state.now c.args.set (c.from.result - 1) c.index_mut-tables.result.now
slot_of c = slot c.args.state.now c.args.set c.from.result c.index_mut-tables.result.now c.requires.set c.requires.sound.sized (c.from.ensures ∙ c.get.ensures.value) c.index_mut-tables.ensures.value

pub change_status-requires-clause-allowed : goal.change_status-requires-clause-allowed
change_status-requires-clause-allowed c =
    let t = c.index_mut-tables.result.now in
    let o = slot c.args.state.now c.args.set c.from.result t c.requires.set c.requires.sound.sized (c.from.ensures ∙ c.get.ensures.value) c.index_mut-tables.ensures.value in
    subst (λ e. MayChange e (Some c.args.status)) (sym (entry_is c.args.state.now c.args.set _ t t o c.args.bucket)) c.requires.allowed

pub change_status-requires-clause-room : goal.change_status-requires-clause-room
change_status-requires-clause-room c =
    let t = c.index_mut-tables.result.now in
    let o = slot c.args.state.now c.args.set c.from.result t c.requires.set c.requires.sound.sized (c.from.ensures ∙ c.get.ensures.value) c.index_mut-tables.ensures.value in
    λ none. absurd (no_none _ (entry_is c.args.state.now c.args.set _ t t o c.args.bucket) c.requires.there none)

pub returns-clause-changed : goal.returns-clause-changed
returns-clause-changed c =
    let s = c.args.state.now in
    let b = c.args.bucket in
    let e = Some c.args.status in
    cell_written s c.args.set _ c.index_mut-tables.result.now c.change_status.new.tables (slot_of c) b (λ v. record v { entry = e }) c.change_status.ensures.changed
    ∙ ap (machine.put_bucket (plain s) b) (with_entry_is ((plain s).bucket b) c.args.set e)

pub returns-clause-sound : goal.returns-clause-sound
returns-clause-sound c = sound_down c.args.state.now c.args.set _ c.index_mut-tables.result.now c.change_status.new.tables (slot_of c) c.args.bucket _ c.change_status.ensures.changed c.change_status.ensures.refs refl c.requires.down c.requires.sound
