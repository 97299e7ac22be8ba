use Rattle.std.proofs.Common.{◌-◌, None, refl, ap, ◌∙◌}
use Rattle.vs_machine.specs.State as machine
use Rattle.vs_state.specs.Plain.{plain}
use Rattle.vs_core.proofs.Moving.{entry_is}
use Rattle.vs_core.proofs.Raised.{sound_down}
use Rattle.vs_core.proofs.Sets.{IsSlot, slot, cell_written, with_entry_is}
use Rattle.vs_core.proofs.restoring.forget.Goals as goal

slot_of : (c : goal.After-state-1) → IsSlot c.args.state.now c.args.set (c.from.result - 1) c.index_mut-tables.result.now
slot_of c = slot c.args.state.now c.args.set c.from.result c.index_mut-tables.result.now c.requires.set c.requires.sound.sized (c.from.ensures ∙ c.get.ensures.value) c.index_mut-tables.ensures.value

pub forget-requires : goal.forget-requires
forget-requires c =
    let t = c.index_mut-tables.result.now in
    let o = slot c.args.state.now c.args.set c.from.result t c.requires.set c.requires.sound.sized (c.from.ensures ∙ c.get.ensures.value) c.index_mut-tables.ensures.value in
    entry_is c.args.state.now c.args.set _ t t o c.args.bucket ∙ c.requires.garbage

pub returns-clause-forgotten : goal.returns-clause-forgotten
returns-clause-forgotten c =
    let s = c.args.state.now in
    let b = c.args.bucket in
    cell_written s c.args.set _ c.index_mut-tables.result.now c.forget.new.tables (slot_of c) b (λ v. record v { entry = None }) c.forget.ensures.forgotten
    ∙ ap (machine.put_bucket (plain s) b) (with_entry_is ((plain s).bucket b) c.args.set None)

pub returns-clause-sound : goal.returns-clause-sound
returns-clause-sound c = sound_down c.args.state.now c.args.set _ c.index_mut-tables.result.now c.forget.new.tables (slot_of c) c.args.bucket _ c.forget.ensures.forgotten c.forget.ensures.refs refl c.requires.down c.requires.sound
