use Rattle.std.proofs.Common.{◌-◌, sym, ap, subst, ◌∙◌}
use Rattle.vs_state.specs.declared.tables.SetTables.{SetTables}
use Rattle.vs_state.specs.Plain.{plain}
use Rattle.vs_core.specs.Keeps.{IsSound}
use Rattle.vs_core.proofs.GoingDown.{plain_marked, sound_marked}
use Rattle.vs_core.proofs.Sets.{IsSlot, slot, written}
use Rattle.vs_core.proofs.kinds.fault.mark.Goals as goal

here : (c : goal.After-state-1) → IsSlot c.args.state.now c.args.set (c.from.result - 1) c.index_mut-tables.result.now
here c = slot c.args.state.now c.args.set c.from.result c.index_mut-tables.result.now c.requires.set c.requires.sound.sized (c.from.ensures ∙ c.get.ensures.value) c.index_mut-tables.ensures.value

pub returns-clause-marked : goal.returns-clause-marked
returns-clause-marked c =
    let s = c.args.state.now in
    let k = c.from.result - 1 in
    ap (λ (u : SetTables). plain (written s k u)) c.mark_in.ensures ∙ plain_marked s c.args.set k c.index_mut-tables.result.now (here c) c.args.number c.args.change

pub returns-clause-sound : goal.returns-clause-sound
returns-clause-sound c =
    let s = c.args.state.now in
    let k = c.from.result - 1 in
    subst (λ (u : SetTables). IsSound (written s k u)) (sym c.mark_in.ensures) (sound_marked s c.args.set k c.index_mut-tables.result.now (here c) c.args.number c.args.change c.requires.sound)
