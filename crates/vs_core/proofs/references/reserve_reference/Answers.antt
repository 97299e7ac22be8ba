use Rattle.std.proofs.Common.{◌≤◌, ◌-◌, ◌∙◌}
use Rattle.std.proofs.lemmas.Result.{on_ok_weaker}
use Rattle.vs_core.proofs.SetRefs.{plain_refs, sound_refs}
use Rattle.vs_core.proofs.Shown.{written_there}
use Rattle.vs_core.proofs.Sets.{IsSlot, slot}
use Rattle.vs_core.proofs.references.reserve_reference.Goals as goal

here : (c : goal.After-state-1) → IsSlot c.args.state.now c.args.set (c.from.result - 1) c.index_mut-tables.result.now
here c = slot c.args.state.now c.args.set c.from.result c.index_mut-tables.result.now c.requires.set c.requires.sound.sized (c.from.ensures ∙ c.get.ensures.value) c.index_mut-tables.ensures.value

pub returns-clause-room : goal.returns-clause-room
returns-clause-room c = on_ok_weaker c.reserve_in.result (λ room. written_there c.args.state.now c.args.set _ c.index_mut-tables.result.now c.reserve_in.new.tables (here c) (λ v. 1 ≤ v.refs.room) room) c.reserve_in.ensures.room

pub returns-clause-same : goal.returns-clause-same
returns-clause-same c = plain_refs c.args.state.now c.args.set _ c.index_mut-tables.result.now c.reserve_in.new.tables (here c) c.reserve_in.ensures.rest

pub returns-clause-sound : goal.returns-clause-sound
returns-clause-sound c = sound_refs c.args.state.now c.args.set _ c.index_mut-tables.result.now c.reserve_in.new.tables (here c) c.reserve_in.ensures.rest c.reserve_in.ensures.items c.requires.sound
