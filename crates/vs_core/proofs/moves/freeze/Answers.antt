use Rattle.std.proofs.Common.{◌-◌, None, Some, sym, ap, ◌∙◌}
use Rattle.std.specs.Option.{option_map}
use Rattle.vs_send.specs.declared.transfer.Phase.TheVariants.{Ready}
use Rattle.vs_space.specs.declared.status.Status.TheVariants.{Sending}
use Rattle.vs_machine.specs.Kinds.Collection.{is_garbage}
use Rattle.vs_machine.specs.Kinds.Sender.{in_phase}
use Rattle.vs_core.proofs.Follows.{sound_follow}
use Rattle.vs_core.proofs.Moving.{entry_is, frozen_written}
use Rattle.vs_core.proofs.Sets.{IsSlot, slot}
use Rattle.vs_core.proofs.moves.freeze.Goals as goal

slot_of : (c : goal.After-state-1) → IsSlot c.args.state.now c.args.set (c.from.result - 1) c.index_mut-tables.result.now
slot_of c = slot c.args.state.now c.args.set c.from.result c.index_mut-tables.result.now c.requires.set c.requires.sound.sized (c.from.ensures ∙ c.get.ensures.value) c.index_mut-tables.ensures.value

pub returns-clause-frozen : goal.returns-clause-frozen
returns-clause-frozen c =
    frozen_written c.args.state.now c.args.set _ c.index_mut-tables.result.now c.freeze.new.tables (slot_of c) c.args.bucket (Some (Sending c.args.dest)) (λ m. option_map (λ t. in_phase t (Ready None)) m) c.freeze.ensures.frozen

pub returns-clause-sound : goal.returns-clause-sound
returns-clause-sound c =
    let t = c.index_mut-tables.result.now in
    let u = c.freeze.new.tables in
    sound_follow c.args.state.now c.args.set _ t u (slot_of c) c.args.bucket _ c.freeze.ensures.frozen c.requires.sound.agrees c.requires.sound c.freeze.ensures.refs
    (sym (ap is_garbage (entry_is c.args.state.now c.args.set _ t u (slot_of c) c.args.bucket ∙ c.requires.active))) c.requires.bucket
