use Rattle.std.proofs.Common.{◌≡◌, ◌-◌, IfSome, sym, subst, ◌∙◌}
use Rattle.std.specs.Option.{option_map}
use Rattle.vs_send.specs.Phases.{IsReady}
use Rattle.vs_send.specs.declared.transfer.Phase.TheVariants.{Waiting}
use Rattle.vs_machine.specs.Kinds.Sender.{in_phase}
use Rattle.vs_machine.specs.State.{is_draining_in}
use Rattle.vs_core.proofs.Moving.{transfer_is, transfer_written, sound_phase, if_some, ready_still}
use Rattle.vs_core.proofs.Sets.{IsSlot, slot}
use Rattle.vs_core.proofs.moves.wait_for_rows.Goals as goal

slot_of : (c : goal.After-state-1) → IsSlot c.args.state.now c.args.set (c.from.result - 1) c.index_mut-tables.result.now
slot_of c = slot c.args.state.now c.args.set c.from.result c.index_mut-tables.result.now c.requires.set c.requires.sound.sized (c.from.ensures ∙ c.get.ensures.value) c.index_mut-tables.ensures.value

pub returns-clause-waits : goal.returns-clause-waits
returns-clause-waits c =
    transfer_written c.args.state.now c.args.set _ c.index_mut-tables.result.now c.wait_for_rows.new.tables (slot_of c) c.args.bucket (λ m. option_map (λ t. in_phase t (Waiting c.args.epoch c.args.sync c.args.last)) m) c.wait_for_rows.ensures.transfer

pub returns-clause-sound : goal.returns-clause-sound
returns-clause-sound c =
    let t = c.index_mut-tables.result.now in
    let u = c.wait_for_rows.new.tables in
    let phase = Waiting c.args.epoch c.args.sync c.args.last in
    let ready = subst (λ m. IfSome m (λ t. IsReady t.phase)) (sym (transfer_is c.args.state.now c.args.set _ t u (slot_of c) c.args.bucket)) c.requires.ready in
    sound_phase c.args.state.now c.args.set _ t u (slot_of c) c.args.bucket (λ _. phase) c.wait_for_rows.ensures.transfer c.wait_for_rows.ensures.refs
    (if_some _ (λ t. IsReady t.phase) (λ t. is_draining_in phase ≡ is_draining_in t.phase) (λ t ready. sym (ready_still t.phase ready)) ready) c.requires.bucket c.requires.sound
