use Rattle.std.proofs.Common.{◌≡◌, ◌-◌, IfSome, sym, ap, subst, ◌∙◌}
use Rattle.std.specs.Option.{option_map}
use Rattle.vs_send.specs.declared.transfer.Phase.TheVariants.{Sealed, WaitingLast}
use Rattle.vs_machine.specs.Kinds.Sender.{in_phase}
use Rattle.vs_machine.specs.State.{is_draining_in}
use Rattle.vs_core.proofs.Moving.{transfer_is, transfer_written, sound_phase, if_some}
use Rattle.vs_core.proofs.Sets.{IsSlot, slot}
use Rattle.vs_core.proofs.moves.wait_for_last.Goals as goal

slot_of : (c : goal.After-state-1) → IsSlot c.args.state.now c.args.set (c.from.result - 1) c.index_mut-tables.result.now
slot_of c = slot c.args.state.now c.args.set c.from.result c.index_mut-tables.result.now c.requires.set c.requires.sound.sized (c.from.ensures ∙ c.get.ensures.value) c.index_mut-tables.ensures.value

pub returns-clause-waits : goal.returns-clause-waits
returns-clause-waits c =
    transfer_written c.args.state.now c.args.set _ c.index_mut-tables.result.now c.wait_for_last.new.tables (slot_of c) c.args.bucket (λ m. option_map (λ t. in_phase t (WaitingLast c.args.epoch c.args.sync)) m) c.wait_for_last.ensures.transfer

pub returns-clause-sound : goal.returns-clause-sound
returns-clause-sound c =
    let t = c.index_mut-tables.result.now in
    let u = c.wait_for_last.new.tables in
    let phase = WaitingLast c.args.epoch c.args.sync in
    let sealed = subst (λ m. IfSome m (λ t. t.phase ≡ Sealed)) (sym (transfer_is c.args.state.now c.args.set _ t u (slot_of c) c.args.bucket)) c.requires.sealed in
    sound_phase c.args.state.now c.args.set _ t u (slot_of c) c.args.bucket (λ _. phase) c.wait_for_last.ensures.transfer c.wait_for_last.ensures.refs
    (if_some _ (λ t. t.phase ≡ Sealed) (λ t. is_draining_in phase ≡ is_draining_in t.phase) (λ t sealed. sym (ap is_draining_in sealed)) sealed) c.requires.bucket c.requires.sound
