use Rattle.std.proofs.Common.{◌≡◌, ◌-◌, IfSome, Some, sym, ap, subst, ◌∙◌}
use Rattle.std.specs.Option.{option_map}
use Rattle.vs_send.specs.declared.transfer.Phase.TheVariants.{Copied, Sealed}
use Rattle.vs_space.specs.declared.status.Status.TheVariants.{Sent}
use Rattle.vs_machine.specs.Kinds.Collection.{is_garbage}
use Rattle.vs_machine.specs.Kinds.Sender.{in_phase}
use Rattle.vs_machine.specs.State.{is_draining_in}
use Rattle.vs_core.proofs.Follows.{sound_kept}
use Rattle.vs_core.proofs.Moving.{entry_is, transfer_is, sealed_written, if_some, same_draining, same_haul}
use Rattle.vs_core.proofs.Sets.{IsSlot, slot}
use Rattle.vs_core.proofs.moves.seal.Goals as goal

slot_of : (c : goal.After-state-1) → IsSlot c.args.state.now c.args.set (c.from.result - 1) c.index_mut-tables.result.now
slot_of c = slot c.args.state.now c.args.set c.from.result c.index_mut-tables.result.now c.requires.set c.requires.sound.sized (c.from.ensures ∙ c.get.ensures.value) c.index_mut-tables.ensures.value

pub returns-clause-sealed : goal.returns-clause-sealed
returns-clause-sealed c =
    sealed_written c.args.state.now c.args.set _ c.index_mut-tables.result.now c.seal.new.tables (slot_of c) c.args.bucket (Some (Sent c.args.dest)) c.args.place (λ m. option_map (λ t. in_phase t Sealed) m) c.seal.ensures.sealed

pub returns-clause-sound : goal.returns-clause-sound
returns-clause-sound c =
    let t = c.index_mut-tables.result.now in
    let u = c.seal.new.tables in
    let copied = subst (λ m. IfSome m (λ t. t.phase ≡ Copied)) (sym (transfer_is c.args.state.now c.args.set _ t u (slot_of c) c.args.bucket)) c.requires.copied in
    sound_kept c.args.state.now c.args.set _ t u (slot_of c) c.args.bucket _ c.seal.ensures.sealed c.requires.sound.agrees c.requires.sound c.seal.ensures.refs
    (sym (ap is_garbage (entry_is c.args.state.now c.args.set _ t u (slot_of c) c.args.bucket ∙ c.requires.sending)))
    (same_draining _ (λ _. Sealed) (if_some _ (λ t. t.phase ≡ Copied) (λ t. is_draining_in Sealed ≡ is_draining_in t.phase) (λ t copied. sym (ap is_draining_in copied)) copied))
    (same_haul _ (λ _. Sealed)) c.requires.bucket
