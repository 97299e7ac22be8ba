use Rattle.std.proofs.Common.{◌≡◌, ◌-◌, IfSome, sym, subst, ◌∙◌}
use Rattle.std.specs.Option.{option_map}
use Rattle.vs_send.specs.Phases.{MayWait, waited}
use Rattle.vs_machine.specs.Kinds.Sender.{in_phase}
use Rattle.vs_machine.specs.State.{is_draining_in}
use Rattle.vs_core.proofs.Moving.{transfer_is, transfer_written, sound_phase, if_some, waited_drains}
use Rattle.vs_core.proofs.Sets.{IsSlot, slot}
use Rattle.vs_core.proofs.moves.wait_turn.Goals as goal

slot_of : (c : goal.After-state-1) → IsSlot c.args.state.now c.args.set (c.from.result - 1) c.index_mut-tables.result.now
slot_of c = slot c.args.state.now c.args.set c.from.result c.index_mut-tables.result.now c.requires.set c.requires.sound.sized (c.from.ensures ∙ c.get.ensures.value) c.index_mut-tables.ensures.value

pub returns-clause-waits : goal.returns-clause-waits
returns-clause-waits c =
    transfer_written c.args.state.now c.args.set _ c.index_mut-tables.result.now c.wait_turn.new.tables (slot_of c) c.args.bucket (λ m. option_map (λ t. in_phase t (waited t.phase)) m) c.wait_turn.ensures.transfer

pub returns-clause-sound : goal.returns-clause-sound
returns-clause-sound c =
    let t = c.index_mut-tables.result.now in
    let u = c.wait_turn.new.tables in
    let may = subst (λ m. IfSome m (λ t. MayWait t.phase)) (sym (transfer_is c.args.state.now c.args.set _ t u (slot_of c) c.args.bucket)) c.requires.may in
    sound_phase c.args.state.now c.args.set _ t u (slot_of c) c.args.bucket (λ t. waited t.phase) c.wait_turn.ensures.transfer c.wait_turn.ensures.refs
    (if_some _ (λ t. MayWait t.phase) (λ t. is_draining_in (waited t.phase) ≡ is_draining_in t.phase) (λ t may. waited_drains t.phase) may) c.requires.bucket c.requires.sound
