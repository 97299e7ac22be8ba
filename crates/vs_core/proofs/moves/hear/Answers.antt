use Rattle.std.proofs.Common.{◌≡◌, ◌-◌, true, subst, sym, ◌∙◌}
use Rattle.std.specs.Prelude.{IsSome}
use Rattle.vs_machine.specs.State as machine
use Rattle.vs_state.specs.Plain.{plain}
use Rattle.vs_core.proofs.Hearing.{heard_written, sound_heard}
use Rattle.vs_core.proofs.Moving.{transfer_is}
use Rattle.vs_core.proofs.Sets.{IsSlot, slot}
use Rattle.vs_core.proofs.moves.hear.Goals as goal

slot_of : (c : goal.After-state-1) → IsSlot c.args.state.now c.args.set (c.from.result - 1) c.index_mut-tables.result.now
slot_of c = slot c.args.state.now c.args.set c.from.result c.index_mut-tables.result.now c.requires.set c.requires.sound.sized (c.from.ensures ∙ c.get.ensures.value) c.index_mut-tables.ensures.value

pub returns-clause-heard : goal.returns-clause-heard
returns-clause-heard c = heard_written c.args.state.now c.args.set _ c.index_mut-tables.result.now c.hear.new.tables (slot_of c) c.args.from c.args.heard.now c.hear.ensures.transfer

pub returns-clause-sound : goal.returns-clause-sound
returns-clause-sound c =
    let s = c.args.state.now in
    let t = c.index_mut-tables.result.now in
    let u = c.hear.new.tables in
    let b = c.args.heard.now.bucket in
    sound_heard s c.args.set _ t u (slot_of c) c.args.from c.args.heard.now c.hear.ensures.transfer c.hear.ensures.refs
    (subst (λ m. IsSome m → machine.has_bucket (plain s) b ≡ true) (sym (transfer_is s c.args.set _ t u (slot_of c) b)) c.requires.bucket) c.requires.sound
