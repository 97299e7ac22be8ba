use Rattle.std.proofs.Common.{◌≡◌, ap, subst}
use Rattle.std.proofs.lemmas.Result.{on_ok_weaker}
use Rattle.vs_machine.specs.State as machine
use Rattle.vs_state.specs.Plain.{plain}
use Rattle.vs_core.specs.References.{HasReferenceRoom}
use Rattle.vs_core.proofs.Shown.{set_known}
use Rattle.vs_core.proofs.kinds.begin.reserve_begin.Goals as goal

pub returns-then-not-has_set-clause-ready : goal.returns-then-not-has_set-clause-ready
returns-then-not-has_set-clause-ready c = λ x is t there.
    let has = set_known c.args.state.now c.requires.sound.sized x t there in
    absurd (cc (has, is, c.call_set.ensures, c.in-Some.is, c.has_set.ensures, c.if-not-has_set.true))

pub returns-clause-ready : goal.returns-clause-ready
returns-clause-ready c =
    on_ok_weaker c.reserve_reference.result (λ room x is.
    let same : ((plain c.reserve_reference.new.state).client c.args.client).present.set ≡ ((plain c.args.state.now).client c.args.client).present.set = ap (λ (s : machine.State). (s.client c.args.client).present.set) c.reserve_reference.ensures.same in
    let at : c.in-Some.set ≡ x = cc (same, is, c.call_set.ensures, c.in-Some.is) in
    subst (HasReferenceRoom c.reserve_reference.new.state) at room) c.reserve_reference.ensures.room
