use Rattle.std.proofs.Common.{◌≡◌, ℕ, ◌≤◌, Some, sym, ap, subst, ◌∙◌, arith}
use Rattle.std.specs.Option.{option_copied, option_map}
use Rattle.vs_core.specs.Core.{means}
use Rattle.vs_machine.specs.Actors.{IsHinted, IsStranded, WouldGrant}
use Rattle.vs_machine.specs.State.{next_call}
use Rattle.vs_script.specs.Calls.{call}
use Rattle.vs_state.specs.Plain.{plain}
use Rattle.vs_state.specs.declared.state.State as tables
use Rattle.vs_cluster.proofs.Posts.{hinted, unsteered}
use Rattle.vs_cluster.proofs.steering.steering_of.Goals as goal

pub returns-then-is_hint : goal.returns-then-is_hint
returns-then-is_hint c =
    let s = means c.args.core.now in
    let k = call c.in-Some.call.now in
    let value = c.state-state.ensures.value in
    let called : next_call (s.client c.args.client) ≡ Some k = subst (λ (t : tables.State). next_call ((plain t).client c.args.client) ≡ Some k) value (sym c.next_call.ensures ∙ ap (λ r. option_map call (option_copied r)) c.in-Some.is) in
    let further : 1 ≤ (s.client c.args.client).present.tries = subst (λ (t : tables.State). 1 ≤ ((plain t).client c.args.client).present.tries) value (omega (arith, c.tries.ensures, c.if-tries-eq0.false)) in
    let refused : WouldGrant s c.args.set k → ⊥ = λ grants. absurd (cc (c.would_grant.ensures.1 (subst (λ (t : tables.State). WouldGrant (plain t) c.args.set k) (sym value) grants), c.if-would_grant.false)) in
    let moving : IsStranded s k → ⊥ = λ so. absurd (cc (c.is_stranded.ensures.1 so, c.if-is_stranded.false)) in
    hinted s c.args.client c.args.set k called further refused moving
    (subst (λ (t : tables.State). IsHinted (plain t) c.args.client c.args.set) value (c.is_hint.ensures.0 c.if-is_hint.true))

pub returns : goal.returns
returns c =
    let s = means c.args.core.now in
    let k = call c.in-Some.call.now in
    let value = c.state-state.ensures.value in
    let called : next_call (s.client c.args.client) ≡ Some k = subst (λ (t : tables.State). next_call ((plain t).client c.args.client) ≡ Some k) value (sym c.next_call.ensures ∙ ap (λ r. option_map call (option_copied r)) c.in-Some.is) in
    let further : 1 ≤ (s.client c.args.client).present.tries = subst (λ (t : tables.State). 1 ≤ ((plain t).client c.args.client).present.tries) value (omega (arith, c.tries.ensures, c.if-tries-eq0.false)) in
    let refused : WouldGrant s c.args.set k → ⊥ = λ grants. absurd (cc (c.would_grant.ensures.1 (subst (λ (t : tables.State). WouldGrant (plain t) c.args.set k) (sym value) grants), c.if-would_grant.false)) in
    let moving : IsStranded s k → ⊥ = λ so. absurd (cc (c.is_stranded.ensures.1 so, c.if-is_stranded.false)) in
    unsteered s c.args.client c.args.set k called further refused moving
    (λ hint. absurd (cc (c.is_hint.ensures.1 (subst (λ (t : tables.State). IsHinted (plain t) c.args.client c.args.set) (sym value) hint), c.if-is_hint.false)))
