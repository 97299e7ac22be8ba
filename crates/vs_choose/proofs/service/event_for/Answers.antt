use Rattle.std.proofs.Common.{subst}
use Rattle.vs_machine.specs.Actors.{IsLeftAside, IsPossible}
use Rattle.vs_state.specs.declared.state.State as tables
use Rattle.vs_state.specs.Plain.{plain}
use Rattle.vs_choose.specs.Service.{IsIdleAt}
use Rattle.vs_choose.proofs.service.event_for.Goals as goal

pub returns-then-is_possible-clause-choice : goal.returns-then-is_possible-clause-choice
returns-then-is_possible-clause-choice c = record {
  choice = record {
    its_own = c.in_ok-event.ensures.own;
    possible = c.is_possible.ensures.0 c.if-is_possible.true;
    wanted = subst (λ (t : tables.State). IsLeftAside (plain t) c.in_ok-event.event → ⊥) c.state.ensures.value c.in_ok-event.ensures.wanted;
  };
  bare = c.in_ok-event.ensures.bare;
}

pub returns-else-is_possible-clause-none : goal.returns-else-is_possible-clause-none
returns-else-is_possible-clause-none c =
    let same = c.state.ensures.value in
    subst (λ (t : tables.State). IsIdleAt (plain t) c.args.set c.args.bucket) same
    (c.in_ok-event.ensures.only
    (λ h.
    let possible = c.is_possible.ensures.1 (subst (λ (t : tables.State). IsPossible (plain t) c.in_ok-event.event) same h) in
    absurd (cc (possible, c.if-is_possible.false))))
