use Rattle.std.proofs.Common.{◌≡◌, Ok, sym, subst, inl}
use Rattle.vs_machine.specs.State.{State}
use Rattle.vs_machine.specs.Step.{step}
use Rattle.vs_state.specs.Guard.{verdict}
use Rattle.vs_test_cluster.proofs.tests.choose.carry_out.Goals as goal

pub apply-requires-clause-possible : goal.apply-requires-clause-possible
apply-requires-clause-possible c = subst (λ (m : State). verdict (step m c.args.event.now) ≡ Ok tt) (sym c.in_ok-reserve_for.ensures.same) c.requires

pub apply-requires-clause-room : goal.apply-requires-clause-room
apply-requires-clause-room c = inl c.in_ok-reserve_for.ensures.ready
