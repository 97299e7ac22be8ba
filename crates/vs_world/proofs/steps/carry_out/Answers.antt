use Rattle.std.proofs.Common.{◌≡◌, Ok, sym, subst}
use Rattle.std.proofs.lemmas.Result.{err_from_is_err_and}
use Rattle.vs_core.specs.Core.{means}
use Rattle.vs_machine.specs.State.{State}
use Rattle.vs_machine.specs.Step.{step}
use Rattle.vs_state.specs.Guard.{verdict}
use Rattle.vs_world.proofs.steps.carry_out.Goals as goal

pub returns-in_err-reserve_for-clause-same : goal.returns-in_err-reserve_for-clause-same
returns-in_err-reserve_for-clause-same c = let p = err_from_is_err_and c.from_residual.result c.from_residual.ensures.1 in rw p.1 c.in_err-reserve_for.ensures.same

pub apply-requires-clause-possible : goal.apply-requires-clause-possible
apply-requires-clause-possible c = subst (λ (s : State). verdict (step s c.args.event.now) ≡ Ok tt) (sym c.in_ok-reserve_for.ensures.same) c.requires.possible

pub returns-clause-step : goal.returns-clause-step
returns-clause-step c = subst (λ (s : State). step s c.args.event.now ≡ Ok (means c.apply.new.self)) c.in_ok-reserve_for.ensures.same c.apply.ensures.step
