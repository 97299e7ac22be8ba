-- What is made ready where a round begins.
use Rattle.std.specs.Prelude.{◌≡◌, ℕ, Ok}
use Rattle.vs_machine.specs.Kinds.Rebalancing.{plan, with_round}
use Rattle.vs_machine.specs.State as machine
use Rattle.vs_state.specs.declared.state.State.{State}
use Rattle.vs_state.specs.Plain.{plain}
use Rattle.vs_core.specs.Rooms.{HasAnswerRoom}
use Rattle.vs_core.specs.declared.kinds.plan.PreparedPlan.{PreparedPlan}
use Rattle.vs_core.specs.declared.kinds.plan.PreparedPlan.TheVariants.{Answer, Round}

-- an operator whose command is answered, or has a further round with these routes
abbrev pub after : machine.Operator → PreparedPlan → machine.Operator
after o (Answer outcome) = machine.answer o outcome
after o (Round routes) = with_round o routes.items

-- this is what the plan makes of the operator
abbrev pub IsPlanned : State → ℕ → PreparedPlan → Type 0
IsPlanned s o p = plan (plain s) o ≡ Ok (machine.put_operator (plain s) o (after ((plain s).operator o) p))

-- and an answer has room
pub record IsPlanReady (s : State) (o : ℕ) (p : PreparedPlan) : Type 0 where
  pub planned : IsPlanned s o p
  pub answer : HasAnswerRoom s o
