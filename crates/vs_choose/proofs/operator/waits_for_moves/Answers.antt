use Rattle.std.proofs.Common.{ℕ, sym, subst, arith}
use Rattle.std.specs.Prelude.{IsSome}
use Rattle.vs_event.specs.declared.event.Event.TheVariants.{Plan}
use Rattle.vs_machine.specs.Actors.{IsPossible}
use Rattle.vs_state.specs.declared.state.State as tables
use Rattle.vs_state.specs.Plain.{plain}
use Rattle.vs_state.specs.Sized.{OnlyItsBuckets}
use Rattle.vs_core.specs.Core.{means}
use Rattle.vs_choose.proofs.Plans.{no_plan}
use Rattle.vs_choose.proofs.operator.waits_for_moves.Goals as goal

pub first_moving-requires-clause-buckets : goal.first_moving-requires-clause-buckets
first_moving-requires-clause-buckets c =
    let known = (c.every_event.ensures.whole (means c.args.core.now) c.state-state.ensures.reached).1.known in
    subst (λ (t : tables.State). OnlyItsBuckets (plain t)) (sym c.state-state.ensures.value) known

pub returns-in-None : goal.returns-in-None
returns-in-None c = λ yes.
    let some : IsSome c.first_moving.result = grind (arith, yes, c.is_some.ensures) in
    subst (λ (t : tables.State). (o : ℕ) → IsPossible (plain t) (Plan o) → ⊥) c.state-state.ensures.value
    (no_plan (plain c.state-state.result.now) (sym c.in-None.ensures) (c.first_moving.ensures some))
