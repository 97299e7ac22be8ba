use Rattle.std.proofs.Common.{◌≡◌, ℕ, ◌+◌, length, ap, arith}
use Rattle.vs_event.specs.declared.event.Event.TheVariants.{Haul}
use Rattle.vs_machine.specs.Actors.{IsPossible}
use Rattle.vs_state.specs.declared.state.State as tables
use Rattle.vs_core.specs.Core.{means}
use Rattle.vs_choose.proofs.Chosen.{one_more}
use Rattle.vs_choose.proofs.Movers.{no_hauls}
use Rattle.vs_choose.proofs.mover.next_haul.Goals as goal

pub loop-index-preserved : goal.loop-index-preserved
loop-index-preserved c =
    let at : c.in_ok-operator.operator ≡ c.loop-index.index + 1 = c.in_ok-operator.ensures.1 in
    one_more (λ (k : ℕ). (d : ℕ) → IsPossible (means c.args.core.now) (Haul k c.args.set d) → ⊥) c.loop-index.index c.in_ok-operator.operator at
    c.in_default.ensures.none c.loop-index.invariant

pub returns-clause-none : goal.returns-clause-none
returns-clause-none c =
    let count = ap (λ (t : tables.State). length t.operators.items) c.state-state.ensures.value in
    no_hauls (means c.args.core.now) c.args.set (λ o first last. c.loop-index.invariant o first (omega (arith, count)))
