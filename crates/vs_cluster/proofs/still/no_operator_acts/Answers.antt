use Rattle.std.proofs.Common.{◌≡◌, ℕ, ◌+◌, refl, ap, length, arith}
use Rattle.vs_choose.specs.Restart.{IsBareChoice}
use Rattle.vs_machine.specs.Actors.{HasEvent, Operator}
use Rattle.vs_core.specs.Core.{means}
use Rattle.vs_state.specs.declared.state.State as tables
use Rattle.vs_cluster.proofs.Numbers.{chosen, found, none_found, one_more}
use Rattle.vs_cluster.proofs.still.no_operator_acts.Goals as goal

pub returns-then-is_some : goal.returns-then-is_some
returns-then-is_some c =
    let s = means c.args.core.now in
    let at : c.in-Some.operator ≡ c.loop-index.index + 1 = c.in-Some.ensures.1 in
    let count = ap (λ (t : tables.State). length t.operators.items) c.state.ensures.value in
    let has = found c.next_operator.result (IsBareChoice s (Operator c.in-Some.operator)) c.next_operator.ensures.choice (cc (c.is_some.ensures, c.if-is_some.true)) in
    (λ f. absurd (cc f), λ none. absurd (none c.in-Some.operator (omega (arith, at)) (omega (arith, at, count)) (chosen s (Operator c.in-Some.operator) has)))

pub loop-index-preserved : goal.loop-index-preserved
loop-index-preserved c =
    let at : c.in-Some.operator ≡ c.loop-index.index + 1 = c.in-Some.ensures.1 in
    one_more (λ (k : ℕ). HasEvent (means c.args.core.now) (Operator k) → ⊥) c.loop-index.index c.in-Some.operator at
    (c.next_operator.ensures.none.0 (none_found c.next_operator.result (cc (c.is_some.ensures, c.if-is_some.false)))) c.loop-index.invariant

pub returns : goal.returns
returns c =
    let count = ap (λ (t : tables.State). length t.operators.items) c.state.ensures.value in
    (λ t o first last. c.loop-index.invariant o first (omega (arith, last, count)), λ none. refl)
