use Rattle.std.proofs.Common.{◌≡◌, ℕ, ◌+◌, refl, subst, arith}
use Rattle.vs_machine.specs.Actors.{HasEvent, IsChoice, Mover}
use Rattle.vs_machine.specs.State.{sets_of}
use Rattle.vs_core.specs.Core.{means}
use Rattle.vs_state.specs.Plain.{plain}
use Rattle.vs_state.specs.declared.state.State as tables
use Rattle.vs_cluster.proofs.Numbers.{found, none_found, one_more}
use Rattle.vs_cluster.proofs.still.no_mover_acts.Goals as goal

pub returns-then-is_some : goal.returns-then-is_some
returns-then-is_some c =
    let s = means c.args.core.now in
    let at : c.in-Some.set ≡ c.loop-index.index + 1 = c.in-Some.ensures.1 in
    let count : c.set_count-index-end.result ≡ sets_of s = subst (λ (t : tables.State). c.set_count-index-end.result ≡ sets_of (plain t)) c.state.ensures.value c.set_count-index-end.ensures.count in
    let has = found c.next_mover.result (IsChoice s (Mover c.in-Some.set)) c.next_mover.ensures.choice (cc (c.is_some.ensures, c.if-is_some.true)) in
    (λ f. absurd (cc f), λ none. absurd (none c.in-Some.set (omega (arith, at)) (omega (arith, at, c.loop-index-test.true, count)) has))

pub loop-index-preserved : goal.loop-index-preserved
loop-index-preserved c =
    let at : c.in-Some.set ≡ c.loop-index.index + 1 = c.in-Some.ensures.1 in
    one_more (λ (k : ℕ). HasEvent (means c.args.core.now) (Mover k) → ⊥) c.loop-index.index c.in-Some.set at
    (c.next_mover.ensures.none.0 (none_found c.next_mover.result (cc (c.is_some.ensures, c.if-is_some.false)))) c.loop-index.invariant

pub returns : goal.returns
returns c =
    let count : c.set_count-index-end.result ≡ sets_of (means c.args.core.now) = subst (λ (t : tables.State). c.set_count-index-end.result ≡ sets_of (plain t)) c.state.ensures.value c.set_count-index-end.ensures.count in
    (λ t x first last. c.loop-index.invariant x first (omega (arith, last, c.loop-index-test.false, count)), λ none. refl)
