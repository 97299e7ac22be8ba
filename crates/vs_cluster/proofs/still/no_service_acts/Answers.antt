use Rattle.std.proofs.Common.{◌≡◌, ℕ, ◌+◌, Bool, true, subst}
use Rattle.vs_core.specs.Core.{means}
use Rattle.vs_machine.specs.Actors.{HasEvent, Service}
use Rattle.vs_state.specs.Plain.{plain}
use Rattle.vs_state.specs.declared.state.State as tables
use Rattle.vs_cluster.proofs.Numbers.{none_found, one_more}
use Rattle.vs_cluster.proofs.still.no_service_acts.Goals as goal
use Rattle.vs_cluster.proofs.still.no_service_acts.Goals.{else-up-via-then-up+else-is_some, else-up-via-else-up}

pub loop-index-preserved : goal.loop-index-preserved
loop-index-preserved c =
    let s = means c.args.core.now in
    let at : c.in-Some.set ≡ c.loop-index.index + 1 = c.in-Some.ensures.1 in
    let up_is : c.up.result ≡ s.up c.in-Some.set = subst (λ (t : tables.State). c.up.result ≡ (plain t).up c.in-Some.set) c.state-in-loop-index.ensures.value c.up.ensures in
    let here : s.up c.in-Some.set ≡ true → HasEvent s (Service c.in-Some.set) → ⊥ = elim c.else-up.branch [
      | else-up-via-then-up+else-is_some w ↦ λ up. w.next_service.ensures.none.0 (none_found w.next_service.result (cc (w.is_some.ensures, w.if-is_some.false)))
      | else-up-via-else-up w ↦ λ up. absurd (cc (up_is, up, w.if-up.false))
    ] in
    one_more (λ (k : ℕ). s.up k ≡ true → HasEvent s (Service k) → ⊥) c.loop-index.index c.in-Some.set at here c.loop-index.invariant
