use Rattle.std.proofs.Common.{◌≡◌, true, sym, subst, ◌∙◌}
use Rattle.vs_cluster.specs.Still.{NobodyActs, NoCallIsAtSet}
use Rattle.vs_core.specs.Core.{means}
use Rattle.vs_state.specs.Plain.{plain}
use Rattle.vs_state.specs.declared.state.State as tables
use Rattle.vs_cluster.proofs.still.nobody_acts.Goals as goal
use Rattle.vs_cluster.proofs.still.nobody_acts.Goals.{then-no_call_is_at_set, else-no_call_is_at_set, then-no_operator_acts, else-no_operator_acts}

pub returns-then-no_mover_acts : goal.returns-then-no_mover_acts
returns-then-no_mover_acts c =
    elim c.if-no_operator_acts.branch [
      | then-no_operator_acts w ↦ elim c.if-no_call_is_at_set.branch [
        | then-no_call_is_at_set v ↦ (
          λ t. record {
            calls = subst (λ (s : tables.State). NoCallIsAtSet (plain s)) c.state.ensures.value (c.no_call_is_at_set.ensures.0 v.if-no_call_is_at_set.true);
            operators = v.no_operator_acts.ensures.0 (sym v.value-is ∙ w.if-no_operator_acts.true);
            movers = w.no_mover_acts.ensures.0 (sym w.value-is ∙ c.if-no_mover_acts.true);
            services = c.no_service_acts.ensures.0 t;
          },
          λ nobody. c.no_service_acts.ensures.1 nobody.services,
        )
        | else-no_call_is_at_set v ↦ absurd (cc (v.value-is, w.if-no_operator_acts.true))
      ]
      | else-no_operator_acts w ↦ absurd (cc (w.value-is, c.if-no_mover_acts.true))
    ]
