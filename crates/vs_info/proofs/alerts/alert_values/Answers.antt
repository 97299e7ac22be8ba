use Rattle.std.proofs.Common.{ℕ, ◌+◌, ◌++◌, List, take, ap, sym, ◌∙◌, arith}
use Rattle.std.specs.List.{flat_map, enumerate_from}
use Rattle.std.proofs.lemmas.List.{take_all}
use Rattle.serde_json.specs.Data.{Data}
use Rattle.vs_info.specs.declared.summary.SetSummary.{SetSummary}
use Rattle.vs_info.specs.Json.{set_alerts, disbalance}
use Rattle.vs_info.proofs.Enumerated.{lists_more}
use Rattle.vs_info.proofs.alerts.alert_values.Goals as goal

of_each : ℕ × SetSummary → List Data
of_each (x, set) = set_alerts x set

pub loop-i-preserved : goal.loop-i-preserved
unfolding of_each
loop-i-preserved c =
    c.in_ok-put_set_alerts.ensures
    ∙ ap (λ (texts : List Data). texts ++ set_alerts (c.loop-i.i + 1) c.index-sets-i.result) c.loop-i.invariant
    ∙ ap (λ n. flat_map of_each (enumerate_from 1 (take c.loop-i.i c.args.sets.now)) ++ set_alerts n c.index-sets-i.result) (omega arith)
    ∙ sym (lists_more of_each 1 c.args.sets.now c.loop-i.i c.index-sets-i.result c.loop-i-test.true c.index-sets-i.is)

pub returns : goal.returns
unfolding of_each
returns c =
    c.in_ok-put_disbalance.ensures
    ∙ ap (λ (texts : List Data). texts ++ disbalance c.args.is_unbalanced)
    (c.loop-i.invariant ∙ ap (λ sets. flat_map of_each (enumerate_from 1 sets)) (take_all c.loop-i.i c.args.sets.now c.loop-i-test.false))
