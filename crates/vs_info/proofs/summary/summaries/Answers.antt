use Rattle.std.proofs.Common.{◌≡◌, ℕ, ◌+◌, ◌<◌, ◌++◌, ◌∷◌, [], List, length, get_or, ap, sym, subst, ◌∙◌, arith}
use Rattle.vs_config.specs.declared.config.SetConfig.{SetConfig}
use Rattle.vs_machine.specs.State as machine
use Rattle.vs_state.specs.Plain.{plain}
use Rattle.vs_info.specs.declared.summary.SetSummary.{SetSummary}
use Rattle.vs_info.specs.Summaries.{summary_of}
use Rattle.vs_info.proofs.Enumerated.{values_more}
use Rattle.vs_info.proofs.summary.summaries.Goals as goal

of_each : machine.State → ℕ × SetConfig → SetSummary
of_each s (x, set) = summary_of s x set.uuid

pub loop-i-preserved : goal.loop-i-preserved
unfolding of_each
loop-i-preserved c =
    let s = plain c.args.state.now in
    let sets = c.args.config.now.sets.items in
    let i = c.loop-i.i in
    let item = c.set_config-item.result in
    let within : i < length sets = subst (λ (xs : List SetConfig). i < length xs) c.as_slice-set_config-items.ensures.value c.loop-i-test.true in
    let is : item ≡ get_or sets i item = subst (λ (xs : List SetConfig). item ≡ get_or xs i item) c.as_slice-set_config-items.ensures.value c.set_config-item.is in
    let number : c.in-Some.set ≡ 1 + i = omega (arith, c.in-Some.ensures) in
    c.in_ok-push.ensures.items
    ∙ ap (λ (x : SetSummary). c.loop-i.sets.items ++ x ∷ []) (c.summary.ensures ∙ ap (λ n. summary_of s n item.uuid) number)
    ∙ ap (λ (xs : List SetSummary). xs ++ summary_of s (1 + i) item.uuid ∷ []) c.loop-i.invariant
    ∙ sym (values_more (of_each s) 1 sets i item within is)
