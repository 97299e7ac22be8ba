use Rattle.std.proofs.Common.{◌≡◌, ◌≤◌, ◌++◌, ◌∷◌, [], ℕ, List, length, IfOk, sym, ap, ap₂, subst, ◌∙◌}
use Rattle.serde_json.specs.Written.{compact_text}
use Rattle.vs_config.specs.Configuration.{Configuration}
use Rattle.vs_machine.specs.Causes.Commands.{is_unbalanced}
use Rattle.vs_machine.specs.Laws.{WholeRuns}
use Rattle.vs_machine.specs.Runs.{IsReached}
use Rattle.vs_state.specs.declared.state.State.{State}
use Rattle.vs_state.specs.Plain.{plain}
use Rattle.vs_state.specs.Sized.{OnlyItsBuckets}
use Rattle.vs_info.specs.Json.{cluster_json}
use Rattle.vs_info.specs.Summaries.{summaries_of}
use Rattle.vs_info.proofs.line.info.Goals as goal

-- only buckets of the cluster have entries in a state that is reached
known : (core s : State) → s ≡ core → IsReached (plain core) → WholeRuns → OnlyItsBuckets (plain s)
known core s same reached whole = subst (λ (t : State). OnlyItsBuckets (plain t)) (sym same) (whole (plain core) reached).1.known

pub summaries-requires-clause-config : goal.summaries-requires-clause-config
summaries-requires-clause-config c = c.requires ∙ ap (λ (s : State). (plain s).config) (sym c.state-state.ensures.value)

pub summaries-requires-clause-buckets : goal.summaries-requires-clause-buckets
summaries-requires-clause-buckets c =
    known c.args.core.now.state c.state-state.result.now c.state-state.ensures.value c.state-state.ensures.reached c.every_event.ensures.whole

pub is_disbalanced-requires-clause-sets : goal.is_disbalanced-requires-clause-sets
is_disbalanced-requires-clause-sets c =
    subst (λ (s : State). length s.config.sets.items ≤ 32) (sym c.state-state.ensures.value)
    (c.given_inputs.ensures.inputs (plain c.args.core.now.state) c.state-state.ensures.reached).lawful.sets.1

pub is_disbalanced-requires-clause-buckets : goal.is_disbalanced-requires-clause-buckets
is_disbalanced-requires-clause-buckets c =
    known c.args.core.now.state c.state-state.result.now c.state-state.ensures.value c.state-state.ensures.reached c.every_event.ensures.whole

pub returns : goal.returns
returns c =
    let s = plain c.args.core.now.state in
    let core = c.state-state.ensures.value in
    let sets = c.deref.ensures.value ∙ c.in_ok-sets.ensures ∙ ap (λ (t : State). summaries_of (plain t)) core in
    let far = c.in_ok-is_unbalanced.ensures ∙ ap (λ (t : State). is_unbalanced (plain t)) core in
    let buckets = ap (λ (k : Configuration). k.bucket_count) c.requires in
    let same : cluster_json c.args.config.now.bucket_count c.deref.result.now c.in_ok-is_unbalanced.is_unbalanced ≡ cluster_json s.config.bucket_count (summaries_of s) (is_unbalanced s) =
    ap (λ n. cluster_json n c.deref.result.now c.in_ok-is_unbalanced.is_unbalanced) buckets ∙ ap₂ (cluster_json s.config.bucket_count) sets far in
    subst (λ (text : List ℕ). IfOk c.cluster_line.result (λ line. line.items ≡ text)) (ap (λ json. compact_text json ++ 10 ∷ []) same) c.cluster_line.ensures
