use Rattle.std.proofs.Common.{ℕ, List, [], ◌∷◌, ◌++◌, ap, ◌∙◌}
use Rattle.serde_json.specs.Written.{has_float, compact_text}
use Rattle.vs_info.proofs.Texts.{none_in_cluster}
use Rattle.vs_info.proofs.line.cluster_line.Goals as goal

pub returns : goal.returns
returns c =
    let is = c.in_ok-cluster_value.ensures in
    let none = none_in_cluster c.args.bucket_count c.args.sets.now c.args.is_unbalanced in
    c.in_ok-push.ensures.items ∙ ap (λ (text : List ℕ). text ++ 10 ∷ []) (c.in_ok-line.ensures.text (ap has_float is ∙ none) ∙ ap compact_text is)
