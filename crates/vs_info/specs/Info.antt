-- What is told of a cluster: one line of compact JSON, as a function of the state.
use Rattle.std.specs.Prelude.{ℕ, List, ◌++◌, codes}
use Rattle.serde_json.specs.Written.{compact_text}
use Rattle.vs_machine.specs.Causes.Commands.{is_unbalanced}
use Rattle.vs_machine.specs.State.{State}
use Rattle.vs_info.specs.Json.{cluster_json}
use Rattle.vs_info.specs.Summaries.{summaries_of}

abbrev pub info_text : State → List ℕ
info_text s = compact_text (cluster_json s.config.bucket_count (summaries_of s) (is_unbalanced s)) ++ codes "\n"
