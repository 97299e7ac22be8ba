use Rattle.std.proofs.Common.{◌≡◌, map, take}
use Rattle.std.specs.List.{enumerate_from}
use Rattle.vs_state.specs.Plain.{plain}
use Rattle.vs_info.specs.Summaries.{summary_of}
use Rattle.vs_info.proofs.summary.summaries.Given as goal

abbrev pub invariant-loop-i : goal.invariant-loop-i
invariant-loop-i l = l.sets.items ≡ map (λ (x, set). summary_of (plain l.state) x set.uuid) (enumerate_from 1 (take l.i l.config.sets.items))
