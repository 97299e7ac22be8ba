use Rattle.std.proofs.Common.{◌≡◌}
use Rattle.vs_state.specs.Plain.{plain}
use Rattle.vs_core.specs.Opened.{placement_of}
use Rattle.vs_core.proofs.coherence.placement.Given as goal

abbrev pub invariant-loop-index : goal.invariant-loop-index
invariant-loop-index l = l.entries.items ≡ placement_of ((plain l.state).bucket l.bucket).entry l.index
