use Rattle.std.proofs.Common.{take}
use Rattle.std.specs.List.{All}
use Rattle.vs_core.specs.Core.{means}
use Rattle.vs_choose.specs.Mover.{HasNoMove}
use Rattle.vs_choose.proofs.mover.next_move.Given as goal

abbrev pub invariant-loop-entry : goal.invariant-loop-entry
invariant-loop-entry l = All (λ e. HasNoMove (means l.core) l.set e.0) (take l.entry-index l.entry-items)
