use Rattle.vs_core.specs.Opening.{AreOpenedSets}
use Rattle.vs_core.proofs.opening.opened_sets.Given as goal

abbrev pub invariant-loop-state : goal.invariant-loop-state
invariant-loop-state l = AreOpenedSets l.yielded l.sets.items
