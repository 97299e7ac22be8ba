use Rattle.vs_state.specs.Plain.{plain}
use Rattle.vs_core.specs.Opening.{AreBegun}
use Rattle.vs_core.proofs.opening.new_histories.Given as goal

abbrev pub invariant-loop-before : goal.invariant-loop-before
invariant-loop-before l = AreBegun (plain l.state) l.histories.items l.before
