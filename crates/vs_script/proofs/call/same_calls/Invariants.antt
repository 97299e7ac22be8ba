use Rattle.vs_script.specs.Calls.{call}
use Rattle.vs_script.proofs.Same.{AreSameBelow}
use Rattle.vs_script.proofs.call.same_calls.Given as goal

abbrev pub invariant-loop-i : goal.invariant-loop-i
invariant-loop-i l = AreSameBelow call l.i l.some.items l.others.items
