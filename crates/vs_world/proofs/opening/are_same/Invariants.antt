use Rattle.vs_record.specs.States.{durable}
use Rattle.vs_script.proofs.Same.{AreSameBelow}
use Rattle.vs_world.proofs.opening.are_same.Given as goal

abbrev pub invariant-loop-i : goal.invariant-loop-i
invariant-loop-i l = AreSameBelow durable l.i l.some l.others
