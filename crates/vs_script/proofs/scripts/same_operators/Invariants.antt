use Rattle.vs_script.proofs.Same.{AreSameBelow}
use Rattle.vs_script.proofs.scripts.same_operators.Given as goal

abbrev pub invariant-loop-i : goal.invariant-loop-i
invariant-loop-i l = AreSameBelow (λ c. c.items) l.i l.some.items l.others.items
