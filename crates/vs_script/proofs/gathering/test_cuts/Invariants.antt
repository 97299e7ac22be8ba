use Rattle.std.proofs.Common.{◌≡◌, ◌+◌, drop, map}
use Rattle.vs_script.specs.Gathering.{clients_in, cuts_fault}
use Rattle.vs_script.specs.Scripts.{script}
use Rattle.vs_script.proofs.gathering.test_cuts.Given as goal

abbrev pub invariant-loop-i : goal.invariant-loop-i
invariant-loop-i l =
    cuts_fault (clients_in (map script l.given)) 1 (map script l.given)
    ≡ cuts_fault (clients_in (map script l.given)) (l.i + 1) (map script (drop l.i l.given))
