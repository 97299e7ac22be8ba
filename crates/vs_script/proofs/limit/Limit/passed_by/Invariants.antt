use Rattle.std.proofs.Common.{◌≡◌, ◌+◌, drop, map}
use Rattle.vs_script.specs.Gathering.{first_above, most_of}
use Rattle.vs_script.specs.Scripts.{script}
use Rattle.vs_script.proofs.limit.Limit.passed_by.Given as goal

abbrev pub invariant-loop-i : goal.invariant-loop-i
invariant-loop-i l =
    first_above l.self (most_of l.self) 1 (map script l.given)
    ≡ first_above l.self l.left (l.i + 1) (map script (drop l.i l.given))
