use Rattle.std.proofs.Common.{◌≡◌, [], take, drop}
use Rattle.vs_config.specs.Reading.{first_double}
use Rattle.vs_config.proofs.read.double_in.Given as goal

abbrev pub invariant-loop-i : goal.invariant-loop-i
invariant-loop-i l = first_double [] l.sets ≡ first_double (take l.i l.sets) (drop l.i l.sets)
