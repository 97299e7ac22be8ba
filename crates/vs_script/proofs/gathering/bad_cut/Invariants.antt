use Rattle.std.proofs.Common.{◌≡◌, ◌+◌, drop, map}
use Rattle.vs_script.specs.Gathering.{clients_in, cut_fault}
use Rattle.vs_script.specs.Scripts.{script}
use Rattle.vs_script.proofs.gathering.bad_cut.Given as goal

abbrev pub invariant-loop-i : goal.invariant-loop-i
invariant-loop-i l =
    cut_fault (clients_in (map script l.given)) l.place 1 l.commands
    ≡ cut_fault (clients_in (map script l.given)) l.place (l.i + 1) (drop l.i l.commands)
