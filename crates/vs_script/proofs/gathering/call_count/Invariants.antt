use Rattle.std.proofs.Common.{◌≡◌, ◌-◌, drop, map, slice_get}
use Rattle.vs_script.specs.Gathering.{clients_in}
use Rattle.vs_script.specs.Scripts.{script}
use Rattle.vs_script.proofs.gathering.call_count.Given as goal

abbrev pub invariant-loop-one : goal.invariant-loop-one
invariant-loop-one l =
    slice_get (clients_in (map script l.fn.given)) (l.fn.client - 1)
    ≡ slice_get (clients_in (map script (drop l.one-index l.given))) l.before
