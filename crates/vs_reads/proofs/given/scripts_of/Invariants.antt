use Rattle.std.proofs.Common.{◌≡◌, map}
use Rattle.vs_script.specs.Calls.{calls}
use Rattle.vs_script.specs.Scripts.{Client, script}
use Rattle.vs_reads.proofs.given.scripts_of.Given as goal

abbrev pub invariant-loop-calls : goal.invariant-loop-calls
invariant-loop-calls l = map script l.scripts.items ≡ map Client (map (λ c. calls c.items) l.yielded)
