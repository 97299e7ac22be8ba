use Rattle.std.specs.Prelude.{map}
use Rattle.vs_config.specs.Configuration.{configuration}
use Rattle.vs_inputs.specs.Words.{texts}
use Rattle.vs_script.specs.Calls.{calls}
use Rattle.vs_reads.proofs.Files.{ReadSoFar}
use Rattle.vs_reads.proofs.scripts.read_calls_files.Given as goal

abbrev pub invariant-loop-i : goal.invariant-loop-i
invariant-loop-i g l =
    ReadSoFar (configuration l.config) (texts l.names) (g.H.Host.told l.fn.host) (g.H.Host.told l.host) l.i (map (λ c. calls c.items) l.clients.items)
