use Rattle.std.specs.Prelude.{map}
use Rattle.vs_config.specs.Configuration.{configuration}
use Rattle.vs_script.specs.Scripts.{script}
use Rattle.vs_inputs.specs.Words.{texts}
use Rattle.vs_inputs.proofs.ScriptFiles.{ReadSoFar}
use Rattle.vs_inputs.proofs.scripts.read_script_files.Given as goal

abbrev pub invariant-loop-i : goal.invariant-loop-i
invariant-loop-i g l =
    ReadSoFar (configuration l.config) (texts l.names) (g.H.Host.told l.fn.host) (g.H.Host.told l.host) l.i (map script l.given.items)
