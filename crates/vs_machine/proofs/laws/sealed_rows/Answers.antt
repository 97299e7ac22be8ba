use Rattle.vs_machine.proofs.Activations.{activated_runs}
use Rattle.vs_machine.proofs.laws.sealed_rows.Goals as goal

pub returns : goal.returns
returns c = activated_runs
