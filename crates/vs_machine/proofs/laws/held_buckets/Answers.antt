use Rattle.vs_machine.proofs.Choices.{unheld_runs}
use Rattle.vs_machine.proofs.laws.held_buckets.Goals as goal

pub returns : goal.returns
returns c = unheld_runs
