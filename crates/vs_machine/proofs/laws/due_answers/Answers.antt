use Rattle.vs_machine.proofs.Due.Steps.{within_runs, posted_runs, transfer_runs}
use Rattle.vs_machine.proofs.laws.due_answers.Goals as goal

pub returns : goal.returns
returns c = record { within = within_runs; posted = posted_runs; begun = transfer_runs }
