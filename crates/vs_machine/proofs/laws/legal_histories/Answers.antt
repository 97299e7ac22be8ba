use Rattle.vs_machine.proofs.Reached.{legal_runs, answered_runs}
use Rattle.vs_machine.proofs.Single.{single_runs}
use Rattle.vs_machine.proofs.Standing.{present_runs}
use Rattle.vs_machine.proofs.laws.legal_histories.Goals as goal

pub returns : goal.returns
returns c = record { legal = legal_runs; single = single_runs; answered = answered_runs; present = present_runs }
