use Rattle.vs_machine.proofs.Causes.Commands.{answered_commands}
use Rattle.vs_machine.proofs.Reached.{refused_runs}
use Rattle.vs_machine.proofs.laws.true_answers.Goals as goal

pub returns : goal.returns
returns c = record { refused = refused_runs; answered = answered_commands }
