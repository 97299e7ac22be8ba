use Rattle.vs_machine.proofs.Causes.Calls.{caused_calls}
use Rattle.vs_machine.proofs.Causes.Moves.{caused_commands}
use Rattle.vs_machine.proofs.laws.caused_answers.Goals as goal

pub returns : goal.returns
returns c = record { calls = caused_calls; commands = caused_commands }
