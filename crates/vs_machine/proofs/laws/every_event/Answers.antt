use Rattle.vs_machine.proofs.Owned.{owned_runs, single_owners, chosen_whole}
use Rattle.vs_machine.proofs.Reached.{reached_whole, reaches_on}
use Rattle.vs_machine.proofs.Steps.{step_whole}
use Rattle.vs_machine.proofs.laws.every_event.Goals as goal

pub returns : goal.returns
returns c = record { kept = step_whole; whole = reached_whole; owned = owned_runs; owner = single_owners; chosen = chosen_whole; reaches = reaches_on }
