use Rattle.vs_machine.proofs.Choices.{choice_runs}
use Rattle.vs_machine.proofs.Reached.{coherent_runs, one_accepts}
use Rattle.vs_machine.proofs.laws.one_owner.Goals as goal

pub returns : goal.returns
returns c = record { coherent = coherent_runs; chosen = choice_runs; one = one_accepts }
