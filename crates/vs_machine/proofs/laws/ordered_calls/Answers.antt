use Rattle.vs_machine.proofs.Reached.{ordered_runs, fresh_runs, frozen_runs}
use Rattle.vs_machine.proofs.laws.ordered_calls.Goals as goal

pub returns : goal.returns
returns c = record { ordered = ordered_runs; fresh = fresh_runs; frozen = frozen_runs }
