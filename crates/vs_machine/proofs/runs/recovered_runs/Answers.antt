use Rattle.std.proofs.Common.{refl}
use Rattle.vs_machine.proofs.runs.recovered_runs.Goals as goal

pub returns : goal.returns
returns c = record {
  back = record { garbage = refl; aborted = refl; active = refl };
  forth = record { sent = refl; forgotten = refl };
  refused = record { aborted = refl; active = refl };
}
