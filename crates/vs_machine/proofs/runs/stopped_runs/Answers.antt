use Rattle.std.proofs.Common.{refl}
use Rattle.std.specs.Fmt.{digits}
use Rattle.vs_machine.proofs.runs.stopped_runs.Goals as goal

pub returns : goal.returns
unfolding digits
returns c = record {
  failed = record { kept = refl; bare = refl };
  cut = record { running = refl; late = refl; early = refl };
  spent = record { spent = refl; post = refl; early = refl };
}
