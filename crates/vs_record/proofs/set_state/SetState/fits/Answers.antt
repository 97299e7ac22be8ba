use Rattle.vs_record.specs.Change.{change}
use Rattle.vs_record.specs.States.{durable}
use Rattle.vs_record.proofs.Fitting.{same_test}
use Rattle.vs_record.proofs.set_state.SetState.fits.Goals as goal

pub returns-clause-test : goal.returns-clause-test
returns-clause-test c = same_test c.does_fit.result c.args.bucket_count (durable c.args.self.now) (change c.args.change.now) c.does_fit.ensures.0 c.does_fit.ensures.1
