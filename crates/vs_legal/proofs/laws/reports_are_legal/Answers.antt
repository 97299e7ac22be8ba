use Rattle.vs_legal.proofs.Readable.{reports_are_legal}
use Rattle.vs_legal.proofs.laws.reports_are_legal.Goals as goal

pub returns : goal.returns
returns c = reports_are_legal
