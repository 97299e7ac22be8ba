use Rattle.vs_legal.proofs.Readable.{reports_read_back}
use Rattle.vs_legal.proofs.laws.reports_read_back.Goals as goal

pub returns : goal.returns
returns c = reports_read_back
