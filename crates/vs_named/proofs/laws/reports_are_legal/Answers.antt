use Rattle.vs_named.proofs.Reports.{reports_are_legal}
use Rattle.vs_named.proofs.laws.reports_are_legal.Goals as goal

pub returns : goal.returns
returns c = reports_are_legal
