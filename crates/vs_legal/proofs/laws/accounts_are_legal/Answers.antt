use Rattle.vs_legal.proofs.Audited.{accounts_are_legal}
use Rattle.vs_legal.proofs.laws.accounts_are_legal.Goals as goal

pub returns : goal.returns
returns c = accounts_are_legal
