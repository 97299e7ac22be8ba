use Rattle.vs_named.proofs.Scripts.{scripts_are_named}
use Rattle.vs_named.proofs.laws.scripts_are_named.Goals as goal

pub returns : goal.returns
returns c = scripts_are_named
