use Rattle.vs_config.proofs.Tables.{found}
use Rattle.vs_config.proofs.table.lookup.Goals as goal

pub returns : goal.returns
returns c =
    rw (← c.name.ensures) (found c.get.result c.name.result.now c.args.table.now.entries c.get.ensures.value)
