use Rattle.vs_top.proofs.fault_line.log_short.Goals as goal

pub returns : goal.returns
returns g c = record { status_is = c.status.ensures; logged = (c.log.result, rw (← c.requires) c.log.ensures) }
