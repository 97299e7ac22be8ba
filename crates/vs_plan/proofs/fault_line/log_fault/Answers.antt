use Rattle.std.proofs.Common.{refl}
use Rattle.vs_plan.specs.declared.fault.PlanFault.TheVariants as faults
use Rattle.vs_plan.proofs.Ending.{line_told}
use Rattle.vs_plan.proofs.fault_line.log_fault.Goals as goal

pub returns-in-Text : goal.returns-in-Text
returns-in-Text g c =
    rw c.in-Text.is
    (line_told (faults.Text c.in-Text.input c.in-Text.text) c.input_line-line.result 3 c.log_line.result (g.H.Host.told c.args.host.now) (g.H.Host.told c.log_line.new.host) tt c.input_line-line.ensures refl c.log_line.ensures)

pub returns-in-Read : goal.returns-in-Read
returns-in-Read g c =
    rw c.in-Read.is
    (line_told (faults.Read c.in-Read.input) c.read_line-line.result 5 c.log_line-in-Read.result (g.H.Host.told c.args.host.now) (g.H.Host.told c.log_line-in-Read.new.host) tt c.read_line-line.ensures refl c.log_line-in-Read.ensures)
