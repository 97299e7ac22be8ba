use Rattle.std.proofs.Common.{refl}
use Rattle.vs_auditing.specs.declared.fault.ReportFault.TheVariants as faults
use Rattle.vs_auditing.proofs.LoggedLines.{tells}
use Rattle.vs_auditing.proofs.fault_line.log_fault.Goals as goal

pub returns-in-BadReport : goal.returns-in-BadReport
returns-in-BadReport g c = rw c.in-BadReport.is (tells (faults.BadReport c.in-BadReport.number) 3 _ _ _ _ tt refl c.bad_line-line.ensures c.log_line.ensures)

pub returns-in-Read : goal.returns-in-Read
returns-in-Read g c = rw c.in-Read.is (tells faults.Read 5 _ _ _ _ tt refl c.read_line-line.ensures c.log_line-in-Read.ensures)

pub returns-in-Illegal : goal.returns-in-Illegal
returns-in-Illegal g c =
    rw c.in-Illegal.is (tells (faults.Illegal c.in-Illegal.number c.in-Illegal.kind) 11 _ _ _ _ tt refl c.illegal_line-line.ensures c.log_line-in-Illegal.ensures)
