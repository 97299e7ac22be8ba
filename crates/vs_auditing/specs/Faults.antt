-- The faults of the command that the faults of its parts are.
use Rattle.vs_audit.specs.declared.audit_text.AuditText.{AuditText}
use Rattle.vs_audit.specs.declared.audit_text.AuditText.TheVariants as text
use Rattle.vs_audit.specs.declared.fault.AuditFault.{AuditFault}
use Rattle.vs_audit.specs.declared.fault.AuditFault.TheVariants as account
use Rattle.vs_host.specs.declared.fault.HostRead.{HostRead}
use Rattle.vs_host.specs.declared.fault.HostRead.TheVariants as read
use Rattle.vs_auditing.specs.declared.fault.ReportFault.{ReportFault}
use Rattle.vs_auditing.specs.declared.fault.ReportFault.TheVariants.{TooLong, BadReport, Read, Illegal, NoMemory}

abbrev pub from_read : HostRead → ReportFault
from_read read.Failed = Read
from_read read.TooLong = TooLong
from_read read.NoMemory = NoMemory

abbrev pub from_text : AuditText → ReportFault
from_text (text.Bad line) = BadReport line
from_text text.NoMemory = NoMemory

abbrev pub from_audit : AuditFault → ReportFault
from_audit (account.Illegal line kind) = Illegal line kind
from_audit account.NoMemory = NoMemory
