use Rattle.std.proofs.Common.{refl}
use Rattle.vs_reads.specs.declared.fault.ReadsFault.TheVariants as faults
use Rattle.vs_reads.proofs.LoggedLines.{tells}
use Rattle.vs_reads.proofs.fault_line.log_fault.Goals as goal

pub returns-in-Text : goal.returns-in-Text
returns-in-Text g c = rw c.in-Text.is (tells (faults.Text c.in-Text.input c.in-Text.text) 3 _ _ _ _ tt refl c.input_line-line.ensures c.log_line.ensures)

pub returns-in-NotReads : goal.returns-in-NotReads
returns-in-NotReads g c = rw c.in-NotReads.is (tells (faults.NotReads c.in-NotReads.input) 3 _ _ _ _ tt refl c.not_reads_line-line.ensures c.log_line-in-NotReads.ensures)

pub returns-in-Read : goal.returns-in-Read
returns-in-Read g c = rw c.in-Read.is (tells (faults.Read c.in-Read.input) 5 _ _ _ _ tt refl c.read_line-line.ensures c.log_line-in-Read.ensures)
