-- The statuses with which a command ends, and the line that is logged with each but 0.
use Rattle.std.specs.Prelude.{ℕ, List, [], ◌++◌, codes}
use Rattle.std.specs.Fmt.{decimal}
use Rattle.vs_inputs.specs.FaultLine as inputs
use Rattle.vs_inputs.specs.declared.fault.InputFault.TheVariants as input
use Rattle.uuid.specs.Text.{hyphenated_text}
use Rattle.vs_report.specs.PlacementText.{placement_text}
use Rattle.vs_report.specs.ReasonText.{reason_text}
use Rattle.vs_store.specs.declared.fault.StoreFault.{StoreFault}
use Rattle.vs_store.specs.declared.fault.StoreFault.TheVariants.{NotAJournal, OtherSet, OtherCount}
use Rattle.vs_top.specs.declared.fault.Fault.{Fault}
use Rattle.vs_top.specs.declared.fault.Fault.TheVariants.{Words, Text, Event, Read, Write, Disk, Journal, Incoherent, Full, NoMemory}

abbrev pub status_of : Fault → ℕ
status_of Words = 2
status_of (Text k fault) = 3
status_of (Event number reason) = 4
status_of (Read k) = 5
status_of Write = 6
status_of (Disk x) = 7
status_of (Journal x fault wanted) = 8
status_of (Incoherent bucket entries) = 8
status_of NoMemory = 9
status_of (Full x) = 10

-- as uuids are printed: hyphenated, in lower case
abbrev pub hyphenated : List ℕ → List ℕ
hyphenated uuid = hyphenated_text 97 uuid

-- what a journal is, in place of the set's
abbrev pub journal_words : StoreFault → List ℕ → List ℕ
journal_words (NotAJournal place) wanted = codes "NotAJournal " ++ decimal place
journal_words (OtherSet found) wanted = codes "OtherSet " ++ hyphenated found ++ codes " " ++ hyphenated wanted
journal_words (OtherCount found) wanted = codes "OtherCount " ++ decimal found
journal_words fault wanted = []

-- inputs, lines and events are counted from 1; the line of a bucket is that of the report
abbrev pub fault_line : Fault → List ℕ
fault_line Words = codes "vshard: usage: run CONFIG FILE... | play CONFIG EVENTS FILE... | gen NUMBER\n"
fault_line (Text k fault) = inputs.fault_line (input.Text k fault)
fault_line (Event number reason) = codes "vshard: event " ++ decimal number ++ codes ": " ++ reason_text reason ++ codes "\n"
fault_line (Read k) = inputs.fault_line (input.Read k)
fault_line Write = codes "vshard: write\n"
fault_line (Disk x) = codes "vshard: disk " ++ decimal x ++ codes "\n"
fault_line (Journal x fault wanted) = codes "vshard: journal " ++ decimal x ++ codes ": " ++ journal_words fault wanted ++ codes "\n"
fault_line (Incoherent bucket entries) = codes "vshard: incoherent " ++ placement_text bucket entries.items ++ codes "\n"
fault_line NoMemory = codes "vshard: memory\n"
fault_line (Full x) = codes "vshard: full " ++ decimal x ++ codes "\n"
