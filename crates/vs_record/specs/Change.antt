-- Changes of a set's entries and rows, as plain data.
use Rattle.std.specs.Prelude.{ℕ, List, Option}
use Rattle.vs_base.specs.declared.numbers.CallId.{CallId}
use Rattle.vs_rows.specs.RowMap.{RowMap}
use Rattle.vs_rows.specs.declared.op.Op.{Op}
use Rattle.vs_space.specs.declared.status.Status.{Status}
use Rattle.vs_record.specs.declared.change.Change as code
use Rattle.vs_record.specs.declared.change.Change.TheVariants as coded

pub data Change : Type 0 where
  SetStatus : (bucket : ℕ) (status : Status) → Change
  AddRows : (bucket source : ℕ) (rows : RowMap) → Change
  Write : (id : CallId) (bucket : ℕ) (ops : List Op) → Change
  Wipe : (bucket count : ℕ) → Change
  Forget : (bucket : ℕ) → Change

abbrev pub change : code.Change → Change
change (coded.Status b st) = SetStatus b st
change (coded.RowsPage b x page) = AddRows b x page.items
change (coded.Write id b ops) = Write id b ops.items
change (coded.Wipe b n) = Wipe b n
change (coded.Forget b) = Forget b

-- the same behind the number that a journal gives it, if it gives one
abbrev pub entry_of : Option ℕ × code.Change → Option ℕ × Change
entry_of entry = (entry.0, change entry.1)

abbrev pub bucket_of : Change → ℕ
bucket_of (SetStatus b st) = b
bucket_of (AddRows b x rows) = b
bucket_of (Write id b ops) = b
bucket_of (Wipe b n) = b
bucket_of (Forget b) = b
