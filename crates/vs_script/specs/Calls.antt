-- Calls as plain data.
use Rattle.std.specs.Prelude.{ℕ, List, map}
use Rattle.vs_base.specs.declared.numbers.Mode.{Mode}
use Rattle.vs_rows.specs.declared.op.Op.{Op}
use Rattle.vs_script.specs.declared.call.Call as code

-- operations on one bucket, as one call
pub record Call : Type 0 where
  pub mode : Mode
  pub bucket : ℕ
  pub ops : List Op

-- what a call stands for: its operations, without the room for more
abbrev pub call : code.Call → Call
call c = record { mode = c.mode; bucket = c.bucket; ops = c.ops.items }

abbrev pub calls : List code.Call → List Call
calls cs = map call cs
