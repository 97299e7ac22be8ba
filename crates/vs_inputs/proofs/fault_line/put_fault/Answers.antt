use Rattle.std.proofs.Common.{append_assoc}
use Rattle.vs_inputs.proofs.fault_line.put_fault.Goals as goal

pub returns-in-Text : goal.returns-in-Text
returns-in-Text c = rw (c.in-Text.is, c.put-in-Text.ensures.items, c.put_text_fault.ensures.items, c.put_decimal.ensures.items, c.put.ensures.items) (simp append_assoc)
