use Rattle.std.proofs.Common.{arith}
use Rattle.vs_record.proofs.States.{copied_none, copied_all}
use Rattle.vs_record.proofs.row_table.RowTable.try_clone.Goals as goal

pub loop-number-init : goal.loop-number-init
loop-number-init c = record { so_far = copied_none c.args.self.now c.new-copy.result c.new-copy.ensures; ids = λ none. absurd (omega arith) }

pub returns : goal.returns
returns c = copied_all c.args.self.now c.loop-number.copy c.loop-number.number (omega arith) (c.loop-number.invariant.ids (omega arith)) c.loop-number.invariant.so_far
