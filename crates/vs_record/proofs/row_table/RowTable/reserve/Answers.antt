use Rattle.std.proofs.Common.{◌≡◌, sym, ◌∙◌, subst, arith}
use Rattle.vs_record.specs.RowTable.{rows_at}
use Rattle.vs_record.proofs.Tables.{nothing_at, nowhere_at}
use Rattle.vs_record.proofs.row_table.RowTable.reserve.Goals as goal

pub returns-in_ok-self-inside-clause-rows : goal.returns-in_ok-self-inside-clause-rows
returns-in_ok-self-inside-clause-rows c = λ b.
    subst (λ places. rows_at places b ≡ rows_at c.args.self.now b) (sym c.in_ok-self-inside.ensures) (nothing_at 30000 b ∙ sym (nowhere_at c.args.self.now b (grind (arith, c.if-is_empty.true, c.if-is_empty.ensures, c.self.view_is))))
