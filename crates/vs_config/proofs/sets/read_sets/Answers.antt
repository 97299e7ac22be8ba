use Rattle.std.proofs.Common.{◌∙◌, ◌<◌, length, sym, arith}
use Rattle.std.proofs.lemmas.Bool.Decides.{nat_tests}
use Rattle.std.proofs.lemmas.Result.{IfOk-weaker, IfErr-weaker}
use Rattle.vs_config.proofs.SetTables.{sets_of-tables, sets_of_many}
use Rattle.vs_config.proofs.sets.read_sets.Goals as goal

pub returns-then-values-gt-MAX-clause-err : goal.returns-then-values-gt-MAX-clause-err
returns-then-values-gt-MAX-clause-err c _ =
    rw c.at-then-values-gt-MAX.ensures (sets_of_many c.args.values.now (sym c.are_tables.ensures ∙ c.if-not-are_tables.false) c.if-values-gt-MAX.true)

pub returns-clause-ok : goal.returns-clause-ok
returns-clause-ok c =
    let some : 0 < length c.args.values.now = grind (arith, nat_tests) in
    let (tables, are, sets) = sets_of-tables c.args.values.now (sym c.are_tables.ensures ∙ c.if-not-are_tables.false) some c.if-values-gt-MAX.false in
    IfOk-weaker c.read_tables.result _ _ (λ l read. sets ∙ read tables are) c.read_tables.ensures.ok

pub returns-clause-err : goal.returns-clause-err
returns-clause-err c =
    let some : 0 < length c.args.values.now = grind (arith, nat_tests) in
    let (tables, are, sets) = sets_of-tables c.args.values.now (sym c.are_tables.ensures ∙ c.if-not-are_tables.false) some c.if-values-gt-MAX.false in
    IfErr-weaker c.read_tables.result _ _ (λ e read other. sets ∙ read other tables are) c.read_tables.ensures.err
