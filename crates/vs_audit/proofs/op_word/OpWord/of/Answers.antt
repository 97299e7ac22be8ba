use Rattle.std.proofs.Common.{◌≡◌, sym, ap, arith, rules}
use Rattle.std.specs.Prelude.{codes}
use Rattle.std.proofs.lemmas.Slice.Eq.{text_from_reads}
use Rattle.vs_audit.specs.Operations.{op_word}
use Rattle.vs_audit.proofs.op_word.OpWord.of.Goals as goal

pub returns-in-insert : goal.returns-in-insert
returns-in-insert c =
    let named : c.args.word.now ≡ codes "insert" = text_from_reads c.args.word.now (codes "insert") (omega arith) (search rules) in
    sym (ap op_word named)

pub returns-in-delete : goal.returns-in-delete
returns-in-delete c =
    let named : c.args.word.now ≡ codes "delete" = text_from_reads c.args.word.now (codes "delete") (omega arith) (search rules) in
    sym (ap op_word named)
