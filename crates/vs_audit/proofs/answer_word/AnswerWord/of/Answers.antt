use Rattle.std.proofs.Common.{◌≡◌, sym, ap, arith, rules}
use Rattle.std.specs.Prelude.{codes}
use Rattle.std.proofs.lemmas.Slice.Eq.{text_from_reads}
use Rattle.vs_audit.specs.Operations.{answer_word}
use Rattle.vs_audit.proofs.answer_word.AnswerWord.of.Goals as goal

pub returns-in-exists : goal.returns-in-exists
returns-in-exists c =
    let named : c.args.word.now ≡ codes "exists" = text_from_reads c.args.word.now (codes "exists") (omega arith) (search rules) in
    sym (ap answer_word named)

pub returns-in-differs : goal.returns-in-differs
returns-in-differs c =
    let named : c.args.word.now ≡ codes "differs" = text_from_reads c.args.word.now (codes "differs") (omega arith) (search rules) in
    sym (ap answer_word named)

pub returns-in-number : goal.returns-in-number
returns-in-number c =
    let named : c.args.word.now ≡ codes "number" = text_from_reads c.args.word.now (codes "number") (omega arith) (search rules) in
    sym (ap answer_word named)
