use Rattle.std.proofs.Common.{◌≡◌, sym, ap, arith, rules}
use Rattle.std.specs.Prelude.{codes}
use Rattle.std.proofs.lemmas.Slice.Eq.{text_from_reads}
use Rattle.vs_audit.specs.Outcomes.{ending_tail}
use Rattle.vs_audit.proofs.tail.Tail.of_ending.Goals as goal

pub returns-in-wasdown : goal.returns-in-wasdown
returns-in-wasdown c =
    let named : c.args.word.now ≡ codes "wasdown" = text_from_reads c.args.word.now (codes "wasdown") (omega arith) (search rules) in
    sym (ap ending_tail named)

pub returns-in-balanced : goal.returns-in-balanced
returns-in-balanced c =
    let named : c.args.word.now ≡ codes "balanced" = text_from_reads c.args.word.now (codes "balanced") (omega arith) (search rules) in
    sym (ap ending_tail named)
