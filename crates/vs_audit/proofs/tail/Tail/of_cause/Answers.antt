use Rattle.std.proofs.Common.{◌≡◌, sym, ap, arith, rules}
use Rattle.std.specs.Prelude.{codes}
use Rattle.std.proofs.lemmas.Slice.Eq.{text_from_reads}
use Rattle.vs_audit.specs.Outcomes.{cause_tail}
use Rattle.vs_audit.proofs.tail.Tail.of_cause.Goals as goal

pub returns-in-transfer : goal.returns-in-transfer
returns-in-transfer c =
    let named : c.args.word.now ≡ codes "transfer" = text_from_reads c.args.word.now (codes "transfer") (omega arith) (search rules) in
    sym (ap cause_tail named)

pub returns-in-locked : goal.returns-in-locked
returns-in-locked c =
    let named : c.args.word.now ≡ codes "locked" = text_from_reads c.args.word.now (codes "locked") (omega arith) (search rules) in
    sym (ap cause_tail named)
