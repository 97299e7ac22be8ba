use Rattle.std.proofs.Common.{◌≡◌, sym, ap, arith, rules}
use Rattle.std.specs.Prelude.{codes}
use Rattle.std.proofs.lemmas.Slice.Eq.{text_from_reads}
use Rattle.vs_audit.specs.Outcomes.{abort_tail}
use Rattle.vs_audit.proofs.tail.Tail.of_abort.Goals as goal

pub returns-in-drained : goal.returns-in-drained
returns-in-drained c =
    let named : c.args.word.now ≡ codes "drained" = text_from_reads c.args.word.now (codes "drained") (omega arith) (search rules) in
    sym (ap abort_tail named)

pub returns-in-closed : goal.returns-in-closed
returns-in-closed c =
    let named : c.args.word.now ≡ codes "closed" = text_from_reads c.args.word.now (codes "closed") (omega arith) (search rules) in
    sym (ap abort_tail named)

pub returns-in-setdown : goal.returns-in-setdown
returns-in-setdown c =
    let named : c.args.word.now ≡ codes "setdown" = text_from_reads c.args.word.now (codes "setdown") (omega arith) (search rules) in
    sym (ap abort_tail named)

pub returns-in-stopped : goal.returns-in-stopped
returns-in-stopped c =
    let named : c.args.word.now ≡ codes "stopped" = text_from_reads c.args.word.now (codes "stopped") (omega arith) (search rules) in
    sym (ap abort_tail named)

pub returns-in-setlocked : goal.returns-in-setlocked
returns-in-setlocked c =
    let named : c.args.word.now ≡ codes "setlocked" = text_from_reads c.args.word.now (codes "setlocked") (omega arith) (search rules) in
    sym (ap abort_tail named)

pub returns-in-receiving : goal.returns-in-receiving
returns-in-receiving c =
    let named : c.args.word.now ≡ codes "receiving" = text_from_reads c.args.word.now (codes "receiving") (omega arith) (search rules) in
    sym (ap abort_tail named)

pub returns-in-sender : goal.returns-in-sender
returns-in-sender c =
    let named : c.args.word.now ≡ codes "sender" = text_from_reads c.args.word.now (codes "sender") (omega arith) (search rules) in
    sym (ap abort_tail named)
