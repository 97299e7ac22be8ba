use Rattle.std.proofs.Common.{◌≡◌, sym, ap, arith, rules}
use Rattle.std.specs.Prelude.{codes}
use Rattle.std.proofs.lemmas.Slice.Eq.{text_from_reads}
use Rattle.vs_audit.specs.Outcomes.{refusal_tail}
use Rattle.vs_audit.proofs.tail.Tail.of_refusal.Goals as goal

pub returns-in-status : goal.returns-in-status
returns-in-status c =
    let named : c.args.word.now ≡ codes "status" = text_from_reads c.args.word.now (codes "status") (omega arith) (search rules) in
    sym (ap refusal_tail named)

pub returns-in-pinned : goal.returns-in-pinned
returns-in-pinned c =
    let named : c.args.word.now ≡ codes "pinned" = text_from_reads c.args.word.now (codes "pinned") (omega arith) (search rules) in
    sym (ap refusal_tail named)

pub returns-in-setlocked : goal.returns-in-setlocked
returns-in-setlocked c =
    let named : c.args.word.now ≡ codes "setlocked" = text_from_reads c.args.word.now (codes "setlocked") (omega arith) (search rules) in
    sym (ap refusal_tail named)

pub returns-in-locked : goal.returns-in-locked
returns-in-locked c =
    let named : c.args.word.now ≡ codes "locked" = text_from_reads c.args.word.now (codes "locked") (omega arith) (search rules) in
    sym (ap refusal_tail named)
