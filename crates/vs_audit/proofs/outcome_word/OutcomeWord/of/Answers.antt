use Rattle.std.proofs.Common.{◌≡◌, sym, ap, arith, rules}
use Rattle.std.specs.Prelude.{codes}
use Rattle.std.proofs.lemmas.Slice.Eq.{text_from_reads}
use Rattle.vs_audit.specs.Outcomes.{outcome_word}
use Rattle.vs_audit.proofs.outcome_word.OutcomeWord.of.Goals as goal

pub returns-in-reply : goal.returns-in-reply
returns-in-reply c =
    let named : c.args.word.now ≡ codes "reply" = text_from_reads c.args.word.now (codes "reply") (omega arith) (search rules) in
    sym (ap outcome_word named)

pub returns-in-spent : goal.returns-in-spent
returns-in-spent c =
    let named : c.args.word.now ≡ codes "spent" = text_from_reads c.args.word.now (codes "spent") (omega arith) (search rules) in
    sym (ap outcome_word named)
