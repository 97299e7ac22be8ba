use Rattle.std.proofs.Common.{◌≡◌, sym, ap, arith, rules}
use Rattle.std.specs.Prelude.{codes}
use Rattle.std.proofs.lemmas.Slice.Eq.{text_from_reads}
use Rattle.vs_script.specs.Lines.{command_word}
use Rattle.vs_script.proofs.command_word.CommandWord.of.Goals as goal

pub returns-in-restart : goal.returns-in-restart
returns-in-restart c =
    let named : c.args.word.now ≡ codes "restart" = text_from_reads c.args.word.now (codes "restart") (omega arith) (search rules) in
    sym (ap command_word named)

pub returns-in-balance : goal.returns-in-balance
returns-in-balance c =
    let named : c.args.word.now ≡ codes "balance" = text_from_reads c.args.word.now (codes "balance") (omega arith) (search rules) in
    sym (ap command_word named)
