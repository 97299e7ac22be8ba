use Rattle.std.proofs.Common.{rules}
use Rattle.vs_rows.specs.Names.{value_limit}
use Rattle.vs_audit.proofs.Names.{name_read, name_refused}
use Rattle.vs_audit.proofs.words.Words.value.Goals as goal

pub returns-in-Ok : goal.returns-in-Ok
returns-in-Ok c =
    name_read value_limit c.args.self.now c.word.new.self c.in_ok-word.word.now c.in-Ok.value c.in_ok-word.ensures c.in-Ok.ensures.ok.0 c.in-Ok.ensures.ok.1

pub returns-in-Err-BadText : goal.returns-in-Err-BadText
returns-in-Err-BadText c =
    name_refused value_limit c.args.self.now c.word.new.self c.in_ok-word.word.now c.in_ok-word.ensures (search rules)
