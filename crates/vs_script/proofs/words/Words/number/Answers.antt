use Rattle.std.proofs.Common.{Some, None}
use Rattle.vs_script.proofs.Numbers.{short_number_is, number_read, number_refused}
use Rattle.vs_script.proofs.words.Words.number.Goals as goal

pub returns-in-Some : goal.returns-in-Some
returns-in-Some c =
    number_read (c.args.self.now) (c.word.new.self) c.in_ok-word.word.now c.in-Some.number c.in_ok-word.ensures (short_number_is c.in_ok-word.word.now (Some c.in-Some.number) c.in-Some.ensures.value)

pub returns-in-None : goal.returns-in-None
returns-in-None c =
    number_refused (c.args.self.now) (c.word.new.self) c.in_ok-word.word.now c.in_ok-word.ensures (short_number_is c.in_ok-word.word.now None c.in-None.ensures.value)
