use Rattle.std.proofs.Common.{sym}
use Rattle.vs_text.specs.Lines.{word_limit}
use Rattle.vs_text.proofs.ShortWords.{short_line}
use Rattle.vs_text.proofs.lines.has_short_words.Goals as goal

pub returns-then-line-le-LONGEST_WORD : goal.returns-then-line-le-LONGEST_WORD
returns-then-line-le-LONGEST_WORD c = sym (short_line c.args.line.now word_limit c.if-line-le-LONGEST_WORD.true)
