use Rattle.std.proofs.Common.{◌≡◌, length}
use Rattle.vs_text.specs.Lines.{words_in}
use Rattle.vs_text.proofs.words.without_blanks.Given as goal

abbrev pub invariant-loop-rest : goal.invariant-loop-rest
invariant-loop-rest l = words_in l.rest ≡ words_in l.line

abbrev pub decreases-loop-rest : goal.decreases-loop-rest
decreases-loop-rest l = length l.rest
