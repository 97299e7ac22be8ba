use Rattle.std.proofs.Common.{◌≡◌, length}
use Rattle.vs_text.specs.Lines.{has_short_words, words_in}
use Rattle.vs_text.proofs.lines.has_short_words.Given as goal

abbrev pub invariant-loop-word : goal.invariant-loop-word
invariant-loop-word l = has_short_words l.rest ≡ has_short_words l.line

abbrev pub decreases-loop-word : goal.decreases-loop-word
decreases-loop-word l = length (words_in l.rest)
