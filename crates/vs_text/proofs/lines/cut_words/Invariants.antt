use Rattle.std.proofs.Common.{◌≡◌, ◌++◌, map, length}
use Rattle.vs_text.specs.Lines.{words_in}
use Rattle.vs_text.proofs.lines.cut_words.Given as goal

abbrev pub invariant-loop-word : goal.invariant-loop-word
invariant-loop-word l = map (λ word. word.items) l.words.items ++ words_in l.rest ≡ words_in l.line

abbrev pub decreases-loop-word : goal.decreases-loop-word
decreases-loop-word l = length (words_in l.rest)
