use Rattle.vs_words.proofs.Steps.{unused_zero}
use Rattle.vs_words.proofs.laws.unused_words_are_zero.Goals as goal

pub returns : goal.returns
returns c = unused_zero
