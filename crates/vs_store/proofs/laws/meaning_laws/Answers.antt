use Rattle.vs_store.proofs.Meaning.{means_stands, stands_means, wrong_is, is_wrong, not_a_journal}
use Rattle.vs_store.proofs.Standings.{opens, opened_is, no_journal}
use Rattle.vs_store.specs.Standing.{state_of}
use Rattle.vs_store.proofs.laws.meaning_laws.Goals as goal

pub returns-clause-stands : goal.returns-clause-stands
returns-clause-stands c file s is = means_stands file s is

pub returns-clause-means : goal.returns-clause-means
returns-clause-means c file s bytes is = stands_means file s bytes is

pub returns-clause-wrong : goal.returns-clause-wrong
returns-clause-wrong c file place bytes is = wrong_is file place bytes is

pub returns-clause-is_wrong : goal.returns-clause-is_wrong
returns-clause-is_wrong c file place bytes is = is_wrong file place bytes is

pub returns-clause-opened : goal.returns-clause-opened
returns-clause-opened c head file s bytes is own = opened_is head file s (means_stands file s is) own

pub returns-clause-is_opened : goal.returns-clause-is_opened
returns-clause-is_opened c head file s bytes is = let x = opens head file s is in (stands_means file s bytes x.stands, x.own)

pub returns-clause-refused : goal.returns-clause-refused
returns-clause-refused c head file place bytes is = no_journal head (state_of file) place (wrong_is file place bytes is)

pub returns-clause-is_refused : goal.returns-clause-is_refused
returns-clause-is_refused c head file place bytes is = is_wrong file place bytes (not_a_journal head file place is)
