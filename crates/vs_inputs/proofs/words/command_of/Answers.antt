use Rattle.std.proofs.Common.{ℕ, List, subst}
use Rattle.vs_inputs.specs.Words.{IsCommand}
use Rattle.vs_inputs.proofs.Commands.{three_words}
use Rattle.vs_inputs.proofs.words.command_of.Goals as goal

pub returns-in-None : goal.returns-in-None
returns-in-None c =
    let words = three_words c.args.words.now c.command-item.result c.config-item.result c.events-item.result c.in-len3-up.len_at_least c.command-item.is c.config-item.is c.events-item.is in
    λ names is. c.in-None.ensures names (subst (λ (ws : List (List ℕ)). IsCommand ws names) words is)
