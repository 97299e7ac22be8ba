use Rattle.std.proofs.Common.{◌≡◌, ◌≢◌, List, ℕ, [], ◌∷◌, rules}
use Rattle.std.specs.Prelude.{codes}
use Rattle.vs_text.specs.Split.{words_of}
use Rattle.vs_event.specs.declared.event.RestartBy.{RestartBy}
use Rattle.vs_event.specs.declared.event.RestartBy.TheVariants.{Line, Service}
use Rattle.vs_event.specs.Event.{restart_words}
use Rattle.vs_event.proofs.Spaces.{some_parts}
use Rattle.vs_event.proofs.fields.restart_by.Goals as goal

-- two words, of which the first isn't `line`
not_line : (word : List ℕ) (rest : List (List ℕ)) → word ≢ codes "line" → rest ≢ [] → (by : RestartBy) → word ∷ rest ≢ restart_words by
not_line word rest other some (Line o) is = other cc
not_line word rest other some Service is = some cc

pub returns-else-eq : goal.returns-else-eq
returns-else-eq c =
    let first : words_of c.args.words.now ≡ c.in-Some.word.now ∷ words_of c.in-Some.rest.now = c.in-Some.ensures in
    let other : c.in-Some.word.now ≢ codes "line" = search rules in
    λ by range is. not_line c.in-Some.word.now (words_of c.in-Some.rest.now) other (some_parts 32 c.in-Some.rest.now) by cc
