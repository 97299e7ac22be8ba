-- What calls were answered, as plain data.
use Rattle.std.specs.Prelude.{ℕ, List, map}
use Rattle.vs_rows.specs.Said.{Said, said_all}
use Rattle.vs_space.specs.declared.status.Cause.{Cause}
use Rattle.vs_calls.specs.declared.outcome.Outcome as code
use Rattle.vs_calls.specs.declared.outcome.Outcome.TheVariants as coded

pub data Outcome : Type 0 where
  Reply : (place : ℕ) (answers : List Said) → Outcome
  Lost : Outcome
  Spent : (cause : Cause) → Outcome

abbrev pub outcome : code.Outcome → Outcome
outcome (coded.Reply place answers) = Reply place (said_all answers.items)
outcome coded.Lost = Lost
outcome (coded.Spent cause) = Spent cause

abbrev pub outcomes : List code.Outcome → List Outcome
outcomes os = map outcome os
