-- What the state of a call stands for.
use Rattle.std.specs.Prelude.{ℕ, List, Option, Some, None, option_map}
use Rattle.vs_base.specs.Listed.{Listed}
use Rattle.vs_rows.specs.Said.{Said, said_all}
use Rattle.vs_rows.specs.declared.answer.Answer.{Answer}
use Rattle.vs_calls.specs.Progress.{Progress}
use Rattle.vs_calls.specs.declared.stage.Stage.{Stage}
use Rattle.vs_calls.specs.declared.stage.Stage.TheVariants.{Acted, Ended}
use Rattle.vs_calls.specs.declared.state.CallState.{CallState}

abbrev pub said_of : Option (ℕ × Listed Answer) → Option (ℕ × List Said)
said_of None = None
said_of (Some said) = Some (said.0, said_all said.1.items)

abbrev pub means : CallState → Progress
means c =
    record {
      number = c.number;
      stage = c.stage;
      tries = c.tries;
      cut = c.cut;
      set = c.set;
      writes = c.writes;
      cause = c.cause;
      said = said_of c.said;
    }

-- the place and the answers of a call that acted and hasn't lost them
abbrev pub said_in : Progress → Option (ℕ × List Said)
said_in p = by_stage p.stage p.said
  where
    by_stage : Stage → Option (ℕ × List Said) → Option (ℕ × List Said)
    by_stage Acted said = said
    by_stage Ended said = said
    by_stage stage said = None

abbrev pub place_in : Progress → Option ℕ
place_in p = option_map (λ s. s.0) (said_in p)

abbrev pub answers_in : Progress → Option (List Said)
answers_in p = option_map (λ s. s.1) (said_in p)
