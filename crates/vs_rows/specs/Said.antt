-- What operations answer, as plain data.
use Rattle.std.specs.Prelude.{ℕ, List, map}
use Rattle.vs_rows.specs.RowMap.{RowMap}
use Rattle.vs_rows.specs.declared.answer.Answer.{Answer}
use Rattle.vs_rows.specs.declared.answer.Answer.TheVariants as answer

-- an answer: a page in it is its pairs, without the room for more
pub data Said : Type 0 where
  Value : List ℕ → Said
  NoValue : Said
  Done : Said
  Exists : Said
  Differs : Said
  Number : ℕ → Said
  Pairs : RowMap → Said

-- what an answer says
abbrev pub said : Answer → Said
said (answer.Value v) = Value v
said answer.NoValue = NoValue
said answer.Done = Done
said answer.Exists = Exists
said answer.Differs = Differs
said (answer.Number n) = Number n
said (answer.Pairs p) = Pairs p.items

-- what answers say
abbrev pub said_all : List Answer → List Said
said_all answers = map said answers
