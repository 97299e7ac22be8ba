-- The names of the two files.
use Rattle.std.specs.Prelude.{ℕ, List}

pub record Names : Type 0 where
  pub config : List ℕ
  pub counts : List ℕ

abbrev pub files : List ℕ → List ℕ → Names
files config counts = record { config = config; counts = counts }
