-- The names of the files.
use Rattle.std.specs.Prelude.{ℕ, ◌∷◌, List, String, All, IsTrue}
use Rattle.std.specs.Global.{Global}
use Rattle.vs_host.specs.Told.{Told}
use Rattle.vs_inputs.specs.Words.{texts}

pub record Names : Type 0 where
  pub config : List ℕ
  -- the script of the writes
  pub rows : List ℕ
  -- the scripts of the reads
  pub files : List (List ℕ)

abbrev pub names : List ℕ → List ℕ → List (String Global) → Names
names config rows files = record { config = config; rows = rows; files = texts files }

-- each of them may be read
abbrev pub MayRead : Told → Names → Type 0
MayRead host names =
    All (λ name. IsTrue (host.may_read name)) (names.config ∷ names.rows ∷ names.files)
