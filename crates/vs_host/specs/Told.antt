-- What a host tells of itself.
use Rattle.std.specs.Prelude.{ℕ, Bool, List, Option}

pub record Told : Type 0 where
  -- what each named file holds, where that is told
  pub file : List ℕ → Option (List ℕ)
  -- which names may be read
  pub may_read : List ℕ → Bool
  -- what was put out and what was logged, where that is told
  pub out : Option (List ℕ)
  pub log : Option (List ℕ)
  -- how many bytes the last read took
  pub taken : ℕ
  -- how many reads and how many writes failed; both counts end at 2^63
  pub read_faults : ℕ
  pub write_faults : ℕ
