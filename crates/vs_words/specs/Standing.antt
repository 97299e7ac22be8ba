-- What a contract sees of a pass.
use Rattle.std.specs.Prelude.{◌≡◌, ℕ, List, [], Option, None}
use Rattle.atomic_table.specs.Seated.{TableId}

-- which words the pass is of, how many passes may still be split from it, which word it holds, which it has seen closed,
-- which it knows to be closed and without a reference, and what its last take or look found
pub record Standing : Type 0 where
  pub of : TableId
  pub spare : ℕ
  pub held : Option ℕ
  pub seen : List ℕ
  pub known : List ℕ
  pub found : ℕ

-- a pass of these words that holds nothing and has seen nothing
abbrev pub IsNew : TableId → Standing → Type 0
IsNew words pass = (pass.of ≡ words) × (pass.held ≡ None) × (pass.seen ≡ []) × (pass.known ≡ []) × (pass.found ≡ 0)
