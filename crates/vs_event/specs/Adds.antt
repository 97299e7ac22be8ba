-- How text is added where room was made for it.
use Rattle.std.specs.Prelude.{ℕ, ◌≡◌, ◌≤◌, ◌+◌, List, ◌++◌, length}
use Rattle.vs_base.specs.Listed.{Listed}

-- this text was added, which has at most so many bytes, and took no more room than those
pub record Adds (most : ℕ) (old new : Listed ℕ) (text : List ℕ) : Type 0 where
  pub items : new.items ≡ old.items ++ text
  pub short : length text ≤ most
  pub room : old.room ≤ new.room + length text

-- so many bytes suffice for the line of any event
abbrev pub line_room : ℕ
line_room = 100
