-- Texts that grow.
use Rattle.std.specs.Prelude.{◌≡◌, ℕ, List, ◌++◌}
use Rattle.std.specs.Global.{Vec}

-- the text was added at the end
abbrev pub Adds : Vec ℕ → Vec ℕ → List ℕ → Type 0
Adds old new text = new.items ≡ old.items ++ text
