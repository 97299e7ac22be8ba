-- What stands at a number that counts from 1.
use Rattle.std.specs.Prelude.{ℕ, zero, suc, List, slice_get}
use Rattle.std.specs.Option.{option_map_or}

-- what the item of this number gives, or the default where there is none
abbrev pub numbered : {A B : Type 0} → (A → B) → B → List A → ℕ → B
numbered f default items zero = default
numbered f default items (suc k) = option_map_or f (slice_get items k) default
