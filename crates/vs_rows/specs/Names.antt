-- The texts that may be keys and values.
use Rattle.std.specs.Prelude.{ℕ, ◌≤◌, ◌<◌, ◌≢◌, List, [], ◌∷◌, length, All}

-- 1 to `most` visible characters, other than the single mark `;`
pub record IsName (most : ℕ) (bytes : List ℕ) : Type 0 where
  pub some : 0 < length bytes
  pub short : length bytes ≤ most
  pub visible : All (λ b. (0x21 ≤ b) × (b ≤ 0x7E)) bytes
  pub no_mark : bytes ≢ 59 ∷ []

-- the most bytes of a key
abbrev pub key_limit : ℕ
key_limit = 64

-- the most bytes of a value
abbrev pub value_limit : ℕ
value_limit = 256

abbrev pub IsKey : List ℕ → Type 0
IsKey bytes = IsName key_limit bytes

abbrev pub IsValue : List ℕ → Type 0
IsValue bytes = IsName value_limit bytes
