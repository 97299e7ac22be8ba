-- The words of a command.
use Rattle.std.specs.Prelude.{◌≡◌, ℕ, ◌==◌, ◌≤◌, Bool, true, false, not, List, [], ◌∷◌, map, length, drop, codes, All, IsTrue, String, string_bytes}
use Rattle.std.specs.List.{list_all}
use Rattle.std.specs.Global.{Global}
use Rattle.vs_host.specs.Told.{Told}
use Rattle.vs_inputs.specs.declared.words.TheConstants.{DASH, MOST_SCRIPTS}

-- the texts of words
abbrev pub texts : List (String Global) → List (List ℕ)
texts words = map string_bytes words

-- a word that may name a file isn't empty, and doesn't begin with a dash
abbrev pub is_file_word : List ℕ → Bool
is_file_word [] = false
is_file_word (b ∷ bs) = not (b == DASH)

-- the names of the files of a command
pub record Names : Type 0 where
  pub config : List ℕ
  pub events : List ℕ
  pub scripts : List (List ℕ)

-- all of them, in the order in which they are read
abbrev pub files_of : Names → List (List ℕ)
files_of names = names.config ∷ names.events ∷ names.scripts

-- the files have these names
abbrev pub files : List ℕ → List ℕ → List (List ℕ) → Names
files config events scripts = record { config = config; events = events; scripts = scripts }

-- the first word is `play`, and the others may be these names
pub record IsPlay (command : List ℕ) (names : Names) : Type 0 where
  pub command_is : command ≡ codes "play"
  pub few : length names.scripts ≤ MOST_SCRIPTS
  pub file_words : list_all is_file_word (files_of names) ≡ true

-- the words are `play CONFIG EVENTS FILE...`, with these names
pub record IsCommand (words : List (List ℕ)) (names : Names) : Type 0 where
  pub command : List ℕ
  pub words_are : words ≡ command ∷ files_of names
  pub play : IsPlay command names

-- each word after the first may be read
abbrev pub MayRead : Told → List (List ℕ) → Type 0
MayRead host words = All (λ name. IsTrue (host.may_read name)) (drop 1 words)
