-- What clap's walk makes of a word that isn't empty and doesn't begin with a dash.
use Rattle.std.proofs.Common.{◌≡◌, ℕ, Bool, true, false, not, List, [], ◌∷◌, None, refl}
use Rattle.std.proofs.lemmas.Bool.{false≢true}
use Rattle.std.specs.Str.{bytes_eq}
use Rattle.clap.specs.Lexer.{long_of, short_of}
use Rattle.clap.specs.Walk.{Held, Rule, Text, Walk, Waiting, arg_by_index, idle, positional, to_positional, walked}
use Rattle.clap.proofs.OnLiterals.{clap_on_literals}
use Rattle.vs_command.specs.Word.{is_plain}

-- it doesn't begin with a dash
not_true : (b : Bool) → not b ≡ true → b ≡ false
not_true true h = absurd (false≢true h)
not_true false h = refl

pub no_dashes : (word : Text) → is_plain word ≡ true → bytes_eq word (45 ∷ 45 ∷ []) ≡ false
no_dashes [] h = refl
no_dashes (x ∷ xs) h = rw (not_true _ h)

pub no_long : (word : Text) → is_plain word ≡ true → long_of word ≡ None
no_long [] h = refl
no_long (x ∷ xs) h = rw (not_true _ h)

pub no_short : (word : Text) → is_plain word ≡ true → short_of word ≡ None
no_short [] h = refl
no_short (x ∷ xs) h = rw (not_true _ h)

-- the walk stands before a word
abbrev pub at_word : Held → Waiting → ℕ → Walk
at_word h waiting p =
    record { held = h; waiting = waiting; position = p; is_trailing = false; stopped = None }

-- a plain word goes to the next positional, whether none waits or one that takes several
pub plain_idle : (c : List Rule) (h : Held) (p : ℕ) (word : Text) → is_plain word ≡ true
    → walked c [] (at_word h idle p) word ≡ to_positional c (arg_by_index c p) word (at_word h idle p) h
unfolding clap_on_literals
plain_idle c h p word is = rw (no_dashes word is, no_long word is, no_short word is)

pub plain_positional : (c : List Rule) (h : Held) (p : ℕ) (word : Text) → is_plain word ≡ true
    → walked c [] (at_word h positional p) word ≡ to_positional c (arg_by_index c p) word (at_word h positional p) h
unfolding clap_on_literals
plain_positional c h p word is = rw (no_dashes word is, no_long word is, no_short word is)
