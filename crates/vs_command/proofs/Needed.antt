-- How clap walks over the words that must be there, and over the files.
use Rattle.std.proofs.Common.{◌≡◌, Bool, true, false, List, [], ◌∷◌, ◌++◌, Some, codes, refl, ap, ◌∙◌, fold}
use Rattle.std.specs.List.{list_all}
use Rattle.std.proofs.lemmas.Bool.{and_parts}
use Rattle.clap.specs.Kinds.{or_else}
use Rattle.clap.specs.declared.error.kind.ErrorKind.TheVariants as kind
use Rattle.clap.specs.Faults.{turn_fault, walk_fault}
use Rattle.clap.specs.Walk.{Text, Walk, finished, first_of, idle, nothing_held, positional, walk_from, walked}
use Rattle.clap.proofs.OnLiterals.{clap_on_literals}
use Rattle.vs_command.specs.Word.{is_plain}
use Rattle.vs_command.proofs.PlainWords.{at_word, no_dashes, no_long, no_short, plain_idle, plain_positional}
use Rattle.vs_command.proofs.Shapes.{held_end, held_file, held_files, held_first, held_needed, level_at, needed, place_after, rules, second_if, shape}

-- ---- the words that must be there

first_word : (two files : Bool) (a : Text) → is_plain a ≡ true
    → walked (rules two files) [] (at_word nothing_held idle 1) a ≡ at_word (held_first a) idle 2
unfolding clap_on_literals
first_word false false a is = plain_idle (rules false false) nothing_held 1 a is ∙ refl
first_word true false a is = plain_idle (rules true false) nothing_held 1 a is ∙ refl
first_word false true a is = plain_idle (rules false true) nothing_held 1 a is ∙ refl
first_word true true a is = plain_idle (rules true true) nothing_held 1 a is ∙ refl

second_word : (files : Bool) (a b : Text) → is_plain b ≡ true
    → walked (rules true files) [] (at_word (held_first a) idle 2) b ≡ at_word (held_needed true a b) idle 3
unfolding clap_on_literals
second_word false a b is = plain_idle (rules true false) (held_first a) 2 b is ∙ refl
second_word true a b is = plain_idle (rules true true) (held_first a) 2 b is ∙ refl

first_fault : (name : Text) (two files : Bool) (a : Text) → is_plain a ≡ true
    → turn_fault (shape name two files) [] (at_word nothing_held idle 1) a ≡ []
unfolding clap_on_literals
first_fault name false false a is = rw (no_dashes a is, no_long a is, no_short a is)
first_fault name true false a is = rw (no_dashes a is, no_long a is, no_short a is)
first_fault name false true a is = rw (no_dashes a is, no_long a is, no_short a is)
first_fault name true true a is = rw (no_dashes a is, no_long a is, no_short a is)

second_fault : (name : Text) (files : Bool) (a b : Text) → is_plain b ≡ true
    → turn_fault (shape name true files) [] (at_word (held_first a) idle 2) b ≡ []
unfolding clap_on_literals
second_fault name false a b is = rw (no_dashes b is, no_long b is, no_short b is)
second_fault name true a b is = rw (no_dashes b is, no_long b is, no_short b is)

-- a turn that finds nothing wrong
pub fault_step : (name : Text) (two files : Bool) (w : Walk) (word : Text) (words : List Text)
    → turn_fault (shape name two files) [] w word ≡ []
    → walk_fault (shape name two files) [] w (word ∷ words) ≡ walk_fault (shape name two files) [] (walked (rules two files) [] w word) words
unfolding clap_on_literals
fault_step name two files w word words none =
    ap (λ k. or_else k (walk_fault (shape name two files) [] (walked (rules two files) [] w word) words)) none

pub first_walk_fault : (name : Text) (two files : Bool) (a : Text) (words : List Text) → is_plain a ≡ true
    → walk_fault (shape name two files) [] (walk_from nothing_held) (a ∷ words) ≡ walk_fault (shape name two files) [] (at_word (held_first a) idle 2) words
first_walk_fault name two files a words is =
    fault_step name two files (at_word nothing_held idle 1) a words (first_fault name two files a is)
    ∙ ap (λ w. walk_fault (shape name two files) [] w words) (first_word two files a is)

pub first_walk : (two files : Bool) (a : Text) (words : List Text) → is_plain a ≡ true
    → fold (walked (rules two files) []) (walk_from nothing_held) (a ∷ words) ≡ fold (walked (rules two files) []) (at_word (held_first a) idle 2) words
first_walk two files a words is = ap (λ w. fold (walked (rules two files) []) w words) (first_word two files a is)

pub needed_walk : (two files : Bool) (a b : Text) (words : List Text) → is_plain a ≡ true → is_plain b ≡ true
    → fold (walked (rules two files) []) (walk_from nothing_held) (needed two a b words)
    ≡ fold (walked (rules two files) []) (at_word (held_needed two a b) idle (place_after two)) words
needed_walk false files a b words one two = first_walk false files a words one
needed_walk true files a b words one two =
    first_walk true files a (b ∷ words) one
    ∙ ap (λ w. fold (walked (rules true files) []) w words) (second_word files a b two)

pub needed_fault : (name : Text) (two files : Bool) (a b : Text) (words : List Text) → is_plain a ≡ true → is_plain b ≡ true
    → walk_fault (shape name two files) [] (walk_from nothing_held) (needed two a b words)
    ≡ walk_fault (shape name two files) [] (at_word (held_needed two a b) idle (place_after two)) words
needed_fault name false files a b words one two = first_walk_fault name false files a words one
needed_fault name true files a b words one two =
    first_walk_fault name true files a (b ∷ words) one
    ∙ (fault_step name true files (at_word (held_first a) idle 2) b words (second_fault name files a b two)
    ∙ ap (λ w. walk_fault (shape name true files) [] w words) (second_word files a b two))

-- ---- a word too many

pub stray_fault : (name : Text) (two : Bool) (a b g : Text) (words : List Text) → is_plain g ≡ true
    → walk_fault (shape name two false) [] (at_word (held_needed two a b) idle (place_after two)) (g ∷ words) ≡ kind.UnknownArgument ∷ []
unfolding clap_on_literals
stray_fault name false a b g words is = rw (no_dashes g is, no_long g is, no_short g is)
stray_fault name true a b g words is = rw (no_dashes g is, no_long g is, no_short g is)

-- ---- the files

open_word : (two : Bool) (a b f : Text) → is_plain f ≡ true
    → walked (rules two true) [] (at_word (held_needed two a b) idle (place_after two)) f ≡ at_word (held_file two a b [] f) positional (place_after two)
unfolding clap_on_literals
open_word false a b f is = plain_idle (rules false true) (held_needed false a b) 2 f is ∙ refl
open_word true a b f is = plain_idle (rules true true) (held_needed true a b) 3 f is ∙ refl

next_word : (two : Bool) (a b : Text) (fs : List Text) (f g : Text) → is_plain g ≡ true
    → walked (rules two true) [] (at_word (held_file two a b fs f) positional (place_after two)) g
    ≡ at_word (held_file two a b (fs ++ f ∷ []) g) positional (place_after two)
unfolding clap_on_literals
next_word false a b [] f g is = plain_positional (rules false true) (held_file false a b [] f) 2 g is ∙ refl
next_word true a b [] f g is = plain_positional (rules true true) (held_file true a b [] f) 3 g is ∙ refl
next_word false a b (e ∷ es) f g is = plain_positional (rules false true) (held_file false a b (e ∷ es) f) 2 g is ∙ refl
next_word true a b (e ∷ es) f g is = plain_positional (rules true true) (held_file true a b (e ∷ es) f) 3 g is ∙ refl

open_fault : (name : Text) (two : Bool) (a b f : Text) → is_plain f ≡ true
    → turn_fault (shape name two true) [] (at_word (held_needed two a b) idle (place_after two)) f ≡ []
unfolding clap_on_literals
open_fault name false a b f is = rw (no_dashes f is, no_long f is, no_short f is)
open_fault name true a b f is = rw (no_dashes f is, no_long f is, no_short f is)

next_fault : (name : Text) (two : Bool) (a b : Text) (fs : List Text) (f g : Text) → is_plain g ≡ true
    → turn_fault (shape name two true) [] (at_word (held_file two a b fs f) positional (place_after two)) g ≡ []
unfolding clap_on_literals
next_fault name false a b [] f g is = rw (no_dashes g is, no_long g is, no_short g is)
next_fault name true a b [] f g is = rw (no_dashes g is, no_long g is, no_short g is)
next_fault name false a b (e ∷ es) f g is = rw (no_dashes g is, no_long g is, no_short g is)
next_fault name true a b (e ∷ es) f g is = rw (no_dashes g is, no_long g is, no_short g is)

more_walk : (two : Bool) (a b : Text) (fs : List Text) (f : Text) (gs : List Text) → list_all is_plain gs ≡ true
    → fold (walked (rules two true) []) (at_word (held_file two a b fs f) positional (place_after two)) gs
    ≡ at_word (held_end two a b fs f gs) positional (place_after two)
more_walk two a b fs f [] plain = refl
more_walk two a b fs f (g ∷ gs) plain =
    let (here, more) = and_parts (is_plain g) (list_all is_plain gs) plain in
    ap (λ w. fold (walked (rules two true) []) w gs) (next_word two a b fs f g here)
    ∙ more_walk two a b (fs ++ f ∷ []) g gs more

more_fault : (name : Text) (two : Bool) (a b : Text) (fs : List Text) (f : Text) (gs : List Text) → list_all is_plain gs ≡ true
    → walk_fault (shape name two true) [] (at_word (held_file two a b fs f) positional (place_after two)) gs ≡ []
unfolding clap_on_literals
more_fault name two a b fs f [] plain = refl
more_fault name two a b fs f (g ∷ gs) plain =
    let (here, more) = and_parts (is_plain g) (list_all is_plain gs) plain in
    fault_step name two true (at_word (held_file two a b fs f) positional (place_after two)) g gs (next_fault name two a b fs f g here)
    ∙ (ap (λ w. walk_fault (shape name two true) [] w gs) (next_word two a b fs f g here)
    ∙ more_fault name two a b (fs ++ f ∷ []) g gs more)

pub files_walk : (two : Bool) (a b : Text) (files : List Text) → list_all is_plain files ≡ true
    → (fold (walked (rules two true) []) (at_word (held_needed two a b) idle (place_after two)) files).held ≡ held_files two a b files
files_walk two a b [] plain = refl
files_walk two a b (f ∷ fs) plain =
    let (here, more) = and_parts (is_plain f) (list_all is_plain fs) plain in
    ap (λ w. (fold (walked (rules two true) []) w fs).held) (open_word two a b f here)
    ∙ ap (λ (w : Walk). w.held) (more_walk two a b [] f fs more)

pub files_fault : (name : Text) (two : Bool) (a b : Text) (files : List Text) → list_all is_plain files ≡ true
    → walk_fault (shape name two true) [] (at_word (held_needed two a b) idle (place_after two)) files ≡ []
unfolding clap_on_literals
files_fault name two a b [] plain = refl
files_fault name two a b (f ∷ fs) plain =
    let (here, more) = and_parts (is_plain f) (list_all is_plain fs) plain in
    fault_step name two true (at_word (held_needed two a b) idle (place_after two)) f fs (open_fault name two a b f here)
    ∙ (ap (λ w. walk_fault (shape name two true) [] w fs) (open_word two a b f here)
    ∙ more_fault name two a b [] f fs more)

-- ---- at the end

end_fault : (name : Text) (two : Bool) (a b : Text) (fs : List Text) (f : Text) (gs : List Text)
    → level_at (shape name two true) [] (held_end two a b fs f gs) ≡ []
unfolding clap_on_literals
end_fault name false a b [] f [] = refl
end_fault name true a b [] f [] = refl
end_fault name false a b (e ∷ es) f [] = refl
end_fault name true a b (e ∷ es) f [] = refl
end_fault name two a b fs f (g ∷ gs) = end_fault name two a b (fs ++ f ∷ []) g gs

pub files_end : (name : Text) (two : Bool) (a b : Text) (files : List Text)
    → level_at (shape name two true) [] (held_files two a b files) ≡ []
unfolding clap_on_literals
files_end name false a b [] = refl
files_end name true a b [] = refl
files_end name two a b (f ∷ fs) = end_fault name two a b [] f fs

pub needed_end : (name : Text) (two : Bool) (a b : Text)
    → level_at (shape name two false) [] (held_needed two a b) ≡ []
unfolding clap_on_literals
needed_end name false a b = refl
needed_end name true a b = refl

end_first : (two : Bool) (a b : Text) (fs : List Text) (f : Text) (gs : List Text)
    → first_of (codes "first") (finished (rules two true) (held_end two a b fs f gs)) ≡ Some a
unfolding clap_on_literals
end_first false a b [] f [] = refl
end_first true a b [] f [] = refl
end_first false a b (e ∷ es) f [] = refl
end_first true a b (e ∷ es) f [] = refl
end_first two a b fs f (g ∷ gs) = end_first two a b (fs ++ f ∷ []) g gs

pub files_first : (two : Bool) (a b : Text) (files : List Text)
    → first_of (codes "first") (finished (rules two true) (held_files two a b files)) ≡ Some a
unfolding clap_on_literals
files_first false a b [] = refl
files_first true a b [] = refl
files_first two a b (f ∷ fs) = end_first two a b [] f fs

end_second : (two : Bool) (a b : Text) (fs : List Text) (f : Text) (gs : List Text)
    → first_of (codes "second") (finished (rules two true) (held_end two a b fs f gs)) ≡ second_if two b
unfolding clap_on_literals
end_second false a b [] f [] = refl
end_second true a b [] f [] = refl
end_second false a b (e ∷ es) f [] = refl
end_second true a b (e ∷ es) f [] = refl
end_second two a b fs f (g ∷ gs) = end_second two a b (fs ++ f ∷ []) g gs

pub files_second : (two : Bool) (a b : Text) (files : List Text)
    → first_of (codes "second") (finished (rules two true) (held_files two a b files)) ≡ second_if two b
unfolding clap_on_literals
files_second false a b [] = refl
files_second true a b [] = refl
files_second two a b (f ∷ fs) = end_second two a b [] f fs

pub needed_first : (two : Bool) (a b : Text)
    → first_of (codes "first") (finished (rules two false) (held_needed two a b)) ≡ Some a
unfolding clap_on_literals
needed_first false a b = refl
needed_first true a b = refl

pub needed_second : (two : Bool) (a b : Text)
    → first_of (codes "second") (finished (rules two false) (held_needed two a b)) ≡ second_if two b
unfolding clap_on_literals
needed_second false a b = refl
needed_second true a b = refl

-- ---- a word too few

pub no_first : (name : Text) (two files : Bool) → level_at (shape name two files) [] nothing_held ≡ kind.MissingRequiredArgument ∷ []
unfolding clap_on_literals
no_first name false false = refl
no_first name true false = refl
no_first name false true = refl
no_first name true true = refl

pub no_second : (name : Text) (files : Bool) (a : Text) → level_at (shape name true files) [] (held_first a) ≡ kind.MissingRequiredArgument ∷ []
unfolding clap_on_literals
no_second name false a = refl
no_second name true a = refl
