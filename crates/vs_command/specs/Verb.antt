-- The first word of a command.
use Rattle.std.specs.Prelude.{Bool, true, false, List, [], ◌∷◌, Option, codes, find}
use Rattle.std.specs.Str.{bytes_eq}
use Rattle.vs_command.specs.Word.{Text}
use Rattle.vs_command.specs.declared.verb.Verb.{Verb}
use Rattle.vs_command.specs.declared.verb.Verb.TheVariants.{Run, Play, Gen, Reads, Plan, Audit, Info}

abbrev pub name_of : Verb → Text
name_of Run = codes "run"
name_of Play = codes "play"
name_of Gen = codes "gen"
name_of Reads = codes "reads"
name_of Plan = codes "plan"
name_of Audit = codes "audit"
name_of Info = codes "info"

abbrev pub all_verbs : List Verb
all_verbs = Run ∷ Play ∷ Gen ∷ Reads ∷ Plan ∷ Audit ∷ Info ∷ []

-- the verb that a word is
abbrev pub verb_named : Text → Option Verb
verb_named word = find (λ verb. bytes_eq (name_of verb) word) all_verbs

-- a second word must follow
abbrev pub takes_second : Verb → Bool
takes_second Play = true
takes_second Reads = true
takes_second Plan = true
takes_second _ = false

-- files may follow
abbrev pub takes_files : Verb → Bool
takes_files Run = true
takes_files Play = true
takes_files Reads = true
takes_files _ = false
