-- How clap walks over the words of all commands: the first names one, and the others are its own.
use Rattle.std.proofs.Common.{◌≡◌, Bool, true, false, List, [], ◌∷◌, ◌++◌, Some, None, refl, sym, ap, ap₂, ◌∙◌, fold, append_assoc, append-nil, is_some}
use Rattle.std.specs.Prelude.{find}
use Rattle.std.specs.Str.{bytes_eq}
use Rattle.clap.specs.Kinds.{Kinds, or_else}
use Rattle.clap.specs.declared.error.kind.ErrorKind.TheVariants as kind
use Rattle.clap.specs.Faults.{check_fault, defaults_fault, entered_fault, fault_of, settle_fault, turn_fault, walk_fault}
use Rattle.clap.specs.Simple.{App, Shape, built, entered, names_of, subcommand_of}
use Rattle.clap.specs.Walk.{Names, Text, Walk, finished, idle, nothing_held, rows_after, settled, walk, walk_from, walked}
use Rattle.clap.proofs.OnLiterals.{clap_on_literals}
use Rattle.vs_command.specs.Parser.{words_app}
use Rattle.vs_command.specs.Verb.{name_of, takes_files, takes_second, verb_named}
use Rattle.vs_command.specs.Word.{is_plain}
use Rattle.vs_command.specs.declared.verb.Verb.{Verb}
use Rattle.vs_command.specs.declared.verb.Verb.TheVariants.{Run, Play, Gen, Reads, Plan, Audit, Info}
use Rattle.vs_command.proofs.PlainWords.{no_dashes, no_long, no_short}
use Rattle.vs_command.proofs.Shapes.{level, shape}

abbrev pub verb_shape : Verb → Shape
verb_shape verb = shape (name_of verb) (takes_second verb) (takes_files verb)

abbrev all : App
all = built words_app

abbrev names : Names
names = names_of all

-- the walk once a verb was met
abbrev after_verb : Text → List Text → Walk
after_verb name words =
    record { held = nothing_held; waiting = idle; position = 1; is_trailing = false; stopped = Some (name, words) }

verb_step : (verb : Verb) → walked all.top.rules names (walk_from nothing_held) (name_of verb) ≡ after_verb (name_of verb) []
unfolding clap_on_literals
verb_step Run = refl
verb_step Play = refl
verb_step Gen = refl
verb_step Reads = refl
verb_step Plan = refl
verb_step Audit = refl
verb_step Info = refl

verb_fault : (verb : Verb) → turn_fault all.top names (walk_from nothing_held) (name_of verb) ≡ []
unfolding clap_on_literals
verb_fault Run = refl
verb_fault Play = refl
verb_fault Gen = refl
verb_fault Reads = refl
verb_fault Plan = refl
verb_fault Audit = refl
verb_fault Info = refl

rest_walk : (name : Text) (done words : List Text) → fold (walked all.top.rules names) (after_verb name done) words ≡ after_verb name (done ++ words)
unfolding clap_on_literals
rest_walk name done [] = ap (after_verb name) (sym (append-nil done))
rest_walk name done (w ∷ ws) = rest_walk name (done ++ w ∷ []) ws ∙ ap (after_verb name) (append_assoc done (w ∷ []) ws)

rest_fault : (name : Text) (done words : List Text) → walk_fault all.top names (after_verb name done) words ≡ []
unfolding clap_on_literals
rest_fault name done [] = refl
rest_fault name done (w ∷ ws) = rest_fault name (done ++ w ∷ []) ws

verb_walk : (verb : Verb) (words : List Text) → walk all.top.rules names nothing_held (name_of verb ∷ words) ≡ after_verb (name_of verb) words
verb_walk verb words =
    ap (λ w. fold (walked all.top.rules names) w words) (verb_step verb) ∙ rest_walk (name_of verb) [] words

walk_fault_is : (verb : Verb) (words : List Text) → walk_fault all.top names (walk_from nothing_held) (name_of verb ∷ words) ≡ []
unfolding clap_on_literals
walk_fault_is verb words =
    ap (λ k. or_else k (walk_fault all.top names (walked all.top.rules names (walk_from nothing_held) (name_of verb)) words)) (verb_fault verb)
    ∙ (ap (λ w. walk_fault all.top names w words) (verb_step verb) ∙ rest_fault (name_of verb) [] words)

-- ---- a verb's words are its own

entered_is : (verb : Verb) (words : List Text) → entered all (Some (name_of verb, words)) ≡ Some (name_of verb, rows_after (verb_shape verb).rules [] words)
unfolding clap_on_literals
entered_is Run words = refl
entered_is Play words = refl
entered_is Gen words = refl
entered_is Reads words = refl
entered_is Plan words = refl
entered_is Audit words = refl
entered_is Info words = refl

pub verb_rows : (verb : Verb) (words : List Text) → subcommand_of words_app (name_of verb ∷ words) ≡ Some (name_of verb, rows_after (verb_shape verb).rules [] words)
verb_rows verb words = ap (λ (w : Walk). entered all w.stopped) (verb_walk verb words) ∙ entered_is verb words

-- what clap holds against words whose walk found this and ended so
abbrev fault_at : Kinds → Walk → Kinds
fault_at found w =
    or_else found (or_else (entered_fault all w.stopped) (or_else (settle_fault all.top.rules all.top.args_override_self w.held)
    (or_else (defaults_fault (settled all.top.rules w.held).rows all.top.rules)
    (check_fault all.top (finished all.top.rules w.held) (is_some (entered all w.stopped))))))

or_else_none : (k : Kinds) → or_else k [] ≡ k
or_else_none [] = refl
or_else_none (x ∷ xs) = refl

fault_is : (verb : Verb) (words : List Text) → fault_at [] (after_verb (name_of verb) words) ≡ or_else (level (verb_shape verb) words) []
unfolding clap_on_literals
fault_is Run words = refl
fault_is Play words = refl
fault_is Gen words = refl
fault_is Reads words = refl
fault_is Plan words = refl
fault_is Audit words = refl
fault_is Info words = refl

pub verb_faults : (verb : Verb) (words : List Text) → fault_of words_app (name_of verb ∷ words) ≡ level (verb_shape verb) words
verb_faults verb words =
    ap₂ fault_at (walk_fault_is verb words) (verb_walk verb words) ∙ (fault_is verb words ∙ or_else_none _)

-- ---- words that begin with no verb

pub no_words : fault_of words_app [] ≡ kind.MissingSubcommand ∷ []
unfolding clap_on_literals
no_words = refl

-- the first of a list isn't found, nor any of the others
not_found : {X : Type 0} (p : X → Bool) (x : X) (xs : List X) → find p (x ∷ xs) ≡ None → (p x ≡ false) × (find p xs ≡ None)
not_found p x xs none = elim (p x) as (λ b. p x ≡ b → (p x ≡ false) × (find p xs ≡ None)) [
  | true ↦ λ is. (let found : find p (x ∷ xs) ≡ Some x = rw is refl in cc)
  | false ↦ λ is. (is, rw is at none)
] refl

pub stray : (word : Text) (words : List Text) → is_plain word ≡ true → verb_named word ≡ None → fault_of words_app (word ∷ words) ≡ kind.UnknownArgument ∷ kind.InvalidSubcommand ∷ []
unfolding clap_on_literals
stray word words plain none =
    let p : Verb → Bool = λ verb. bytes_eq (name_of verb) word in
    let (run, a) = not_found p Run (Play ∷ Gen ∷ Reads ∷ Plan ∷ Audit ∷ Info ∷ []) none in
    let (play, b) = not_found p Play (Gen ∷ Reads ∷ Plan ∷ Audit ∷ Info ∷ []) a in
    let (gen, c) = not_found p Gen (Reads ∷ Plan ∷ Audit ∷ Info ∷ []) b in
    let (reads, d) = not_found p Reads (Plan ∷ Audit ∷ Info ∷ []) c in
    let (plan, e) = not_found p Plan (Audit ∷ Info ∷ []) d in
    let (audit, f) = not_found p Audit (Info ∷ []) e in
    let (info, g) = not_found p Info [] f in
    rw (run, play, gen, reads, plan, audit, info, no_dashes word plain, no_long word plain, no_short word plain)
