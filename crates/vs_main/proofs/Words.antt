-- What is known of words that are a command.
use Rattle.std.proofs.Common.{◌≡◌, ℕ, Bool, true, false, List, [], ◌∷◌, Option, Some, None, refl, sym, ap, ◌∙◌, subst, arith, cond, option_map}
use Rattle.std.specs.Prelude.{All, IsTrue, find, option_and_then}
use Rattle.std.specs.List.{list_all}
use Rattle.std.specs.Str.{bytes_eq}
use Rattle.std.proofs.lemmas.Slice.Eq.{bytes_eq-Decides}
use Rattle.vs_command.specs.Command.{Command, are_between, asked, asked_of, command_in, verb_of}
use Rattle.vs_command.specs.Command as command
use Rattle.vs_command.specs.Verb.{all_verbs, name_of, verb_named}
use Rattle.vs_command.specs.Verbs.{has}
use Rattle.vs_command.specs.Word.{Text, is_plain, number_in}
use Rattle.vs_command.specs.declared.command.TheConstants.{MOST_CLIENTS, MOST_FILES}
use Rattle.vs_command.specs.declared.verb.Verb.{Verb}
use Rattle.vs_command.specs.declared.verb.Verb.TheVariants.{Run, Play, Gen, Reads, Plan, Audit, Info}
use Rattle.vs_command.specs.declared.verbs.Verbs.{Verbs}
use Rattle.vs_host.specs.Told.{Told}
use Rattle.vs_inputs.specs.Words.{MayRead}

-- ---- the words of each command after its verb

abbrev AreWords : Command → List Text → Type 0
AreWords (command.Run config files) rest = (rest ≡ config ∷ files) × (are_between 0 MOST_FILES files ≡ true)
AreWords (command.Play config events files) rest = (rest ≡ config ∷ events ∷ files) × (are_between 0 MOST_FILES files ≡ true)
AreWords (command.Gen n) rest = (word : Text) × (rest ≡ word ∷ [])
AreWords (command.Reads config rows files) rest = (rest ≡ config ∷ rows ∷ files) × (are_between 1 MOST_CLIENTS files ≡ true)
AreWords (command.Plan config counts) rest = rest ≡ config ∷ counts ∷ []
AreWords (command.Audit report) rest = rest ≡ report ∷ []
AreWords (command.Info config) rest = rest ≡ config ∷ []

record IsOf (verb : Verb) (rest : List Text) (c : Command) : Type 0 where
  verb_is : verb_of c ≡ verb
  words : AreWords c rest

of_same : (verb : Verb) (rest : List Text) (d c : Command) → Some d ≡ Some c → IsOf verb rest d → IsOf verb rest c
of_same verb rest d c same is = let equal : d ≡ c = cc (same) in subst (IsOf verb rest) equal is

if_some : (b : Bool) (o : Option Command) (c : Command) → cond b o None ≡ Some c → (b ≡ true) × (o ≡ Some c)
if_some true o c is = (refl, is)
if_some false o c is = cc

of_number : (word : Text) (n : Option ℕ) (c : Command) → option_map command.Gen n ≡ Some c → IsOf Gen (word ∷ []) c
of_number word None c is = cc
of_number word (Some n) c is = of_same Gen (word ∷ []) (command.Gen n) c is (record { verb_is = refl; words = (word, refl) })

asked_words : (verb : Verb) (rest : List Text) (c : Command) → asked verb rest ≡ Some c → IsOf verb rest c
asked_words Run [] c is = cc
asked_words Run (config ∷ files) c is =
    let p = if_some (are_between 0 MOST_FILES files) (Some (command.Run config files)) c is in
    of_same Run (config ∷ files) (command.Run config files) c p.1 (record { verb_is = refl; words = (refl, p.0) })
asked_words Play [] c is = cc
asked_words Play (config ∷ []) c is = cc
asked_words Play (config ∷ events ∷ files) c is =
    let p = if_some (are_between 0 MOST_FILES files) (Some (command.Play config events files)) c is in
    of_same Play (config ∷ events ∷ files) (command.Play config events files) c p.1 (record { verb_is = refl; words = (refl, p.0) })
asked_words Gen [] c is = cc
asked_words Gen (word ∷ []) c is = of_number word (number_in word) c is
asked_words Gen (word ∷ other ∷ rest) c is = cc
asked_words Reads [] c is = cc
asked_words Reads (config ∷ []) c is = cc
asked_words Reads (config ∷ rows ∷ files) c is =
    let p = if_some (are_between 1 MOST_CLIENTS files) (Some (command.Reads config rows files)) c is in
    of_same Reads (config ∷ rows ∷ files) (command.Reads config rows files) c p.1 (record { verb_is = refl; words = (refl, p.0) })
asked_words Plan [] c is = cc
asked_words Plan (config ∷ []) c is = cc
asked_words Plan (config ∷ counts ∷ []) c is = of_same Plan (config ∷ counts ∷ []) (command.Plan config counts) c is (record { verb_is = refl; words = refl })
asked_words Plan (config ∷ counts ∷ other ∷ rest) c is = cc
asked_words Audit [] c is = cc
asked_words Audit (report ∷ []) c is = of_same Audit (report ∷ []) (command.Audit report) c is (record { verb_is = refl; words = refl })
asked_words Audit (report ∷ other ∷ rest) c is = cc
asked_words Info [] c is = cc
asked_words Info (config ∷ []) c is = of_same Info (config ∷ []) (command.Info config) c is (record { verb_is = refl; words = refl })
asked_words Info (config ∷ other ∷ rest) c is = cc

-- ---- the verb

passes : (p : Verb → Bool) (verbs : List Verb) (verb : Verb) → find p verbs ≡ Some verb → p verb ≡ true
passes p [] verb is = cc
passes p (v ∷ vs) verb is = elim (p v) as (λ b. p v ≡ b → cond b (Some v) (find p vs) ≡ Some verb → p verb ≡ true) [
  | true ↦ λ yes found. (let same : v ≡ verb = cc (found) in ap p (sym same) ∙ yes)
  | false ↦ λ no found. passes p vs verb found
] refl is

named : (word : Text) (verb : Verb) → verb_named word ≡ Some verb → word ≡ name_of verb
named word verb is = sym ((bytes_eq-Decides (name_of verb) word).0 (passes (λ v. bytes_eq (name_of v) word) all_verbs verb is))

-- ---- the words

pub record IsSpelled (verbs : Verbs) (words : List Text) (c : Command) : Type 0 where
  pub rest : List Text
  pub words_are : words ≡ name_of (verb_of c) ∷ rest
  pub plain : list_all is_plain (name_of (verb_of c) ∷ rest) ≡ true
  pub built : has verbs (verb_of c) ≡ true
  pub after : AreWords c rest

then_some : (f : Verb → Option Command) (o : Option Verb) (c : Command) → option_and_then f o ≡ Some c → (verb : Verb) × (o ≡ Some verb) × (f verb ≡ Some c)
then_some f None c is = cc
then_some f (Some verb) c is = (verb, refl, is)

pub spelled : (verbs : Verbs) (words : List Text) (c : Command) → command_in verbs words ≡ Some c → IsSpelled verbs words c
spelled verbs [] c is = cc
spelled verbs (word ∷ rest) c is =
    let whole = if_some (list_all is_plain (word ∷ rest)) (option_and_then (asked_of verbs rest) (verb_named word)) c is in
    let found = then_some (asked_of verbs rest) (verb_named word) c whole.1 in
    let built = if_some (has verbs found.0) (asked found.0 rest) c found.2 in
    let of = asked_words found.0 rest c built.1 in
    let word_is : word ≡ name_of (verb_of c) = named word found.0 found.1 ∙ ap name_of (sym of.verb_is) in
    record {
      rest = rest;
      words_are = ap (λ (w : Text). w ∷ rest) word_is;
      plain = subst (λ (w : Text). list_all is_plain (w ∷ rest) ≡ true) word_is whole.0;
      built = ap (has verbs) of.verb_is ∙ built.0;
      after = of.words;
    }

-- ---- what may be read

pub plan_may_read : (host : Told) (verbs : Verbs) (words : List Text) (config counts : Text) → command_in verbs words ≡ Some (command.Plan config counts) → MayRead host words → IsTrue (host.may_read config) × IsTrue (host.may_read counts)
plan_may_read host verbs words config counts is may =
    let s = spelled verbs words (command.Plan config counts) is in
    let words_are : words ≡ name_of Plan ∷ config ∷ counts ∷ [] = s.words_are ∙ ap (λ (r : List Text). name_of Plan ∷ r) s.after in
    let all : MayRead host (name_of Plan ∷ config ∷ counts ∷ []) = subst (MayRead host) words_are may in
    (all 0 [] (omega arith), all 1 [] (omega arith))

pub run_may_read : (host : Told) (verbs : Verbs) (words : List Text) (config : Text) (files : List Text) → command_in verbs words ≡ Some (command.Run config files) → MayRead host words → All (λ name. IsTrue (host.may_read name)) (config ∷ files)
run_may_read host verbs words config files is may =
    let s = spelled verbs words (command.Run config files) is in
    let words_are : words ≡ name_of Run ∷ config ∷ files = s.words_are ∙ ap (λ (r : List Text). name_of Run ∷ r) s.after.0 in
    subst (MayRead host) words_are may

pub reads_may_read : (host : Told) (verbs : Verbs) (words : List Text) (config rows : Text) (files : List Text) → command_in verbs words ≡ Some (command.Reads config rows files) → MayRead host words → All (λ name. IsTrue (host.may_read name)) (config ∷ rows ∷ files)
reads_may_read host verbs words config rows files is may =
    let s = spelled verbs words (command.Reads config rows files) is in
    let words_are : words ≡ name_of Reads ∷ config ∷ rows ∷ files = s.words_are ∙ ap (λ (r : List Text). name_of Reads ∷ r) s.after.0 in
    subst (MayRead host) words_are may

pub audit_may_read : (host : Told) (verbs : Verbs) (words : List Text) (report : Text) → command_in verbs words ≡ Some (command.Audit report) → MayRead host words → IsTrue (host.may_read report)
audit_may_read host verbs words report is may =
    let s = spelled verbs words (command.Audit report) is in
    let words_are : words ≡ name_of Audit ∷ report ∷ [] = s.words_are ∙ ap (λ (r : List Text). name_of Audit ∷ r) s.after in
    let all : MayRead host (name_of Audit ∷ report ∷ []) = subst (MayRead host) words_are may in
    all 0 [] (omega arith)

pub info_may_read : (host : Told) (verbs : Verbs) (words : List Text) (config : Text) → command_in verbs words ≡ Some (command.Info config) → MayRead host words → IsTrue (host.may_read config)
info_may_read host verbs words config is may =
    let s = spelled verbs words (command.Info config) is in
    let words_are : words ≡ name_of Info ∷ config ∷ [] = s.words_are ∙ ap (λ (r : List Text). name_of Info ∷ r) s.after in
    let all : MayRead host (name_of Info ∷ config ∷ []) = subst (MayRead host) words_are may in
    all 0 [] (omega arith)
