-- What clap makes of words of which none is empty or begins with a dash: their line, or a fault.
use Rattle.std.proofs.Common.{◌≡◌, ◌⊎◌, inl, inr, Bool, true, false, List, [], ◌∷◌, Some, None, codes, refl, sym, ap, ap₂, ◌∙◌, fold, subst}
use Rattle.std.specs.Prelude.{find}
use Rattle.std.specs.List.{list_all}
use Rattle.std.specs.Str.{bytes_eq}
use Rattle.std.proofs.lemmas.Bool.{and_parts}
use Rattle.std.proofs.lemmas.Slice.Eq.{bytes_eq-Decides}
use Rattle.clap.specs.declared.error.kind.ErrorKind.TheVariants as kind
use Rattle.clap.specs.Faults.{fault_of}
use Rattle.clap.specs.Simple.{subcommand_of}
use Rattle.clap.specs.Walk.{Row, Text, Walk, finished, first_of, nothing_held, rows_after, walk_from, walked}
use Rattle.clap.proofs.OnLiterals.{clap_on_literals}
use Rattle.vs_command.specs.Line.{line_by, line_in}
use Rattle.vs_command.specs.Parser.{words_app}
use Rattle.vs_command.specs.Verb.{all_verbs, name_of, takes_files, takes_second, verb_named}
use Rattle.vs_command.specs.Word.{is_plain}
use Rattle.vs_command.specs.declared.verb.Verb.{Verb}
use Rattle.vs_command.specs.declared.verb.Verb.TheVariants.{Run, Play, Gen, Reads, Plan, Audit, Info}
use Rattle.vs_command.proofs.Needed.{files_end, files_fault, files_first, files_second, files_walk, first_walk, first_walk_fault, needed_end, needed_fault, needed_first, needed_second, needed_walk, no_first, no_second, stray_fault}
use Rattle.vs_command.proofs.Shapes.{level, level_at, needed, rules, second_if, shape}
use Rattle.vs_command.proofs.Top.{no_words, stray, verb_faults, verb_rows}

-- ---- the words after a verb

-- they are no line, and clap refuses them
record IsRefused (two may : Bool) (name : Text) (verb : Verb) (words : List Text) : Type 0 where
  none : line_by two may verb words ≡ None
  fault : level (shape name two may) words ≡ [] → ⊥

-- they are a line, and clap gives its words
record IsTaken (two may : Bool) (name : Text) (verb : Verb) (words : List Text) : Type 0 where
  first : Text
  second : Text
  files : List Text
  is : line_by two may verb words
      ≡ Some (record { verb = verb; first = first; second = second_if two second; files = files })
  fault : level (shape name two may) words ≡ []
  first_is : first_of (codes "first") (rows_after (rules two may) [] words) ≡ Some first
  second_is : first_of (codes "second") (rows_after (rules two may) [] words) ≡ second_if two second
  words_are : words ≡ needed two first second files

-- no files follow
no_files_line : (two may : Bool) (verb : Verb) (a b : Text)
    → line_by two may verb (needed two a b []) ≡ Some (record { verb = verb; first = a; second = second_if two b; files = [] })
no_files_line false may verb a b = refl
no_files_line true may verb a b = refl

taken_alone : (two : Bool) (name : Text) (verb : Verb) (a b : Text) → is_plain a ≡ true → is_plain b ≡ true → IsTaken two false name verb (needed two a b [])
unfolding clap_on_literals
taken_alone two name verb a b one other = record {
  first = a;
  second = b;
  files = [];
  is = no_files_line two false verb a b;
  fault =
      ap₂ (level_at (shape name two false)) (needed_fault name two false a b [] one other) (ap (λ (w : Walk). w.held) (needed_walk two false a b [] one other))
      ∙ needed_end name two a b;
  first_is = ap (λ (w : Walk). first_of (codes "first") (finished (rules two false) w.held)) (needed_walk two false a b [] one other) ∙ needed_first two a b;
  second_is = ap (λ (w : Walk). first_of (codes "second") (finished (rules two false) w.held)) (needed_walk two false a b [] one other) ∙ needed_second two a b;
  words_are = refl;
}

files_line : (two : Bool) (verb : Verb) (a b : Text) (files : List Text)
    → line_by two true verb (needed two a b files) ≡ Some (record { verb = verb; first = a; second = second_if two b; files = files })
files_line false verb a b [] = refl
files_line true verb a b [] = refl
files_line false verb a b (f ∷ fs) = refl
files_line true verb a b (f ∷ fs) = refl

taken_files : (two : Bool) (name : Text) (verb : Verb) (a b : Text) (files : List Text) → is_plain a ≡ true → is_plain b ≡ true → list_all is_plain files ≡ true
    → IsTaken two true name verb (needed two a b files)
taken_files two name verb a b files one other plain =
    let found = needed_fault name two true a b files one other ∙ files_fault name two a b files plain in
    let ended = ap (λ (w : Walk). w.held) (needed_walk two true a b files one other) ∙ files_walk two a b files plain in
    record {
      first = a;
      second = b;
      files = files;
      is = files_line two verb a b files;
      fault = ap₂ (level_at (shape name two true)) found ended ∙ files_end name two a b files;
      first_is = ap (λ h. first_of (codes "first") (finished (rules two true) h)) ended ∙ files_first two a b files;
      second_is = ap (λ h. first_of (codes "second") (finished (rules two true) h)) ended ∙ files_second two a b files;
      words_are = refl;
    }

one_more_line : (two : Bool) (verb : Verb) (a b g : Text) (words : List Text) → line_by two false verb (needed two a b (g ∷ words)) ≡ None
one_more_line false verb a b g words = refl
one_more_line true verb a b g words = refl

one_more : (two : Bool) (name : Text) (verb : Verb) (a b g : Text) (words : List Text) → is_plain a ≡ true → is_plain b ≡ true → is_plain g ≡ true
    → IsRefused two false name verb (needed two a b (g ∷ words))
one_more two name verb a b g words one other third = record {
  none = one_more_line two verb a b g words;
  fault = λ is.
      let found = needed_fault name two false a b (g ∷ words) one other ∙ stray_fault name two a b g words third in
      let bad : kind.UnknownArgument ∷ [] ≡ [] = sym (ap (λ k. level_at (shape name two false) k (fold (walked (rules two false) []) (walk_from nothing_held) (needed two a b (g ∷ words))).held) found) ∙ is in
      cc;
}

no_second_word : (may : Bool) (name : Text) (verb : Verb) (a : Text) → is_plain a ≡ true → IsRefused true may name verb (a ∷ [])
unfolding clap_on_literals
no_second_word may name verb a one = record {
  none = refl;
  fault = λ is.
      let at_end = ap₂ (level_at (shape name true may)) (first_walk_fault name true may a [] one) (ap (λ (w : Walk). w.held) (first_walk true may a [] one)) ∙ no_second name may a in
      let bad : kind.MissingRequiredArgument ∷ [] ≡ [] = sym at_end ∙ is in
      cc;
}

no_first_word : (two may : Bool) (name : Text) (verb : Verb) → IsRefused two may name verb []
unfolding clap_on_literals
no_first_word two may name verb = record {
  none = refl;
  fault = λ is. (let bad : kind.MissingRequiredArgument ∷ [] ≡ [] = sym (no_first name two may) ∙ is in cc);
}

after_verb : (two may : Bool) (name : Text) (verb : Verb) (words : List Text) → list_all is_plain words ≡ true
    → IsRefused two may name verb words ⊎ IsTaken two may name verb words
after_verb two may name verb [] plain = inl (no_first_word two may name verb)
after_verb false false name verb (a ∷ []) plain =
    let one = (and_parts (is_plain a) true plain).0 in
    inr (taken_alone false name verb a a one one)
after_verb false false name verb (a ∷ g ∷ words) plain =
    let (one, rest) = and_parts (is_plain a) (list_all is_plain (g ∷ words)) plain in
    inl (one_more false name verb a a g words one one (and_parts (is_plain g) (list_all is_plain words) rest).0)
after_verb false true name verb (a ∷ words) plain =
    let (one, rest) = and_parts (is_plain a) (list_all is_plain words) plain in
    inr (taken_files false name verb a a words one one rest)
after_verb true may name verb (a ∷ []) plain = inl (no_second_word may name verb a (and_parts (is_plain a) true plain).0)
after_verb true false name verb (a ∷ b ∷ []) plain =
    let (one, rest) = and_parts (is_plain a) (list_all is_plain (b ∷ [])) plain in
    inr (taken_alone true name verb a b one (and_parts (is_plain b) true rest).0)
after_verb true false name verb (a ∷ b ∷ g ∷ words) plain =
    let (one, rest) = and_parts (is_plain a) (list_all is_plain (b ∷ g ∷ words)) plain in
    let (other, more) = and_parts (is_plain b) (list_all is_plain (g ∷ words)) rest in
    inl (one_more true name verb a b g words one other (and_parts (is_plain g) (list_all is_plain words) more).0)
after_verb true true name verb (a ∷ b ∷ words) plain =
    let (one, rest) = and_parts (is_plain a) (list_all is_plain (b ∷ words)) plain in
    let (other, more) = and_parts (is_plain b) (list_all is_plain words) rest in
    inr (taken_files true name verb a b words one other more)

-- ---- all words

pub record IsNoLine (words : List Text) : Type 0 where
  pub none : line_in words ≡ None
  pub fault : fault_of words_app words ≡ [] → ⊥

pub record IsLine (words : List Text) : Type 0 where
  pub verb : Verb
  pub first : Text
  pub second : Text
  pub files : List Text
  pub rows : List Row
  pub is : line_in words
      ≡ Some (record { verb = verb; first = first; second = second_if (takes_second verb) second; files = files })
  pub fault : fault_of words_app words ≡ []
  pub subcommand : subcommand_of words_app words ≡ Some (name_of verb, rows)
  pub first_is : first_of (codes "first") rows ≡ Some first
  pub second_is : first_of (codes "second") rows ≡ second_if (takes_second verb) second
  pub words_are : words ≡ name_of verb ∷ needed (takes_second verb) first second files

found_passes : {X : Type 0} (p : X → Bool) (xs : List X) (x : X) → find p xs ≡ Some x → p x ≡ true
found_passes p [] x found = cc
found_passes p (y ∷ ys) x found = elim (p y) as (λ b. p y ≡ b → p x ≡ true) [
  | true ↦ λ is. (let here : find p (y ∷ ys) ≡ Some y = rw is refl in let same : y ≡ x = cc in ap p (sym same) ∙ is)
  | false ↦ λ is. found_passes p ys x (rw is at found)
] refl

pub name_named : (word : Text) (verb : Verb) → verb_named word ≡ Some verb → name_of verb ≡ word
name_named word verb named = (bytes_eq-Decides (name_of verb) word).0 (found_passes (λ v. bytes_eq (name_of v) word) all_verbs verb named)

pub named_name : (verb : Verb) → verb_named (name_of verb) ≡ Some verb
named_name Run = refl
named_name Play = refl
named_name Gen = refl
named_name Reads = refl
named_name Plan = refl
named_name Audit = refl
named_name Info = refl

at_verb : (verb : Verb) (words : List Text) → list_all is_plain words ≡ true → IsNoLine (name_of verb ∷ words) ⊎ IsLine (name_of verb ∷ words)
at_verb verb words plain = elim (after_verb (takes_second verb) (takes_files verb) (name_of verb) verb words plain) [
  | inl refusal ↦ inl (record {
    none = rw (named_name verb) refusal.none;
    fault = λ is. refusal.fault (sym (verb_faults verb words) ∙ is);
  })
  | inr found ↦ inr (record {
    verb = verb;
    first = found.first;
    second = found.second;
    files = found.files;
    rows = rows_after (rules (takes_second verb) (takes_files verb)) [] words;
    is = rw (named_name verb) found.is;
    fault = verb_faults verb words ∙ found.fault;
    subcommand = verb_rows verb words;
    first_is = found.first_is;
    second_is = found.second_is;
    words_are = ap (λ ws. name_of verb ∷ ws) found.words_are;
  })
]

pub outcome : (words : List Text) → list_all is_plain words ≡ true → IsNoLine words ⊎ IsLine words
outcome [] plain = inl (record {
  none = refl;
  fault = λ is. (let bad : kind.MissingSubcommand ∷ [] ≡ [] = sym no_words ∙ is in cc);
})
outcome (word ∷ words) plain =
    let (one, rest) = and_parts (is_plain word) (list_all is_plain words) plain in
    elim (verb_named word) as (λ o. verb_named word ≡ o → IsNoLine (word ∷ words) ⊎ IsLine (word ∷ words)) [
      | None ↦ λ is. inl (record {
        none = rw is refl;
        fault = λ no. (let bad : kind.UnknownArgument ∷ kind.InvalidSubcommand ∷ [] ≡ [] = sym (stray word words one is) ∙ no in cc);
      })
      | Some verb ↦ λ is. subst (λ (w : Text). IsNoLine (w ∷ words) ⊎ IsLine (w ∷ words)) (name_named word verb is) (at_verb verb words rest)
    ] refl
