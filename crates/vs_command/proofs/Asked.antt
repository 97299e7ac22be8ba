-- The command of words is the command of their line.
use Rattle.std.proofs.Common.{◌≡◌, ℕ, Bool, true, false, List, [], ◌∷◌, Option, Some, None, refl, sym, ap, ◌∙◌, cond, is_some, option_map, subst}
use Rattle.std.specs.List.{list_all}
use Rattle.std.specs.Borrow.{Bor}
use Rattle.std.specs.Prelude.{IfSome, IsTrue, option_and_then}
use Rattle.vs_command.specs.Command as command
use Rattle.vs_command.specs.Command.{Command, asked, asked_of, command_in, verb_of, when}
use Rattle.vs_command.specs.Line.{Line, command_by, command_if_built, command_of_line, line, line_after, line_by, line_in}
use Rattle.vs_command.specs.Verb.{takes_second, verb_named}
use Rattle.vs_command.specs.Verbs.{has}
use Rattle.vs_command.specs.Word.{Text, is_plain, number_in}
use Rattle.vs_command.specs.declared.command.Command as code_command
use Rattle.vs_command.specs.declared.line.Line as code
use Rattle.vs_command.specs.declared.verb.Verb.{Verb}
use Rattle.vs_command.specs.declared.verb.Verb.TheVariants.{Run, Play, Gen, Reads, Plan, Audit, Info}
use Rattle.vs_command.specs.declared.verbs.Verbs.{Verbs}

-- by the verb, and by how many words follow
pub asked_is : (verb : Verb) (words : List Text) → asked verb words ≡ option_and_then command_of_line (line_after verb words)
asked_is Run [] = refl
asked_is Run (a ∷ []) = refl
asked_is Run (a ∷ b ∷ words) = refl
asked_is Play [] = refl
asked_is Play (a ∷ []) = refl
asked_is Play (a ∷ b ∷ []) = refl
asked_is Play (a ∷ b ∷ c ∷ words) = refl
asked_is Gen [] = refl
asked_is Gen (a ∷ []) = refl
asked_is Gen (a ∷ b ∷ words) = refl
asked_is Reads [] = refl
asked_is Reads (a ∷ []) = refl
asked_is Reads (a ∷ b ∷ []) = refl
asked_is Reads (a ∷ b ∷ c ∷ words) = refl
asked_is Plan [] = refl
asked_is Plan (a ∷ []) = refl
asked_is Plan (a ∷ b ∷ []) = refl
asked_is Plan (a ∷ b ∷ c ∷ words) = refl
asked_is Audit [] = refl
asked_is Audit (a ∷ []) = refl
asked_is Audit (a ∷ b ∷ words) = refl
asked_is Info [] = refl
asked_is Info (a ∷ []) = refl
asked_is Info (a ∷ b ∷ words) = refl

-- words that aren't all plain are no command
pub not_plain : (verbs : Verbs) (words : List Text) → list_all is_plain words ≡ false → command_in verbs words ≡ None
not_plain verbs [] h = refl
not_plain verbs (word ∷ words) h = rw h refl

-- nor are words of which there is no line
pub no_line : (verbs : Verbs) (words : List Text) → line_in words ≡ None → command_in verbs words ≡ None
no_line verbs [] none = refl
no_line verbs (word ∷ words) none = elim (list_all is_plain (word ∷ words)) as (λ b. list_all is_plain (word ∷ words) ≡ b → command_in verbs (word ∷ words) ≡ None) [
  | true ↦ λ is. elim (verb_named word) as (λ o. verb_named word ≡ o → command_in verbs (word ∷ words) ≡ None) [
    | None ↦ λ named. rw (is, named) refl
    | Some verb ↦ λ named.
        let after : line_after verb words ≡ None = rw named at none in
        let nothing : asked verb words ≡ None = asked_is verb words ∙ ap (option_and_then command_of_line) after in
        rw (is, named) (none_either (has verbs verb) (asked verb words) nothing)
  ] refl
  | false ↦ λ is. rw is refl
] refl
  where
    none_either : (b : Bool) (o : Option Command) → o ≡ None → cond b o None ≡ None
    none_either true o none = none
    none_either false o none = refl

-- ---- what is known of a line

same_verb : (l line : Line) → Some l ≡ Some line → l ≡ line
same_verb l line is = cc

pub line_verb : (two may : Bool) (verb : Verb) (words : List Text) (line : Line) → line_by two may verb words ≡ Some line → line.verb ≡ verb
line_verb two may verb [] line is = cc
line_verb false may verb (a ∷ []) line is = ap (λ (l : Line). l.verb) (sym (same_verb _ line is))
line_verb false false verb (a ∷ f ∷ fs) line is = cc
line_verb false true verb (a ∷ f ∷ fs) line is = ap (λ (l : Line). l.verb) (sym (same_verb _ line is))
line_verb true may verb (a ∷ []) line is = cc
line_verb true may verb (a ∷ b ∷ []) line is = ap (λ (l : Line). l.verb) (sym (same_verb _ line is))
line_verb true false verb (a ∷ b ∷ f ∷ fs) line is = cc
line_verb true true verb (a ∷ b ∷ f ∷ fs) line is = ap (λ (l : Line). l.verb) (sym (same_verb _ line is))

line_two : (two may : Bool) (verb : Verb) (words : List Text) (line : Line) → line_by two may verb words ≡ Some line → is_some line.second ≡ two
line_two two may verb [] line is = cc
line_two false may verb (a ∷ []) line is = ap (λ (l : Line). is_some l.second) (sym (same_verb _ line is))
line_two false false verb (a ∷ f ∷ fs) line is = cc
line_two false true verb (a ∷ f ∷ fs) line is = ap (λ (l : Line). is_some l.second) (sym (same_verb _ line is))
line_two true may verb (a ∷ []) line is = cc
line_two true may verb (a ∷ b ∷ []) line is = ap (λ (l : Line). is_some l.second) (sym (same_verb _ line is))
line_two true false verb (a ∷ b ∷ f ∷ fs) line is = cc
line_two true true verb (a ∷ b ∷ f ∷ fs) line is = ap (λ (l : Line). is_some l.second) (sym (same_verb _ line is))

-- the verb of words of which there is a line
record HasVerb (words : List Text) (line : Line) : Type 0 where
  word : Text
  rest : List Text
  words_are : words ≡ word ∷ rest
  named : verb_named word ≡ Some line.verb
  after : line_after line.verb rest ≡ Some line

has_verb : (words : List Text) (line : Line) → line_in words ≡ Some line → HasVerb words line
has_verb [] line is = cc
has_verb (word ∷ words) line is = elim (verb_named word) as (λ o. verb_named word ≡ o → HasVerb (word ∷ words) line) [
  | None ↦ λ named. (let bad : None ≡ Some line = rw named at is in cc)
  | Some verb ↦ λ named.
      let after : line_after verb words ≡ Some line = rw named at is in
      let same : line.verb ≡ verb = line_verb _ _ verb words line after in
      record {
        word = word;
        rest = words;
        words_are = refl;
        named = named ∙ ap Some (sym same);
        after = subst (λ (v : Verb). line_after v words ≡ Some line) (sym same) after;
      }
] refl

pub has_second : (words : List Text) (line : Line) → line_in words ≡ Some line → is_some line.second ≡ takes_second line.verb
has_second words line is = let h = has_verb words line is in line_two _ _ line.verb h.rest line h.after

pub by_line : (verbs : Verbs) (words : List Text) (line : Line) → list_all is_plain words ≡ true → line_in words ≡ Some line
    → command_in verbs words ≡ cond (has verbs line.verb) (command_of_line line) None
by_line verbs words line plain is =
    let h = has_verb words line is in
    let shown : list_all is_plain (h.word ∷ h.rest) ≡ true = ap (list_all is_plain) (sym h.words_are) ∙ plain in
    let asks : asked line.verb h.rest ≡ command_of_line line = asked_is line.verb h.rest ∙ ap (option_and_then command_of_line) h.after in
    ap (command_in verbs) h.words_are ∙ asked_by verbs h.word h.rest line.verb shown h.named
    ∙ ap (λ o. cond (has verbs line.verb) o None) asks
  where
    asked_by : (verbs : Verbs) (word : Text) (rest : List Text) (verb : Verb) → list_all is_plain (word ∷ rest) ≡ true → verb_named word ≡ Some verb
        → command_in verbs (word ∷ rest) ≡ cond (has verbs verb) (asked verb rest) None
    asked_by verbs word rest verb plain named = rw (plain, named) refl

-- ---- the verb of a command

given : (b : Bool) (d c : Command) → when b d ≡ Some c → d ≡ c
given true d c is = cc
given false d c is = cc

of_number : (o : Option ℕ) (c : Command) → option_map command.Gen o ≡ Some c → verb_of c ≡ Gen
of_number None c is = cc
of_number (Some n) c is = let same : command.Gen n ≡ c = cc in ap verb_of (sym same)

plainly : (d c : Command) → Some d ≡ Some c → d ≡ c
plainly d c is = cc

verb_by : (verb : Verb) (first : Text) (second : Option Text) (files : List Text) (c : Command) → command_by verb first second files ≡ Some c → verb_of c ≡ verb
verb_by Run a None fs c is = ap verb_of (sym (given _ _ c is))
verb_by Run a (Some b) fs c is = cc
verb_by Play a None fs c is = cc
verb_by Play a (Some b) fs c is = ap verb_of (sym (given _ _ c is))
verb_by Gen a None fs c is = of_number (number_in a) c is
verb_by Gen a (Some b) fs c is = cc
verb_by Reads a None fs c is = cc
verb_by Reads a (Some b) fs c is = ap verb_of (sym (given _ _ c is))
verb_by Plan a None fs c is = cc
verb_by Plan a (Some b) fs c is = ap verb_of (sym (plainly _ c is))
verb_by Audit a None fs c is = ap verb_of (sym (plainly _ c is))
verb_by Audit a (Some b) fs c is = cc
verb_by Info a None fs c is = ap verb_of (sym (plainly _ c is))
verb_by Info a (Some b) fs c is = cc

pub verb_of_line : (line : Line) (c : Command) → command_of_line line ≡ Some c → verb_of c ≡ line.verb
verb_of_line line c is = verb_by line.verb line.first line.second line.files c is

-- ---- the same, of what the code has

some_map : {B : Type 0} (r : Option (Bor B)) → is_some (option_map (λ s. s.now) r) ≡ is_some r
some_map None = refl
some_map (Some s) = refl

pub two_words : (words : List Text) (l : code.Line) → Some (line l) ≡ line_in words → is_some l.second ≡ takes_second l.verb
two_words words l is = sym (some_map l.second) ∙ has_second words (line l) (sym is)

pub is_built : (verbs : Verbs) (l : Line) (r : Option Command) → has verbs l.verb ≡ true → r ≡ command_of_line l → r ≡ command_if_built verbs l
is_built verbs l r built is = rw built is

pub not_built : (verbs : Verbs) (l : Line) → has verbs l.verb ≡ false → None ≡ command_if_built verbs l
not_built verbs l built = rw built refl

pub built_verb : (verbs : Verbs) (l : Line) (r : Option code_command.Command) → has verbs l.verb ≡ true → option_map command.command r ≡ command_of_line l
    → IfSome r (λ c. IsTrue (has verbs (verb_of (command.command c))))
built_verb verbs l None built is = tt
built_verb verbs l (Some c) built is = ap (has verbs) (verb_of_line l (command.command c) (sym is)) ∙ built

pub asked_line : (verbs : Verbs) (words : List Text) (l : code.Line) (r : Option Command) → list_all is_plain words ≡ true → Some (line l) ≡ line_in words
    → r ≡ command_if_built verbs (line l) → r ≡ command_in verbs words
asked_line verbs words l r plain is asked = asked ∙ sym (by_line verbs words (line l) plain (sym is))
