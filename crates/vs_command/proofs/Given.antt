-- What is given of words that clap took.
use Rattle.std.proofs.Common.{◌≡◌, ◌≤◌, inl, inr, Bool, true, false, List, [], ◌∷◌, Option, Some, None, refl, sym, ap, ◌∙◌, map, option_map, is_some, drop, length, arith}
use Rattle.std.specs.Prelude.{MatchOption, String, string_bytes, ◌≢◌}
use Rattle.std.specs.Borrow.{Bor}
use Rattle.std.specs.Global.{Global}
use Rattle.std.specs.List.{list_all}
use Rattle.std.proofs.lemmas.List.{drop-map, length-map}
use Rattle.clap.specs.Words.{fault_of, first_value, rows_of, subcommand_name_of, subcommand_of, subcommand_rows_of}
use Rattle.clap.specs.Walk.{Row, Text, first_of}
use Rattle.clap.specs.declared.parser.matches.ArgMatches.{ArgMatches}
use Rattle.clap.specs.declared.parser.matches.Found.{Found}
use Rattle.clap.proofs.WalkLemmas.{first_value-rows}
use Rattle.vs_command.specs.Line.{before_files, line_in}
use Rattle.vs_command.specs.Parser.{words_app}
use Rattle.vs_command.specs.Verb.{name_of, takes_second, verb_named}
use Rattle.vs_command.specs.Word.{is_plain}
use Rattle.vs_command.specs.declared.verb.Verb.{Verb}
use Rattle.vs_command.proofs.Lines.{IsLine, named_name, outcome}
use Rattle.vs_command.proofs.Shapes.{needed, second_if}

pub taken : (words : List Text) → list_all is_plain words ≡ true → fault_of words_app words ≡ [] → IsLine words
taken words plain fault = elim (outcome words plain) [ inl refusal ↦ absurd (refusal.fault fault) | inr line ↦ line ]

pub refused : (words : List Text) → list_all is_plain words ≡ true → (fault_of words_app words ≡ [] → ⊥) → line_in words ≡ None
refused words plain fault = elim (outcome words plain) [ inl refusal ↦ refusal.none | inr line ↦ absurd (fault line.fault) ]

-- clap refused the words
pub no_matches : (found : Option ArgMatches) (words : List Text) → found ≡ None
    → MatchOption found (fault_of words_app words ≢ []) (λ m. (fault_of words_app words ≡ []) × (subcommand_rows_of m ≡ subcommand_of words_app words))
    → fault_of words_app words ≡ [] → ⊥
no_matches None words is given = given
no_matches (Some m) words is given = cc

pub rows_told : (m : ArgMatches) (words : List Text) (l : IsLine words) → subcommand_rows_of m ≡ subcommand_of words_app words
    → option_map (λ (p : Text × List Row). p.1) (subcommand_rows_of m) ≡ Some l.rows
rows_told m words l is = ap (option_map (λ (p : Text × List Row). p.1)) (is ∙ l.subcommand)

first_of_map : {B : Type 0} (f : B → Text × List Row) (o : Option B) → option_map (λ (p : Text × List Row). p.0) (option_map f o) ≡ option_map (λ b. (f b).0) o
first_of_map f None = refl
first_of_map f (Some b) = refl

name_of_rows : (m : ArgMatches) → option_map (λ (p : Text × List Row). p.0) (subcommand_rows_of m) ≡ subcommand_name_of m
name_of_rows m = first_of_map _ _

pub verb_told : (m : ArgMatches) (words : List Text) (l : IsLine words) (name : Text) → subcommand_rows_of m ≡ subcommand_of words_app words
    → Some name ≡ subcommand_name_of m → verb_named name ≡ Some l.verb
verb_told m words l name is named =
    let same : Some name ≡ Some (name_of l.verb) = named ∙ (sym (name_of_rows m) ∙ ap (option_map (λ (p : Text × List Row). p.0)) (is ∙ l.subcommand)) in
    let name_is : name ≡ name_of l.verb = cc in
    ap verb_named name_is ∙ named_name l.verb

pub value_told : (f : Found) (rows : List Row) (id : Text) (r : Option (Bor Text)) → Some (rows_of f) ≡ Some rows
    → option_map (λ s. s.now) r ≡ first_value f id → option_map (λ s. s.now) r ≡ first_of id rows
value_told f rows id r same value =
    let rows_are : rows_of f ≡ rows = cc in
    value ∙ (first_value-rows f id ∙ ap (first_of id) rows_are)

some_map : {B : Type 0} (r : Option (Bor B)) → is_some (option_map (λ s. s.now) r) ≡ is_some r
some_map None = refl
some_map (Some s) = refl

some_if : (two : Bool) (b : Text) → is_some (second_if two b) ≡ two
some_if true b = refl
some_if false b = refl

pub two_told : (r : Option (Bor Text)) (two : Bool) (b : Text) → option_map (λ s. s.now) r ≡ second_if two b → is_some r ≡ two
two_told r two b is = sym (some_map r) ∙ (ap is_some is ∙ some_if two b)

long_enough : (two : Bool) (name a b : Text) (files : List Text) → before_files two ≤ length (name ∷ needed two a b files)
long_enough true name a b files = omega arith
long_enough false name a b files = omega arith

files_left : (two : Bool) (name a b : Text) (files : List Text) → drop (before_files two) (name ∷ needed two a b files) ≡ files
files_left true name a b files = refl
files_left false name a b files = refl

pub fits_words : (words : List (String Global)) (l : IsLine (map string_bytes words)) (two : Bool) → two ≡ takes_second l.verb → before_files two ≤ length words
fits_words words l two same =
    let enough = long_enough (takes_second l.verb) (name_of l.verb) l.first l.second l.files in
    let as_long : length words ≡ length (name_of l.verb ∷ needed (takes_second l.verb) l.first l.second l.files) = sym (length-map words string_bytes) ∙ ap length l.words_are in
    rw (same, as_long) enough

pub files_told : (words : List (String Global)) (l : IsLine (map string_bytes words)) (two : Bool) → two ≡ takes_second l.verb
    → map string_bytes (drop (before_files two) words) ≡ l.files
files_told words l two same =
    sym (drop-map string_bytes (before_files two) words)
    ∙ (ap (drop (before_files two)) l.words_are
    ∙ (ap (λ t. drop (before_files t) (name_of l.verb ∷ needed (takes_second l.verb) l.first l.second l.files)) same
    ∙ files_left (takes_second l.verb) (name_of l.verb) l.first l.second l.files))

pub same_line : (words : List Text) (l : IsLine words) (verb : Verb) (first : Text) (second : Option Text) (files : List Text)
    → verb ≡ l.verb → first ≡ l.first → second ≡ second_if (takes_second l.verb) l.second → files ≡ l.files
    → line_in words ≡ Some (record { verb = verb; first = first; second = second; files = files })
same_line words l verb first second files a b c d = rw (a, b, c, d) l.is
