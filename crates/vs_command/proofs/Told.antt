-- What clap is told, by its parts.
use Rattle.std.proofs.Common.{◌≡◌, ◌⊎◌, inl, inr, [], ◌∷◌, Bool, true, false, ◌&&◌, not, refl, ap, ◌∙◌, codes}
use Rattle.std.proofs.lemmas.Bool.{false≢true}
use Rattle.std.specs.Prelude.{IfOk, Result, Ok, Err}
use Rattle.clap.specs.Words.{AddsArg, AddsSubcommand, App, IsAmong, Kinds, Rule, app_of, is_simple, is_simple_and_free, new_app, rule_of, with_rule, with_subcommand}
use Rattle.clap.specs.declared.builder.arg.Arg.{Arg}
use Rattle.clap.specs.declared.error.kind.ErrorKind.{ErrorKind}
use Rattle.clap.specs.declared.error.kind.ErrorKind.TheVariants as kind
use Rattle.clap.proofs.OnLiterals.{clap_on_literals}
use Rattle.clap.specs.declared.builder.command.Command.{Command}
use Rattle.vs_command.specs.Parser.{files_rule, needed_rule, no_verbs, verb_app, with_rule_if, with_verb, words_app}
use Rattle.vs_command.specs.Verb.{name_of, takes_files, takes_second}
use Rattle.vs_command.specs.declared.verb.Verb.{Verb}
use Rattle.vs_command.specs.declared.verb.Verb.TheVariants.{Run, Play, Gen, Reads, Plan, Audit, Info}

-- a plain command has no argument that it shares with its subcommands
third_part : (a b c rest : Bool) → (a && (b && (not c && rest))) ≡ true → c ≡ false
third_part true true false rest h = refl
third_part true true true rest h = absurd (false≢true h)
third_part true false c rest h = absurd (false≢true h)
third_part false b c rest h = absurd (false≢true h)

plain_verb : (verb : Verb) → (verb_app verb).top.is_plain ≡ true
plain_verb Run = refl
plain_verb Play = refl
plain_verb Gen = refl
plain_verb Reads = refl
plain_verb Plan = refl
plain_verb Audit = refl
plain_verb Info = refl

-- ---- the steps by which it is told

pub arg_told : {E : Type 0} (r : Result Command E) (old : Command) (holds : Bool) (a : Arg) → holds ≡ true → a.global ≡ false
    → IfOk r (λ c. AddsArg old a c) → IfOk r (λ c. app_of c ≡ with_rule_if holds (rule_of a) (app_of old))
arg_told (Ok c) old holds a is local adds = rw is (adds.shape local)
arg_told (Err e) old holds a is local adds = tt

pub verb_told : {E : Type 0} (r : Result Command E) (old sub : Command) (verb : Verb) → app_of sub ≡ verb_app verb
    → IfOk r (λ c. AddsSubcommand old sub c) → IfOk r (λ c. app_of c ≡ with_verb (app_of old) verb)
verb_told (Ok c) old sub verb is adds =
    let plain : (app_of sub).top.is_plain ≡ true = ap (λ (a : App). a.top.is_plain) is ∙ plain_verb verb in
    adds.shape (third_part _ _ _ _ plain) ∙ ap (λ (a : App). with_subcommand (app_of old) a.top) is
verb_told (Err e) old sub verb is adds = tt

pub words_told : (verb : Verb) (a b c : App) (r s t : Rule) (two may : Bool) → a ≡ with_rule (new_app (name_of verb)) r → r ≡ needed_rule (codes "first")
    → b ≡ with_rule_if two s a → two ≡ takes_second verb → s ≡ needed_rule (codes "second")
    → c ≡ with_rule_if may t b → may ≡ takes_files verb → t ≡ files_rule → c ≡ verb_app verb
words_told verb a b c r s t two may a_is r_is b_is two_is s_is c_is may_is t_is = rw (c_is, b_is, a_is, may_is, two_is, r_is, s_is, t_is) refl

pub all_told : (a b c d e f g : App) → a ≡ with_verb no_verbs Run → b ≡ with_verb a Play → c ≡ with_verb b Gen → d ≡ with_verb c Reads → e ≡ with_verb d Plan
    → f ≡ with_verb e Audit → g ≡ with_verb f Info → g ≡ words_app
all_told a b c d e f g a_is b_is c_is d_is e_is f_is g_is = rw (g_is, f_is, e_is, d_is, c_is, b_is, a_is) refl

pub simple_words : is_simple_and_free words_app ≡ true
unfolding clap_on_literals
simple_words = refl

pub simple_app : is_simple words_app ≡ true
unfolding clap_on_literals
simple_app = refl

-- an error of another kind than want of memory comes only where the words have a fault
pub kinds_some : (kinds : Kinds) (k : ErrorKind) → (k ≡ kind.OutOfMemory → ⊥) → (k ≡ kind.OutOfMemory) ⊎ IsAmong k kinds → kinds ≡ [] → ⊥
kinds_some [] k other (inl memory) none = other memory
kinds_some [] k other (inr absent) none = absent
kinds_some (x ∷ xs) k other h none = cc

pub line_told : {E : Type 0} (result : Result Command E) (verb : Verb) (a b : App) (r s t : Rule) (two may : Bool) → a ≡ with_rule (new_app (name_of verb)) r
    → r ≡ needed_rule (codes "first") → b ≡ with_rule_if two s a → two ≡ takes_second verb → s ≡ needed_rule (codes "second")
    → IfOk result (λ c. app_of c ≡ with_rule_if may t b) → may ≡ takes_files verb → t ≡ files_rule → IfOk result (λ c. app_of c ≡ verb_app verb)
line_told (Ok c) verb a b r s t two may a_is r_is b_is two_is s_is c_is may_is t_is = words_told verb a b (app_of c) r s t two may a_is r_is b_is two_is s_is c_is may_is t_is
line_told (Err e) verb a b r s t two may a_is r_is b_is two_is s_is c_is may_is t_is = tt
