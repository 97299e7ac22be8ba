-- Good files give what is read of them.
use Rattle.std.proofs.Common.{◌≡◌, ℕ, List, [], ◌∷◌, Ok, Result, refl, sym, subst}
use Rattle.vs_config.specs.Configuration.{Configuration}
use Rattle.vs_script.specs.Gathering.{gathering_of}
use Rattle.vs_script.specs.Scripts.{Script, Scripts}
use Rattle.vs_inputs.specs.declared.fault.InputFault.{InputFault}
use Rattle.vs_inputs.specs.declared.fault.InputFault.TheVariants.{Text, Read, NoMemory}
use Rattle.vs_inputs.specs.declared.fault.TextFault.{TextFault}
use Rattle.vs_inputs.specs.declared.fault.TextFault.TheVariants.{Gather}
use Rattle.vs_inputs.specs.Files.{Files, HasText}
use Rattle.vs_inputs.specs.Gives.{GivesConfig, GivesScript}
use Rattle.vs_inputs.specs.Inputs.{HasConfig, HaveScripts, AreGoodScripts, IsGatherFault, AreGood}
use Rattle.vs_inputs.specs.Places.{events_place}
use Rattle.vs_inputs.specs.Reading.{IsOutside, IsGood}
use Rattle.vs_inputs.specs.Words.{Names}

pub same_text : {Y : Type 0} (files : Files) (name : List ℕ) (Gives : List ℕ → Result Y TextFault → Type 0) (P : List ℕ → Type 0) (value : Y) (has : HasText files name P) (good : IsGood files name Gives value) → has.0 ≡ good.text
same_text files name Gives P value has good = rw good.told at has.1

pub same_config : (files : Files) (names : Names) (x y : Configuration) → HasConfig files names x → IsGood files names.config GivesConfig y → x ≡ y
same_config files names x y has good =
    let text = same_text files names.config GivesConfig (λ text. GivesConfig text (Ok x)) y has good in
    let gives : GivesConfig good.text (Ok x) = subst (λ (t : List ℕ). GivesConfig t (Ok x)) text has.2 in
    cc (gives, good.gives)

pub same_script : (config : Configuration) (files : Files) (name : List ℕ) (x y : Script) → HasText files name (λ text. GivesScript config text (Ok x)) → IsGood files name (GivesScript config) y → x ≡ y
same_script config files name x y has good =
    let text = same_text files name (GivesScript config) (λ text. GivesScript config text (Ok x)) y has good in
    let gives : GivesScript config good.text (Ok x) = subst (λ (t : List ℕ). GivesScript config t (Ok x)) text has.2 in
    cc (gives, good.gives)

pub same_scripts : (config : Configuration) (files : Files) (names : List (List ℕ)) (xs ys : List Script) → HaveScripts config files names xs → AreGoodScripts config files names ys → xs ≡ ys
same_scripts config files [] [] [] has good = refl
same_scripts config files [] (x ∷ xs) ys has good = absurd has
same_scripts config files [] [] (y ∷ ys) has good = absurd good
same_scripts config files (n ∷ ns) [] ys has good = absurd has
same_scripts config files (n ∷ ns) (x ∷ xs) [] has good = absurd good
same_scripts config files (n ∷ ns) (x ∷ xs) (y ∷ ys) has good =
    let first = same_script config files n x y has.0 good.0 in
    let others = same_scripts config files ns xs ys has.1 good.1 in
    cc

pub gathers : (place : ℕ) (fault : InputFault) (scripts : List Script) (gathered : Scripts) → gathering_of scripts ≡ Ok gathered → IsGatherFault place fault scripts → IsOutside fault
gathers place (Text k (Gather kind item)) scripts gathered good refused = let no : ⊥ = cc (good, refused.2) in absurd no
gathers place (Text k other) scripts gathered good refused = absurd refused
gathers place (Read k) scripts gathered good refused = tt
gathers place NoMemory scripts gathered good refused = tt

-- the scripts of good files are gathered
pub good_gathers : (files : Files) (names : Names) (config : Configuration) (scripts : List Script) (fault : InputFault) → HasConfig files names config → HaveScripts config files names.scripts scripts → IsGatherFault events_place fault scripts → AreGood files names
    → IsOutside fault
good_gathers files names config scripts fault has-config have-scripts refused good =
    let same = same_config files names config good.config has-config good.config_file in
    let have : HaveScripts good.config files names.scripts scripts = subst (λ (c : Configuration). HaveScripts c files names.scripts scripts) same have-scripts in
    let each = same_scripts good.config files names.scripts scripts good.each have good.script_files in
    gathers events_place fault scripts good.scripts (rw each good.gathered) refused

-- and their scripts are good over the configuration that was read
pub good_scripts : (files : Files) (names : Names) (config : Configuration) → HasConfig files names config → (good : AreGood files names) → AreGoodScripts config files names.scripts good.each
good_scripts files names config has good =
    subst (λ (c : Configuration). AreGoodScripts c files names.scripts good.each) (sym (same_config files names config good.config has good.config_file)) good.script_files

-- so what was gathered of the scripts that were read is what good files give
pub same_gathered : (files : Files) (names : Names) (config : Configuration) (given : List Script) (scripts : Scripts) → HasConfig files names config → HaveScripts config files names.scripts given → gathering_of given ≡ Ok scripts → (good : AreGood files names)
    → scripts ≡ good.scripts
same_gathered files names config given scripts has have gathered good =
    let each = same_scripts config files names.scripts given good.each have (good_scripts files names config has good) in
    let both : gathering_of good.each ≡ Ok scripts = subst (λ (each : List Script). gathering_of each ≡ Ok scripts) each gathered in
    cc (both, good.gathered)
