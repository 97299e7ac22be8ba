-- Good files without events give what is read of them.
use Rattle.std.proofs.Common.{◌≡◌, List, [], Ok, sym, subst}
use Rattle.vs_config.specs.Configuration.{Configuration}
use Rattle.vs_script.specs.Gathering.{gathering_of}
use Rattle.vs_script.specs.Scripts.{Script, Scripts}
use Rattle.vs_inputs.specs.declared.fault.InputFault.{InputFault}
use Rattle.vs_inputs.specs.Files.{Files}
use Rattle.vs_inputs.specs.Inputs.{HaveScripts, AreGoodScripts, IsGatherFault}
use Rattle.vs_inputs.specs.Places.{config_place}
use Rattle.vs_inputs.specs.Reading.{IsOutside}
use Rattle.vs_inputs.specs.RunInputs.{RunNames, HasRunConfig, AreGoodRunInputs}
use Rattle.vs_inputs.specs.Words.{files}
use Rattle.vs_inputs.proofs.Good.{same_config, same_scripts, gathers}

-- the scripts of good files are good over the configuration that was read
pub good_run_scripts : (all : Files) (names : RunNames) (config : Configuration) → HasRunConfig all names config → (good : AreGoodRunInputs all names) → AreGoodScripts config all names.scripts good.each
good_run_scripts all names config has good =
    subst (λ (c : Configuration). AreGoodScripts c all names.scripts good.each) (sym (same_config all (files names.config [] names.scripts) config good.config has good.config_file)) good.script_files

each_is : (all : Files) (names : RunNames) (config : Configuration) (given : List Script) → HasRunConfig all names config → HaveScripts config all names.scripts given → (good : AreGoodRunInputs all names) → given ≡ good.each
each_is all names config given has have good = same_scripts config all names.scripts given good.each have (good_run_scripts all names config has good)

-- they are gathered
pub good_run_gathers : (all : Files) (names : RunNames) (config : Configuration) (given : List Script) (fault : InputFault) → HasRunConfig all names config → HaveScripts config all names.scripts given → IsGatherFault config_place fault given
    → AreGoodRunInputs all names → IsOutside fault
good_run_gathers all names config given fault has have refused good =
    let gathered : gathering_of given ≡ Ok good.scripts = rw (each_is all names config given has have good) good.gathered in
    gathers config_place fault given good.scripts gathered refused

-- so what was gathered of the scripts that were read is what good files give
pub same_run_gathered : (all : Files) (names : RunNames) (config : Configuration) (given : List Script) (scripts : Scripts) → HasRunConfig all names config → HaveScripts config all names.scripts given → gathering_of given ≡ Ok scripts
    → (good : AreGoodRunInputs all names) → scripts ≡ good.scripts
same_run_gathered all names config given scripts has have gathered good =
    let both : gathering_of good.each ≡ Ok scripts = subst (λ (each : List Script). gathering_of each ≡ Ok scripts) (each_is all names config given has have good) gathered in
    cc (both, good.gathered)
