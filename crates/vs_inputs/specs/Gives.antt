-- What the text of an input gives: its value, or the first thing that is wrong with it.
use Rattle.std.specs.Prelude.{◌≡◌, ℕ, List, length, Result, Ok, Err}
use Rattle.vs_config.specs.Configuration.{Configuration}
use Rattle.vs_config.specs.Reading as config_text
use Rattle.vs_config.specs.declared.fault.ConfigFault.TheVariants as config_fault
use Rattle.vs_event.specs.declared.event.Event.{Event}
use Rattle.vs_event.specs.Event.{AreEvents, events_text, IsFirstBadLine}
use Rattle.vs_script.specs.declared.fault.ScriptFault.TheVariants as script_fault
use Rattle.vs_script.specs.Reading as script_text
use Rattle.vs_script.specs.Scripts.{Script}
use Rattle.vs_inputs.specs.declared.fault.TextFault.{TextFault}
use Rattle.vs_inputs.specs.declared.fault.TextFault.TheVariants as fault

-- ---- the text of a configuration

abbrev pub GivesConfig : List ℕ → Result Configuration TextFault → Type 0
GivesConfig text (Ok config) = config_text.reading_of text ≡ Ok config
GivesConfig text (Err (fault.Config kind set key)) =
    config_text.reading_of text ≡ Err (config_fault.Bad kind set key)
GivesConfig text (Err other) = ⊥

-- ---- the text of events

abbrev pub GivesEvents : List ℕ → Result (List Event) TextFault → Type 0
GivesEvents text (Ok events) = AreEvents events × (text ≡ events_text events)
GivesEvents text (Err (fault.Event line)) = IsFirstBadLine text line
GivesEvents text (Err other) = ⊥

-- ---- the text of a script, over the buckets and sets of a configuration

abbrev pub GivesScript : Configuration → List ℕ → Result Script TextFault → Type 0
GivesScript config text (Ok script) =
    script_text.reading_of config.bucket_count (length config.sets) text ≡ Ok script
GivesScript config text (Err (fault.Script kind line)) =
    script_text.reading_of config.bucket_count (length config.sets) text
    ≡ Err (script_fault.Bad kind line)
GivesScript config text (Err other) = ⊥
