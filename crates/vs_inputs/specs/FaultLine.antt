-- The lines of faults of inputs. Inputs, lines and items are counted from 1.
use Rattle.std.specs.Prelude.{ℕ, ◌==◌, if◌then◌else◌, List, [], ◌++◌, codes}
use Rattle.std.specs.Fmt.{decimal}
use Rattle.vs_config.specs.declared.fault.ConfigKind.{ConfigKind}
use Rattle.vs_config.specs.declared.fault.ConfigKind.TheVariants.{NotToml, NoSets, TooManySets, NoWeight}
use Rattle.vs_config.specs.declared.key.ConfigKey.{ConfigKey}
use Rattle.vs_config.specs.Key.{name_of}
use Rattle.vs_inputs.specs.declared.fault.InputFault.{InputFault}
use Rattle.vs_inputs.specs.declared.fault.InputFault.TheVariants.{Text, Read, NoMemory}
use Rattle.vs_inputs.specs.declared.fault.TextFault.{TextFault}
use Rattle.vs_inputs.specs.declared.fault.TextFault.TheVariants.{TooLong, Config, Event, Script, Gather}
use Rattle.vs_inputs.specs.KindNames.{config_kind, script_kind, gather_kind}

-- the key, in the set of this number or, at 0, outside the sets
abbrev pub key_at : ℕ → ConfigKey → List ℕ
key_at set key =
    if set == 0 then codes " " ++ name_of key
    else codes " set " ++ decimal set ++ codes " " ++ name_of key

-- the key of a fault of this kind, unless it is about no single key
abbrev pub config_key : ConfigKind → ℕ → ConfigKey → List ℕ
config_key NotToml set key = []
config_key NoSets set key = []
config_key TooManySets set key = []
config_key NoWeight set key = []
config_key kind set key = key_at set key

-- what follows the input
abbrev pub text_fault : TextFault → List ℕ
text_fault TooLong = codes ": TooLong"
text_fault (Config kind set key) = codes ": " ++ config_kind kind ++ config_key kind set key
text_fault (Event line) = codes " line " ++ decimal line ++ codes ": BadEvent"
text_fault (Script kind line) = codes " line " ++ decimal line ++ codes ": " ++ script_kind kind
text_fault (Gather kind item) = codes " item " ++ decimal item ++ codes ": " ++ gather_kind kind

abbrev pub fault_line : InputFault → List ℕ
fault_line (Text input fault) =
    codes "vshard: input " ++ decimal input ++ text_fault fault ++ codes "\n"
fault_line (Read input) = codes "vshard: read input " ++ decimal input ++ codes "\n"
fault_line NoMemory = codes "vshard: memory\n"
