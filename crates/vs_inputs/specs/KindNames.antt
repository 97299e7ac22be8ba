-- How the kinds of faults are named.
use Rattle.std.specs.Prelude.{ℕ, List, codes}
use Rattle.vs_config.specs.declared.fault.ConfigKind.{ConfigKind}
use Rattle.vs_config.specs.declared.fault.ConfigKind.TheVariants as config
use Rattle.vs_script.specs.declared.fault.ScriptKind.{ScriptKind}
use Rattle.vs_script.specs.declared.fault.ScriptKind.TheVariants as script
use Rattle.vs_script.specs.declared.gather_fault.GatherKind.{GatherKind}
use Rattle.vs_script.specs.declared.gather_fault.GatherKind.TheVariants as gather

abbrev pub config_kind : ConfigKind → List ℕ
config_kind config.NotToml = codes "NotToml"
config_kind config.UnknownKey = codes "UnknownKey"
config_kind config.MissingKey = codes "MissingKey"
config_kind config.WrongKind = codes "WrongKind"
config_kind config.OutOfRange = codes "OutOfRange"
config_kind config.NoSets = codes "NoSets"
config_kind config.TooManySets = codes "TooManySets"
config_kind config.BadUuid = codes "BadUuid"
config_kind config.DoubleUuid = codes "DoubleUuid"
config_kind config.NoWeight = codes "NoWeight"

abbrev pub script_kind : ScriptKind → List ℕ
script_kind script.BadByte = codes "BadByte"
script_kind script.LongWord = codes "LongWord"
script_kind script.BadHeader = codes "BadHeader"
script_kind script.BadWord = codes "BadWord"
script_kind script.BadNumber = codes "BadNumber"
script_kind script.BadBucket = codes "BadBucket"
script_kind script.BadSet = codes "BadSet"
script_kind script.BadClient = codes "BadClient"
script_kind script.WriteInRo = codes "WriteInRo"
script_kind script.BadScan = codes "BadScan"
script_kind script.TooManyOps = codes "TooManyOps"

abbrev pub gather_kind : GatherKind → List ℕ
gather_kind gather.TooManyClients = codes "TooManyClients"
gather_kind gather.TooManyOperators = codes "TooManyOperators"
gather_kind gather.TooManyCalls = codes "TooManyCalls"
gather_kind gather.TooManyScans = codes "TooManyScans"
gather_kind gather.TooManyCommands = codes "TooManyCommands"
gather_kind gather.BadClient = codes "BadClient"
gather_kind gather.BadCall = codes "BadCall"
