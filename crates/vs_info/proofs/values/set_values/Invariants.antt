use Rattle.std.proofs.Common.{◌≡◌, map, take}
use Rattle.serde_json.specs.View.{view}
use Rattle.vs_info.specs.Json.{set_json}
use Rattle.vs_info.proofs.values.set_values.Given as goal

abbrev pub invariant-loop-set : goal.invariant-loop-set
invariant-loop-set l = map view l.values.items ≡ map set_json (take l.set-index l.sets)
