use Rattle.std.proofs.Common.{◌≡◌, map, take}
use Rattle.std.specs.List.{flat_map, enumerate_from}
use Rattle.serde_json.specs.View.{view}
use Rattle.vs_info.specs.Json.{set_alerts}
use Rattle.vs_info.proofs.alerts.alert_values.Given as goal

abbrev pub invariant-loop-i : goal.invariant-loop-i
invariant-loop-i l = map view l.values.items ≡ flat_map (λ (x, set). set_alerts x set) (enumerate_from 1 (take l.i l.sets))
